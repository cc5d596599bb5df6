-- Slots that refer to the outcomes of lists, place by place and list by list.
use Rattle.std.proofs.Common.{◌≡◌, ◌<◌, ℕ, List, [], ◌∷◌, ◌++◌, map, set, get_or, length, replicate, Option, None, Some, MutBor, refl, sym, ap, ◌∙◌, subst, append_assoc}
use Rattle.std.specs.Global.{Vec as Outcomes}
use Rattle.std.specs.Prelude.{unwrap_or, is_some}
use Rattle.std.specs.List.{All}
use Rattle.std.proofs.lemmas.List.{append-nil, map-append, length-map, length-replicate, get_or-map, get_or-replicate}
use Rattle.std.proofs.lemmas.List.Elements.{All-head, All-tail, filter_map-append}
use Rattle.std.proofs.lemmas.Grind.{flat_map-append}
use mathlib.Core.Bool.{true≢false}
use Rattle.dml_pool.specs.declared.tasks.Outcome.{Outcome}
use Rattle.dml_pool.specs.Slots.{AreSlots, IsSlot, all_held, behind, held, number_in}
use Rattle.dml_pool.proofs.Orders.{more_slots}

abbrev Place : Type 0
Place = Option Outcome

abbrev number : Outcome → ℕ
number outcome = outcome.task

-- the outcomes of a list are numbered below a bound: of its first place, and of the others
pub first_within : (count : ℕ) (place : Place) (rest : List Place) (task : ℕ) → number_in place ≡ Some task
    → All (λ (o : Outcome). o.task < count) (held (place ∷ rest)) → task < count
first_within count None rest task none all = absurd (true≢false (sym (ap is_some none)))
first_within count (Some o) rest task is all =
    subst (λ n. n < count) (ap (λ (n : Option ℕ). unwrap_or n 0) is) (All-head (λ (o : Outcome). o.task < count) o (held rest) all)

pub rest_within : (count : ℕ) (place : Place) (rest : List Place) → All (λ (o : Outcome). o.task < count) (held (place ∷ rest))
    → All (λ (o : Outcome). o.task < count) (held rest)
rest_within count None rest all = all
rest_within count (Some o) rest all = All-tail (λ (o : Outcome). o.task < count) o (held rest) all

held_next : (places : List (MutBor Place)) (place : MutBor Place)
    → held (map (λ (p : MutBor Place). p.now) (places ++ place ∷ [])) ≡ held (map (λ (p : MutBor Place). p.now) places) ++ held (place.now ∷ [])
held_next places place =
    ap held (map-append (λ (p : MutBor Place). p.now) places (place ∷ []))
    ∙ filter_map-append (λ (p : Place). p) (map (λ (p : MutBor Place). p.now) places) (place.now ∷ [])

put : (outcomes : List Outcome) (slots : List Place) (place : Place) (task : ℕ) → number_in place ≡ Some task → task < length slots → AreSlots outcomes slots
    → AreSlots (outcomes ++ held (place ∷ [])) (set slots task place)
put outcomes slots None task none inside are = absurd (true≢false (sym (ap is_some none)))
put outcomes slots (Some o) task is inside are =
    let same : o.task ≡ task = ap (λ (n : Option ℕ). unwrap_or n 0) is in
    subst (λ n. AreSlots (outcomes ++ o ∷ []) (set slots n (Some o))) same
    (more_slots outcomes slots o (subst (λ n. n < length slots) (sym same) inside) are)

-- one place more, which holds an outcome
pub placed_more : (before : List Outcome) (places : List (MutBor Place)) (slots : List Place) (place : MutBor Place) (task : ℕ)
    → number_in place.now ≡ Some task → task < length slots → AreSlots (before ++ held (map (λ (p : MutBor Place). p.now) places)) slots
    → AreSlots (before ++ held (map (λ (p : MutBor Place). p.now) (places ++ place ∷ []))) (set slots task place.now)
placed_more before places slots place task is inside are =
    let here = held (map (λ (p : MutBor Place). p.now) places) in
    let all : before ++ here ++ held (place.now ∷ []) ≡ before ++ held (map (λ (p : MutBor Place). p.now) (places ++ place ∷ [])) =
    append_assoc before here (held (place.now ∷ [])) ∙ ap (λ l. before ++ l) (sym (held_next places place)) in
    subst (λ l. AreSlots l (set slots task place.now)) all (put (before ++ here) slots place.now task is inside are)

-- one place more, which holds none
none_there : (place : Place) → number_in place ≡ None → held (place ∷ []) ≡ []
none_there None none = refl
none_there (Some o) some = absurd (true≢false (ap is_some some))

pub placed_same : (before : List Outcome) (places : List (MutBor Place)) (slots : List Place) (place : MutBor Place) → number_in place.now ≡ None
    → AreSlots (before ++ held (map (λ (p : MutBor Place). p.now) places)) slots
    → AreSlots (before ++ held (map (λ (p : MutBor Place). p.now) (places ++ place ∷ []))) slots
placed_same before places slots place none are =
    let here = held (map (λ (p : MutBor Place). p.now) places) in
    let all : here ≡ held (map (λ (p : MutBor Place). p.now) (places ++ place ∷ [])) =
    sym (append-nil here) ∙ (ap (λ l. here ++ l) (sym (none_there place.now none)) ∙ sym (held_next places place)) in
    subst (λ l. AreSlots (before ++ l) slots) all are

abbrev nowhere : Option (MutBor Place)
nowhere = None

-- slots that refer to nothing
pub none_placed : (count : ℕ) → AreSlots [] (map behind (replicate count None))
none_placed count k d inside =
    let long : k < length (replicate count nowhere) = subst (λ n. k < n) (length-map (replicate count nowhere) behind) inside in
    let within : k < count = subst (λ n. k < n) (length-replicate count nowhere) long in
    let empty : get_or (map behind (replicate count nowhere)) k d ≡ None =
    get_or-map behind (replicate count nowhere) k nowhere d long ∙ ap behind (get_or-replicate count k nowhere nowhere within) in
    subst (IsSlot [] k) (sym empty) refl

-- what slots refer to, one slot after another
pub held_behind_next : (slots : List (MutBor (Option (MutBor Place)))) (slot : MutBor (Option (MutBor Place)))
    → held (map behind (map (λ (s : MutBor (Option (MutBor Place))). s.now) (slots ++ slot ∷ [])))
    ≡ held (map behind (map (λ (s : MutBor (Option (MutBor Place))). s.now) slots)) ++ held (behind slot.now ∷ [])
held_behind_next slots slot =
    let now : MutBor (Option (MutBor Place)) → Option (MutBor Place) = λ s. s.now in
    ap (λ l. held (map behind l)) (map-append now slots (slot ∷ []))
    ∙ (ap held (map-append behind (map now slots) (slot.now ∷ []))
    ∙ filter_map-append (λ (p : Place). p) (map behind (map now slots)) (behind slot.now ∷ []))

-- the outcomes of lists, one list after another
pub all_held_next : (lists : List (MutBor (Outcomes Place))) (list : MutBor (Outcomes Place))
    → all_held (map (λ (l : MutBor (Outcomes Place)). l.now) (lists ++ list ∷ []))
    ≡ all_held (map (λ (l : MutBor (Outcomes Place)). l.now) lists) ++ held list.now.items
all_held_next lists list =
    let now : MutBor (Outcomes Place) → Outcomes Place = λ l. l.now in
    ap all_held (map-append now lists (list ∷ []))
    ∙ (flat_map-append (λ (l : Outcomes Place). held l.items) (map now lists) (list.now ∷ [])
    ∙ ap (λ l. all_held (map now lists) ++ l) (append-nil (held list.now.items)))
