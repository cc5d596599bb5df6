-- Places among which the open ones are.
use Rattle.std.proofs.Common.{◌≡◌, ℕ, ◌<◌, ◌≤◌, Bool, true, false, not, cond, List, [], ◌∷◌, ◌++◌, length, filter, Option, None, Some, refl, sym, ◌∙◌, ap, subst, arith, All}
use Rattle.std.proofs.lemmas.List.{length_push, get_or_append_left}
use Rattle.std.proofs.lemmas.List.Elements.{All-nil, All-head, All-tail}
use Rattle.std.specs.Prelude.{is_none, is_some, ◌&&◌, ◌||◌}
use Rattle.std.specs.List.{range_with_len}
use Rattle.dml_types.specs.Memory.{Memory}
use Rattle.dml_order.specs.Order.{is_in, run_all}
use Rattle.dml_order.proofs.OrderLemmas.{filter_range_same}
use Rattle.dml_core.specs.Types.{Record, Fetched}
use Rattle.dml_core.specs.Plan.{no_entry, entry_at, is_open, open_places}
use Rattle.dml_core.specs.World.{Progress, carry_out, progress}
use Rattle.dml_core.specs.Gather.{HoldOpen}
use Rattle.dml_core.proofs.PlaceLemmas.{filter_twice}
use Rattle.dml_core.proofs.FoldLemmas.{answers_set, count_stays}
use Rattle.dml_core.proofs.PlanFacts.{places_inside}

-- two tests that agree on a list keep the same of it
kept_same : (p q : ℕ → Bool) (xs : List ℕ) → All (λ i. p i ≡ q i) xs → filter p xs ≡ filter q xs
kept_same p q [] same = refl
kept_same p q (x ∷ xs) same =
    ap (λ b. cond b (x ∷ filter p xs) (filter p xs)) (All-head (λ i. p i ≡ q i) x xs same)
    ∙ ap (λ (kept : List ℕ). cond (q x) (x ∷ kept) kept) (kept_same p q xs (All-tail (λ i. p i ≡ q i) x xs same))

both_same : (b : Bool) → (b && b) ≡ b
both_same true = refl
both_same false = refl

kept_again : (p : ℕ → Bool) (xs : List ℕ) → filter p (filter p xs) ≡ filter p xs
kept_again p xs =
    let same : (λ i. p i && p i) ≡ p = λ t i. both_same (p i) t in
    filter_twice p p xs ∙ ap (λ (test : ℕ → Bool). filter test xs) same

-- no place holds all open ones of an empty list
none_held : HoldOpen [] [] 0
none_held = record { inside = All-nil (λ i. i < 0); open_ones = refl }

pub none_open : (places : List ℕ) (fetched : List Fetched) → places ≡ [] → fetched ≡ [] → HoldOpen places fetched (length fetched)
none_open places fetched none empty =
    subst (λ (l : List ℕ). HoldOpen l fetched (length fetched)) (sym none)
    (subst (λ (l : List Fetched). HoldOpen [] l (length l)) (sym empty) none_held)

-- the open places do
open_held : (places : List ℕ) (fetched : List Fetched) → places ≡ open_places fetched → HoldOpen places fetched (length fetched)
open_held places fetched is = record {
  inside = places_inside fetched places is;
  open_ones = ap (filter (is_open fetched)) is ∙ kept_again (is_open fetched) (range_with_len 0 (length fetched));
}

pub open_held_by : (places : List ℕ) (list fetched : List Fetched) → list ≡ fetched → places ≡ open_places list → HoldOpen places fetched (length fetched)
open_held_by places list fetched same is = open_held places fetched (is ∙ ap open_places same)

-- a longer list with the same entries in front
abbrev pub IsLonger : List Fetched → List Fetched → Type 0
IsLonger old new = (length old ≤ length new) × ((i : ℕ) → i < length old → entry_at new i ≡ entry_at old i)

same_open : (old new : List Fetched) → IsLonger old new → (i : ℕ) → i < length old → is_open new i ≡ is_open old i
same_open old new longer i below = ap (λ (e : Fetched). is_none e.answer) (longer.1 i below)

pub pushed_longer : (fetched : List Fetched) (entry : Fetched) → IsLonger fetched (fetched ++ entry ∷ [])
pushed_longer fetched entry =
    let size = length_push fetched entry in
    (omega (arith, size), λ i below. get_or_append_left fetched (entry ∷ []) no_entry i below)

-- behind it they still hold those below its end
held_below : (places : List ℕ) (old new : List Fetched) → IsLonger old new → HoldOpen places old (length old) → HoldOpen places new (length old)
held_below places old new longer before = record {
  inside = λ k d below. (let inside = before.inside k d below in omega (arith, inside, longer.0));
  open_ones =
      kept_same (is_open new) (is_open old) places (λ k d below. same_open old new longer _ (before.inside k d below))
      ∙ (before.open_ones
      ∙ sym (filter_range_same (is_open new) (is_open old) 0 (length old) (λ i low below. same_open old new longer i (let e : i < length old = omega (arith, below) in e))));
}

pub held_longer : (places : List ℕ) (old new list : List Fetched) (from : ℕ) → IsLonger old new → list ≡ new → from ≡ length old → HoldOpen places old (length old) → HoldOpen places list from
held_longer places old new list from longer same is before =
    subst (λ (l : List Fetched). HoldOpen places l from) (sym same)
    (subst (HoldOpen places new) (sym is) (held_below places old new longer before))

-- and once the list is as before, all of it
held_whole : (places : List ℕ) (old new : List Fetched) → IsLonger old new → places ≡ filter (is_open new) (range_with_len 0 (length old)) → HoldOpen places old (length old)
held_whole places old new longer is =
    open_held places old
    (is ∙ filter_range_same (is_open new) (is_open old) 0 (length old) (λ i low below. same_open old new longer i (let e : i < length old = omega (arith, below) in e)))

pub held_back : (places : List ℕ) (old new list back : List Fetched) (from : ℕ) → IsLonger old new → list ≡ new → from ≡ length old → back ≡ old → places ≡ filter (is_open list) (range_with_len 0 from) → HoldOpen places back (length back)
held_back places old new list back from longer same is again kept =
    subst (λ (l : List Fetched). HoldOpen places l (length l)) (sym again)
    (held_whole places old new longer
    (kept ∙ (ap (λ (l : List Fetched). filter (is_open l) (range_with_len 0 from)) same ∙ ap (λ n. filter (is_open new) (range_with_len 0 n)) is)))

-- jobs carried out: a place is open where it was, and is not among theirs
none_is : (answer : Option Record) → is_none answer ≡ not (is_some answer)
none_is None = refl
none_is (Some r) = refl

either_turned : (a b : Bool) → not (a || b) ≡ (not b && not a)
either_turned true true = refl
either_turned true false = refl
either_turned false true = refl
either_turned false false = refl

open_after : (staging : ℕ) (wave : List ℕ) (now : Progress) (i : ℕ) → i < length now.fetched → is_open (run_all (carry_out staging) now wave).fetched i ≡ (is_open now.fetched i && not (is_in i wave))
open_after staging wave now i below =
    none_is (entry_at (run_all (carry_out staging) now wave).fetched i).answer
    ∙ (ap not (answers_set staging wave now i below)
    ∙ (either_turned (is_in i wave) (is_some (entry_at now.fetched i).answer)
    ∙ ap (λ b. b && not (is_in i wave)) (sym (none_is (entry_at now.fetched i).answer))))

pub held_after : (places : List ℕ) (staging : ℕ) (wave : List ℕ) (image new_image : Memory) (fetched new_fetched : List Fetched) → progress new_image new_fetched ≡ run_all (carry_out staging) (progress image fetched) wave → HoldOpen places fetched (length fetched) → HoldOpen places new_fetched (length new_fetched)
held_after places staging wave image new_image fetched new_fetched is before =
    subst (λ (p : Progress). HoldOpen places p.fetched (length p.fetched)) (sym is) (record {
      inside = λ k d below. (let inside = before.inside k d below in omega (arith, inside, size));
      open_ones =
          kept_same (is_open done.fetched) still places (λ k d below. open_after staging wave now _ (before.inside k d below))
          ∙ (sym (filter_twice out (is_open now.fetched) places)
          ∙ (ap (filter out) before.open_ones
          ∙ (filter_twice out (is_open now.fetched) (range_with_len 0 (length now.fetched))
          ∙ (sym (filter_range_same (is_open done.fetched) still 0 (length now.fetched) (λ i low below. open_after staging wave now i (let e : i < length now.fetched = omega (arith, below) in e)))
          ∙ ap (λ n. filter (is_open done.fetched) (range_with_len 0 n)) (sym size)))));
    })
  where
    now : Progress
    now = progress image fetched

    done : Progress
    done = run_all (carry_out staging) now wave

    size : length done.fetched ≡ length now.fetched
    size = count_stays staging wave now

    out : ℕ → Bool
    out i = not (is_in i wave)

    still : ℕ → Bool
    still i = is_open now.fetched i && not (is_in i wave)
