-- Outcomes put into slots, one for each task, and taken out again.
use Rattle.std.proofs.Common.{◌≡◌, ◌≢◌, ℕ, suc, ◌+◌, ◌<◌, List, [], ◌∷◌, ◌++◌, map, set, get_or, length, drop, Option, None, Some, IsSome, IsSomeAnd, refl, sym, ap, ap₂, ◌∙◌, subst, ⊎_elim, arith, length-append, append_assoc}
use Rattle.std.specs.List.{All, AllZip, Contains, range_with_len, slice_get}
use Rattle.std.proofs.lemmas.Bool.Decides.{nat_tests}
use Rattle.std.proofs.lemmas.List.{map-append, get_or-map, get_or-set_other, length-map, length-set}
use Rattle.std.proofs.lemmas.Bool.{cases_eq}
use Rattle.std.proofs.lemmas.List.Elements.{All-head, All-tail, All-weaker, All-contains, Contains-append_left, Contains-push}
use Rattle.std.proofs.lemmas.Grind.{get_or-set_at}
use Rattle.dml_types.specs.Memory.{Memory}
use Rattle.dml_pool.specs.declared.tasks.Task.{Task}
use Rattle.dml_pool.specs.declared.tasks.Outcome.{Outcome}
use Rattle.dml_pool.specs.Tasks.{IsTaskValue}
use Rattle.dml_pool.specs.Numbers.{times, once_below}
use Rattle.dml_pool.specs.Rule.{tasks_done, AreTaskValues, IsDone}
use Rattle.std.specs.Global.{Vec as List'}
use Rattle.dml_pool.specs.Slots.{IsSlot, AreFilled, AreOutcomes, AreSlots, HoldAll, all_held, held}
use Rattle.dml_pool.proofs.Counts.{times_append}
use Rattle.dml_pool.proofs.Keeps.{get_longer, get_last}

kept_slot : (outcomes : List Outcome) (outcome : Outcome) (k : ℕ) (slot : Option Outcome) → k ≢ outcome.task → IsSlot outcomes k slot → IsSlot (outcomes ++ outcome ∷ []) k slot
kept_slot outcomes outcome k None other none =
    let sum : times k (tasks_done (outcomes ++ outcome ∷ [])) ≡ times k (tasks_done outcomes) + times k (outcome.task ∷ []) =
    ap (times k) (map-append (λ (o : Outcome). o.task) outcomes (outcome ∷ [])) ∙ times_append k (tasks_done outcomes) (outcome.task ∷ []) in
    let apart : times k (outcome.task ∷ []) ≡ 0 = grind (arith, nat_tests, other) in
    omega (arith, sum, apart, none)
kept_slot outcomes outcome k (Some o) other some = (some.0, Contains-append_left outcomes (outcome ∷ []) o some.1)

pub more_slots : (outcomes : List Outcome) (slots : List (Option Outcome)) (outcome : Outcome) → outcome.task < length slots → AreSlots outcomes slots
    → AreSlots (outcomes ++ outcome ∷ []) (set slots outcome.task (Some outcome))
more_slots outcomes slots outcome room are k d inside =
    let more = outcomes ++ outcome ∷ [] in
    let put = set slots outcome.task (Some outcome) in
    ⊎_elim (λ (same : k ≡ outcome.task).
    let here : get_or put k d ≡ Some outcome = get_or-set_at slots outcome.task k (Some outcome) d same room in
    subst (IsSlot more k) (sym here) (sym same, Contains-push outcomes outcome))
    (λ (other : k ≢ outcome.task).
    let there : get_or put k d ≡ get_or slots k d = get_or-set_other slots outcome.task k (Some outcome) d other in
    let inside' : k < length slots = omega (arith, inside, length-set slots outcome.task (Some outcome)) in
    subst (IsSlot more k) (sym there) (kept_slot outcomes outcome k (get_or slots k d) other (are k d inside')))
    (cases_eq k outcome.task)

-- where every task has an outcome, no slot is empty
full_slot : (done : List Outcome) (k : ℕ) (slot : Option Outcome) → 0 < times k (tasks_done done) → IsSlot done k slot → IsSome slot
full_slot done k None some none = absurd (omega (arith, some, none))
full_slot done k (Some o) some is = refl

pub full_slots : (count : ℕ) (done : List Outcome) (slots : List (Option Outcome)) → ((x : ℕ) → times x (tasks_done done) ≡ once_below x count)
    → length slots ≡ count → AreSlots done slots → All IsSome slots
full_slots count done slots once long are k d inside =
    let one = once k in
    let some : once_below k count ≡ 1 = grind (arith, nat_tests, inside, long) in
    full_slot done k (get_or slots k d) (omega (arith, one, some)) (are k d inside)

-- what the slots hold is in order, and nothing else than was put
pub opened_from : (done : List Outcome) (n : ℕ) (all : List Outcome)
    → ((k : ℕ) (d : Option Outcome) → k < length all → IsSlot done (n + k) (get_or (map (λ o. Some o) all) k d)) → tasks_done all ≡ range_with_len n (length all)
opened_from done n [] are = refl
opened_from done n (o ∷ all) are =
    let here : o.task ≡ n = (are 0 None (omega arith)).0 ∙ omega arith in
    let rest = opened_from done (n + 1) all (λ k d inside.
    let place : n + suc k ≡ n + 1 + k = omega arith in
    subst (λ m. IsSlot done m (get_or (map (λ (o : Outcome). Some o) all) k d)) place (are (suc k) d (omega (arith, inside)))) in
    ap₂ (λ x l. x ∷ l) here rest

pub opened_order : (count : ℕ) (done all : List Outcome) (slots : List (Option Outcome)) → map (λ o. Some o) all ≡ slots → length slots ≡ count → AreSlots done slots
    → tasks_done all ≡ range_with_len 0 count
opened_order count done all slots same long are =
    let some : Outcome → Option Outcome = λ o. Some o in
    let known : AreSlots done (map some all) = subst (AreSlots done) (sym same) are in
    let length' : length all ≡ count = sym (length-map all some) ∙ (ap length same ∙ long) in
    opened_from done 0 all (λ k d inside.
    let place : k ≡ 0 + k = omega arith in
    subst (λ m. IsSlot done m (get_or (map some all) k d)) place (known k d (omega (arith, inside, length-map all some))))
    ∙ ap (range_with_len 0) length'

pub opened_known : (done all : List Outcome) (slots : List (Option Outcome)) → map (λ o. Some o) all ≡ slots → AreSlots done slots → All (Contains done) all
opened_known done all slots same are k d inside =
    let some : Outcome → Option Outcome = λ o. Some o in
    let known : AreSlots done (map some all) = subst (AreSlots done) (sym same) are in
    let here : get_or (map some all) k None ≡ Some (get_or all k d) = get_or-map some all k d None inside in
    let slot : IsSlot done k (Some (get_or all k d)) = subst (IsSlot done k) here (known k None (omega (arith, inside, length-map all some))) in
    slot.1

-- outcomes in order, each of the task with its number, are those of the tasks one after another
zipped_from : (memory : Memory) (before tasks : List Task) (outcomes : List Outcome) → tasks_done outcomes ≡ range_with_len (length before) (length tasks)
    → All (IsDone memory (before ++ tasks)) outcomes → AllZip (λ task outcome. IsTaskValue memory task outcome.piece) tasks outcomes
zipped_from memory before [] [] order done = tt
zipped_from memory before [] (o ∷ outcomes) order done = absurd (let long = ap length order in omega (arith, long))
zipped_from memory before (task ∷ tasks) [] order done = absurd (let long = ap length order in omega (arith, long))
zipped_from memory before (task ∷ tasks) (o ∷ outcomes) order done =
    let all = before ++ task ∷ tasks in
    let parted : before ++ task ∷ [] ++ tasks ≡ all = append_assoc before (task ∷ []) tasks in
    let here : o.task ≡ length before = ap (λ l. get_or l 0 0) order in
    let found : slice_get all o.task ≡ Some task =
    ap (slice_get all) here
    ∙ (ap (λ l. slice_get l (length before)) (sym parted) ∙ get_longer (before ++ task ∷ []) tasks (length before) task (get_last before task)) in
    let rest : tasks_done outcomes ≡ range_with_len (length (before ++ task ∷ [])) (length tasks) =
    ap (drop 1) order ∙ ap (λ n. range_with_len n (length tasks)) (sym (length-append before (task ∷ []))) in (
      subst (λ (t : Option Task). IsSomeAnd t (λ u. IsTaskValue memory u o.piece)) found (All-head (IsDone memory all) o outcomes done),
      zipped_from memory (before ++ task ∷ []) tasks outcomes rest
          (subst (λ l. All (IsDone memory l) outcomes) (sym parted) (All-tail (IsDone memory all) o outcomes done)),
    )

pub zipped : (memory : Memory) (tasks : List Task) (done all : List Outcome) → tasks_done all ≡ range_with_len 0 (length tasks)
    → All (Contains done) all → All (IsDone memory tasks) done → AllZip (λ task outcome. IsTaskValue memory task outcome.piece) tasks all
zipped memory tasks done all order known each =
    zipped_from memory [] tasks all order
    (All-weaker (Contains done) (IsDone memory tasks) (λ o has. All-contains (IsDone memory tasks) done o each has) all known)

-- full slots are those of their outcomes
unwrapped : (slots : List (Option Outcome)) → All IsSome slots → (all : List Outcome) × (map (λ o. Some o) all ≡ slots)
unwrapped [] full = ([], refl)
unwrapped (None ∷ slots) full = absurd (let none = All-head IsSome None slots full in cc)
unwrapped (Some o ∷ slots) full =
    let rest = unwrapped slots (All-tail IsSome (Some o) slots full) in
    (o ∷ rest.0, ap (λ l. Some o ∷ l) rest.1)

pub slots_filled : (memory : Memory) (tasks : List Task) (count : ℕ) (done : List Outcome) (slots : List (Option Outcome)) → count ≡ length tasks
    → ((x : ℕ) → times x (tasks_done done) ≡ once_below x count) → All (IsDone memory tasks) done → length slots ≡ count → AreSlots done slots → AreFilled memory tasks slots
slots_filled memory tasks count done slots same once each long are =
    let all = unwrapped slots (full_slots count done slots once long are) in
    let order = opened_order count done all.0 slots all.1 long are ∙ ap (range_with_len 0) same in record {
      outcomes = all.0;
      full = sym all.1;
      order = order;
      values = zipped memory tasks done all.0 order (opened_known done all.0 slots all.1 are) each;
    }

-- what filled slots hold
some_held : (outcomes : List Outcome) → held (map (λ o. Some o) outcomes) ≡ outcomes
some_held [] = refl
some_held (o ∷ outcomes) = ap (λ l. o ∷ l) (some_held outcomes)

pub opened_filled : (memory : Memory) (tasks : List Task) (slots : List (Option Outcome)) → AreFilled memory tasks slots → AreOutcomes memory tasks (held slots)
opened_filled memory tasks slots filled =
    let is : filled.outcomes ≡ held slots = sym (ap held filled.full ∙ some_held filled.outcomes) in
    (subst (λ l. tasks_done l ≡ range_with_len 0 (length tasks)) is filled.order, subst (AreTaskValues memory tasks) is filled.values)

-- the slots of lists that hold all
pub filled : (memory : Memory) (tasks : List Task) (lists : List (List' (Option Outcome))) (slots : List (Option Outcome)) → HoldAll memory tasks lists
    → length slots ≡ length tasks → AreSlots (all_held lists) slots → AreFilled memory tasks slots
filled memory tasks lists slots hold long are = slots_filled memory tasks (length tasks) (all_held lists) slots refl hold.once hold.done long are
