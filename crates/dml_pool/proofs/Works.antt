-- Outcomes account for what a pass took, as more are added and lists are joined.
use Rattle.std.proofs.Common.{◌≡◌, ℕ, ◌+◌, ◌≤◌, List, [], ◌∷◌, ◌++◌, length, map, Option, Some, IsSomeAnd, min, refl, sym, ap, ◌∙◌, subst, arith, length-append, append_assoc}
use Rattle.std.specs.List.{All, slice_get}
use Rattle.std.proofs.lemmas.List.{append-nil, length-map, map-append}
use Rattle.std.proofs.lemmas.List.Elements.{All-append, All-head, All-nil, All-push, filter_map-append}
use Rattle.std.proofs.lemmas.Option.{slice_get_within, get_or_from_slice_get}
use Rattle.dml_types.specs.Memory.{Memory}
use Rattle.dml_pool.specs.declared.tasks.Task.{Task}
use Rattle.dml_pool.specs.declared.tasks.Outcome.{Outcome}
use Rattle.dml_pool.specs.declared.rule.Numbered.{Numbered}
use Rattle.dml_pool.specs.Tasks.{IsTaskValue}
use Rattle.dml_pool.specs.declared.rule.Hand.{Hand}
use Rattle.dml_pool.specs.Rule.{hand, tasks_done, task_of, IsOf, IsDone, Accounts, HasTaken, HasTakenAll, Kept}
use Rattle.dml_pool.specs.Crews.{HasWorked, TakesNext}
use Rattle.dml_pool.specs.Slots.{held}
use Rattle.crossbeam_deque.specs.Tasks.{FindsFew}
use Rattle.dml_pool.proofs.Keeps.{finds_few}

-- two passes joined, and their outcomes
pub accounts_joined : (memory : Memory) (v w x : Hand) (a b all : List Outcome) → x.tasks ≡ v.tasks → x.taken ≡ v.taken ++ w.taken → w.tasks ≡ v.tasks
    → all ≡ a ++ b → Accounts memory v a → Accounts memory w b → Accounts memory x all
accounts_joined memory v w x a b all known both_taken same both left right =
    let done : All (IsDone memory v.tasks) (a ++ b) =
    All-append (IsDone memory v.tasks) a b left.done (subst (λ tasks. All (IsDone memory tasks) b) same right.done) in record {
      taken =
          both_taken
          ∙ (ap (λ l. l ++ w.taken) left.taken
          ∙ (ap (λ l. tasks_done a ++ l) right.taken
          ∙ (sym (map-append (λ (o : Outcome). o.task) a b) ∙ ap tasks_done (sym both))));
      done = subst (λ l. All (IsDone memory x.tasks) l) (sym both) (subst (λ tasks. All (IsDone memory tasks) (a ++ b)) (sym known) done);
    }

-- a thief of a FIFO deque finds it empty
pub finds : (flavor port : ℕ) (v : Hand) → flavor ≡ 0 → FindsFew Kept (min flavor 1) port v (HasTakenAll v)
finds flavor port v fifo = let none : min flavor 1 ≡ 0 = omega (arith, fifo) in rw none (finds_few port v)

-- what is asked of all tasks holds of one that was taken
pub task_at : (P : Task → Type 0) (tasks : List Task) (item : Numbered) (rest : List Numbered) → All P tasks → All (IsOf tasks) (item ∷ rest) → P (task_of item)
task_at P tasks item rest all of =
    let at : slice_get tasks item.number ≡ Some (task_of item) = All-head (IsOf tasks) item rest of in
    subst P (get_or_from_slice_get tasks item.number (task_of item) (task_of item) at) (all item.number (task_of item) (slice_get_within tasks item.number (task_of item) at))

-- a task taken and carried out
pub takes_next : (memory : Memory) (u v w : Hand) (item : Numbered) (outcome : Outcome) → v ≡ u → HasTaken v (item ∷ []) w → outcome.task ≡ item.number
    → IsTaskValue memory (task_of item) outcome.piece → TakesNext memory u w outcome
takes_next memory u v w item outcome known took same value =
    let of : All (IsOf u.tasks) (item ∷ []) = subst (λ (h : Hand). All (IsOf h.tasks) (item ∷ [])) known took.1 in
    let at : slice_get u.tasks outcome.task ≡ Some (task_of item) = ap (slice_get u.tasks) same ∙ All-head (IsOf u.tasks) item [] of in record {
      taken =
          took.0
          ∙ (ap (λ (h : Hand). hand h.tasks h.parts (h.taken ++ item.number ∷ [])) known
          ∙ ap (λ n. hand u.tasks u.parts (u.taken ++ n ∷ [])) (sym same));
      done = subst (λ found. IsSomeAnd found (λ task. IsTaskValue memory task outcome.piece)) (sym at) value;
      few = subst (λ (h : Hand). length w.taken ≤ length h.tasks) known took.2;
    }

-- no task more
pub worked_none : (memory : Memory) (v : Hand) (list : List (Option Outcome)) → HasWorked memory v v list list
worked_none memory v list = record {
  outcomes = [];
  taken = ap (hand v.tasks v.parts) (sym (append-nil v.taken));
  list = sym (append-nil list);
  done = All-nil (IsDone memory v.tasks);
}

-- one task more
pub worked_more : (memory : Memory) (u v w : Hand) (old list : List (Option Outcome)) (outcome : Outcome) → HasWorked memory u v old list
    → TakesNext memory v w outcome → HasWorked memory u w old (list ++ Some outcome ∷ [])
worked_more memory u v w old list outcome so_far next =
    let some : Outcome → Option Outcome = λ o. Some o in
    let outcomes = so_far.outcomes in
    let same : v.tasks ≡ u.tasks = ap (λ (h : Hand). h.tasks) so_far.taken in record {
      outcomes = outcomes ++ outcome ∷ [];
      taken =
          next.taken
          ∙ (ap (λ (h : Hand). hand h.tasks h.parts (h.taken ++ outcome.task ∷ [])) so_far.taken
          ∙ ap (hand u.tasks u.parts) (append_assoc u.taken (tasks_done outcomes) (outcome.task ∷ [])
          ∙ ap (λ l. u.taken ++ l) (sym (map-append (λ (o : Outcome). o.task) outcomes (outcome ∷ [])))));
      list =
          ap (λ l. l ++ Some outcome ∷ []) so_far.list
          ∙ (append_assoc old (map some outcomes) (Some outcome ∷ []) ∙ ap (λ l. old ++ l) (sym (map-append some outcomes (outcome ∷ []))));
      done = All-push (IsDone memory u.tasks) outcomes outcome so_far.done (subst (λ tasks. IsDone memory tasks outcome) same next.done);
    }

worked_length : (memory : Memory) (v w : Hand) (old new : List (Option Outcome)) (work : HasWorked memory v w old new)
    → (length new ≡ length old + length work.outcomes) × (length w.taken ≡ length v.taken + length work.outcomes)
worked_length memory v w old new work =
    let some : Outcome → Option Outcome = λ o. Some o in (
      ap length work.list ∙ (length-append old (map some work.outcomes) ∙ ap (λ n. length old + n) (length-map work.outcomes some)),
      ap (λ (h : Hand). length h.taken) work.taken
          ∙ (length-append v.taken (tasks_done work.outcomes) ∙ ap (λ n. length v.taken + n) (length-map work.outcomes (λ (o : Outcome). o.task))),
    )

pub longer : (memory : Memory) (v w : Hand) (old new : List (Option Outcome)) → HasWorked memory v w old new → length old ≤ length v.taken → length new ≤ length w.taken
longer memory v w old new work few = let grown = worked_length memory v w old new work in omega (arith, grown.0, grown.1, few)

pub count_worked : (memory : Memory) (v w : Hand) (old new : List (Option Outcome)) → HasWorked memory v w old new → length old ≡ length v.taken → length new ≡ length w.taken
count_worked memory v w old new work count = let grown = worked_length memory v w old new work in omega (arith, grown.0, grown.1, count)

-- a list holds the outcomes that were put into it
some_held : (outcomes : List Outcome) → held (map (λ o. Some o) outcomes) ≡ outcomes
some_held [] = refl
some_held (o ∷ outcomes) = ap (λ l. o ∷ l) (some_held outcomes)

pub held_worked : (memory : Memory) (v w : Hand) (old new : List (Option Outcome)) (work : HasWorked memory v w old new) → held new ≡ held old ++ work.outcomes
held_worked memory v w old new work =
    ap held work.list
    ∙ (filter_map-append (λ (place : Option Outcome). place) old (map (λ o. Some o) work.outcomes) ∙ ap (λ l. held old ++ l) (some_held work.outcomes))

-- the outcomes so far, and those of the tasks that were taken since
pub accounts_since : (memory : Memory) (v w : Hand) (old new : List (Option Outcome)) (before : List Outcome) (work : HasWorked memory v w old new)
    → Accounts memory v before → Accounts memory w (before ++ work.outcomes)
accounts_since memory v w old new before work so_far =
    let same : w.tasks ≡ v.tasks = ap (λ (h : Hand). h.tasks) work.taken in record {
      taken =
          ap (λ (h : Hand). h.taken) work.taken
          ∙ (ap (λ l. l ++ tasks_done work.outcomes) so_far.taken ∙ sym (map-append (λ (o : Outcome). o.task) before work.outcomes));
      done =
          subst (λ tasks. All (IsDone memory tasks) (before ++ work.outcomes)) (sym same)
          (All-append (IsDone memory v.tasks) before work.outcomes so_far.done work.done);
    }

pub accounts_worked : (memory : Memory) (v w : Hand) (old new : List (Option Outcome)) → HasWorked memory v w old new → Accounts memory v (held old) → Accounts memory w (held new)
accounts_worked memory v w old new work so_far =
    subst (λ l. Accounts memory w l) (sym (held_worked memory v w old new work)) (accounts_since memory v w old new (held old) work so_far)

-- no task taken, and no outcome
pub none_held : (memory : Memory) (v : Hand) (list : List (Option Outcome)) → v.taken ≡ [] → list ≡ [] → Accounts memory v (held list)
none_held memory v list none empty = record {
  taken = none ∙ sym (ap (λ l. tasks_done (held l)) empty);
  done = subst (λ l. All (IsDone memory v.tasks) (held l)) (sym empty) (All-nil (IsDone memory v.tasks));
}
