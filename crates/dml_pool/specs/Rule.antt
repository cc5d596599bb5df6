-- The rule of a wave's deque: which tasks it holds, and what its passes know. An item is a task with its
-- number.
-- And what a worker did, by what its pass knows at the end.
use Rattle.std.specs.Prelude.{◌≡◌, ℕ, ◌+◌, ◌<◌, ◌≤◌, List, [], ◌∷◌, ◌++◌, map, length, Some, IsSomeAnd}
use Rattle.std.specs.List.{All, AllZip, slice_get}
use mathlib.Core.Option.{some}
use lib.ListN.{get_elem?}
use Rattle.dml_types.specs.Memory.{Memory}
use Rattle.dml_pool.specs.declared.tasks.Task.{Task}
use Rattle.dml_pool.specs.declared.tasks.Outcome.{Outcome}
use Rattle.dml_pool.specs.Tasks.{IsTaskValue, task_with}
use Rattle.dml_pool.specs.declared.rule.Hand.{Hand}
use Rattle.dml_pool.specs.declared.rule.Numbered.{Numbered}
use Rattle.dml_pool.specs.Numbers.{times, once_below}

-- the parts into which the right to know the whole is cut: more than there are workers
abbrev pub all_parts : ℕ
all_parts = 64

-- what a pass knows: the tasks pushed so far, its parts, and the numbers that it took
abbrev pub hand : List Task → ℕ → List ℕ → Hand
hand tasks parts taken = record { tasks = tasks; parts = parts; taken = taken }

abbrev pub total : (Hand → ℕ) → List Hand → ℕ
total count [] = 0
total count (v ∷ views) = count v + total count views

-- the task of an item
abbrev pub task_of : Numbered → Task
task_of item = task_with item.job.now item.from item.to item.room

abbrev pub numbers_of : List Numbered → List ℕ
numbers_of items = map (λ item. item.number) items

-- an item is the task with its number
abbrev pub IsOf : List Task → Numbered → Type 0
IsOf tasks item = slice_get tasks item.number ≡ Some (task_of item)

-- a pass with a part knows all tasks, and one without any took nothing
abbrev pub Knows : List Task → Hand → Type 0
Knows tasks v = (0 < v.parts → v.tasks ≡ tasks) × (v.parts ≡ 0 → v.taken ≡ [])

-- the numbers in the deque and those that the passes took are those of the tasks pushed, each once
abbrev pub Kept : List Numbered → List Hand → Type 0
Kept items views =
    (tasks : List Task)
    × (total (λ v. v.parts) views ≡ all_parts)
    × ((port : ℕ) (v : Hand) → get_elem? views port ≡ some v → Knows tasks v)
    × All (IsOf tasks) items
    × ((x : ℕ) → times x (numbers_of items) + total (λ v. times x v.taken) views
    ≡ once_below x (length tasks))

-- a pass took these items, which are no more than the tasks
abbrev pub HasTaken : Hand → List Numbered → Hand → Type 0
HasTaken v items w =
    (w ≡ hand v.tasks v.parts (v.taken ++ numbers_of items))
    × All (IsOf v.tasks) items
    × (length w.taken ≤ length v.tasks)

-- a pass that has all parts took each of the tasks once
abbrev pub HasTakenAll : Hand → Type 0
HasTakenAll v = v.parts ≡ all_parts → (x : ℕ) → times x v.taken ≡ once_below x (length v.tasks)

abbrev pub tasks_done : List Outcome → List ℕ
tasks_done outcomes = map (λ outcome. outcome.task) outcomes

-- outcome by outcome the values of the tasks
abbrev pub AreTaskValues : Memory → List Task → List Outcome → Type 0
AreTaskValues memory tasks outcomes =
    AllZip (λ task outcome. IsTaskValue memory task outcome.piece) tasks outcomes

-- an outcome has the value of the task with its number
abbrev pub IsDone : Memory → List Task → Outcome → Type 0
IsDone memory tasks outcome =
    IsSomeAnd (slice_get tasks outcome.task) (λ task. IsTaskValue memory task outcome.piece)

-- for each task that a pass took there is an outcome, in the order of taking
pub record Accounts (memory : Memory) (v : Hand) (outcomes : List Outcome) : Type 0 where
  pub taken : v.taken ≡ tasks_done outcomes
  pub done : All (IsDone memory v.tasks) outcomes
