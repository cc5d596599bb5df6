-- A slot for each task of a wave, which says where its outcome lies in the workers' lists.
use Rattle.std.specs.Prelude.{◌≡◌, ℕ, ◌<◌, List, length, map, filter_map, flat_map, Option, None, Some, Contains, option_map, slice_index_or}
use Rattle.std.specs.Borrow.{MutBor}
use Rattle.std.specs.Global.{Vec}
use Rattle.std.specs.List.{All, range_with_len}
use Rattle.dml_types.specs.Memory.{Memory}
use Rattle.dml_pool.specs.declared.tasks.Outcome.{Outcome}
use Rattle.dml_pool.specs.declared.tasks.Task.{Task}
use Rattle.dml_pool.specs.Numbers.{times, once_below}
use Rattle.dml_pool.specs.Rule.{IsDone, tasks_done, AreTaskValues}

-- the outcomes in a list, and in several
abbrev pub held : List (Option Outcome) → List Outcome
held list = filter_map (λ place. place) list

abbrev pub all_held : List (Vec (Option Outcome)) → List Outcome
all_held lists = flat_map (λ list. held list.items) lists

abbrev pub number_in : Option Outcome → Option ℕ
number_in place = option_map (λ outcome. outcome.task) place

-- what a slot refers to; nothing also where that place was emptied
abbrev pub behind : Option (MutBor (Option Outcome)) → Option Outcome
behind None = None
behind (Some place) = place.now

-- what the slot of task k refers to, once these outcomes were placed: nothing where none of them is of that task
abbrev pub IsSlot : List Outcome → ℕ → Option Outcome → Type 0
IsSlot outcomes k None = times k (tasks_done outcomes) ≡ 0
IsSlot outcomes k (Some outcome) = (outcome.task ≡ k) × Contains outcomes outcome

abbrev pub AreSlots : List Outcome → List (Option Outcome) → Type 0
AreSlots outcomes slots =
    (k : ℕ) (d : Option Outcome) → k < length slots → IsSlot outcomes k (slice_index_or slots k d)

-- the lists hold an outcome for each of the tasks, once, and no other
pub record HoldAll (memory : Memory) (tasks : List Task) (lists : List (Vec (Option Outcome))) : Type 0 where
  pub once : (x : ℕ) → times x (tasks_done (all_held lists)) ≡ once_below x (length tasks)
  pub done : All (IsDone memory tasks) (all_held lists)

-- each slot refers to the outcome of its task
pub record AreFilled (memory : Memory) (tasks : List Task) (slots : List (Option Outcome)) : Type 0 where
  pub outcomes : List Outcome
  pub full : slots ≡ map (λ outcome. Some outcome) outcomes
  pub order : tasks_done outcomes ≡ range_with_len 0 (length tasks)
  pub values : AreTaskValues memory tasks outcomes

-- the outcomes of all tasks, in their order
abbrev pub AreOutcomes : Memory → List Task → List Outcome → Type 0
AreOutcomes memory tasks outcomes =
    (tasks_done outcomes ≡ range_with_len 0 (length tasks)) × AreTaskValues memory tasks outcomes
