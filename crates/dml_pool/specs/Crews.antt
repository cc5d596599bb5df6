-- The workers of a wave: what one of them does, what the calling thread may begin with and leaves, and what all of them
-- have in common.
use Rattle.std.specs.Prelude.{◌≡◌, ℕ, ◌≤◌, List, [], ◌∷◌, ◌++◌, length, map, vec_capacity, Option, Some}
use Rattle.std.specs.Global.{Global, Vec}
use Rattle.std.specs.List.{All}
use Rattle.crossbeam_deque.specs.Handles.{Pass, view, IsPassOf, stealer_deque, stealer_flavor}
use Rattle.crossbeam_deque.specs.declared.handles.Stealer.{Stealer}
use Rattle.dml_types.specs.Memory.{Memory}
use Rattle.dml_pool.specs.declared.rule.Hand.{Hand}
use Rattle.dml_pool.specs.declared.rule.Numbered.{Numbered}
use Rattle.dml_pool.specs.declared.rule.Wave.{Wave}
use Rattle.dml_pool.specs.declared.tasks.Outcome.{Outcome}
use Rattle.dml_pool.specs.declared.tasks.Task.{Task}
use Rattle.dml_pool.specs.declared.worker.Desk.{Desk}
use Rattle.dml_pool.specs.Rule.{Accounts, IsDone, hand, tasks_done}
use Rattle.dml_pool.specs.Slots.{held}
use Rattle.dml_pool.specs.Tasks.{IsRunnable}

-- a pass took one task more, and this is its outcome
pub record TakesNext (memory : Memory) (v w : Hand) (outcome : Outcome) : Type 0 where
  pub taken : w ≡ hand v.tasks v.parts (v.taken ++ outcome.task ∷ [])
  pub done : IsDone memory v.tasks outcome
  pub few : length w.taken ≤ length v.tasks

-- a pass took some tasks more, and their outcomes joined a list in the order of taking
pub record HasWorked (memory : Memory) (v w : Hand) (old new : List (Option Outcome)) : Type 0 where
  pub outcomes : List Outcome
  pub taken : w ≡ hand v.tasks v.parts (v.taken ++ tasks_done outcomes)
  pub list : new ≡ old ++ map (λ outcome. Some outcome) outcomes
  pub done : All (IsDone memory v.tasks) outcomes

-- what the workers have in common is this image, this deque and its tasks, which they may carry out
abbrev pub AreCommon : Memory → (ℕ × ℕ) × Global → List Task → Memory → Stealer Numbered Global Hand Wave → Type 0
AreCommon memory deque tasks image thief =
    (image ≡ memory)
    × (stealer_deque thief ≡ deque)
    × (stealer_flavor thief ≡ 0)
    × All IsRunnable tasks

-- the calling thread may lead: its pass has one part of the right to know the whole and took no task so far; its list
-- has room for the outcomes of all tasks, and none yet
abbrev pub MayLead : Memory → (ℕ × ℕ) × Global → List Task → Memory → Desk → Type 0
MayLead memory deque tasks image desk =
    AreCommon memory deque tasks image desk.thief.now
    × IsPassOf deque desk.place
    × (view desk.place ≡ hand tasks 1 [])
    × (desk.done.items ≡ [])
    × (vec_capacity desk.done ≡ length tasks)

-- what it leaves: its pass, and the outcomes of the tasks that this took
abbrev pub HasLed : Memory → (ℕ × ℕ) × Global → List Task → Pass Numbered Hand Global → Vec (Option Outcome) → Type 0
HasLed memory deque tasks place done =
    IsPassOf deque place
    × ((view place).tasks ≡ tasks)
    × ((view place).parts ≡ 1)
    × Accounts memory (view place) (held done.items)
    × (length done.items ≡ length (view place).taken)
    × (vec_capacity done ≡ length tasks)
