-- The tasks of a wave before its start.
use Rattle.std.specs.Prelude.{ℕ, List}
use Rattle.dml_pool.specs.declared.tasks.Task.{Task}

-- the tasks that wait, in their order, and how many there is room for
pub record Waiting : Type 0 where
  pub tasks : List Task
  pub room : ℕ
