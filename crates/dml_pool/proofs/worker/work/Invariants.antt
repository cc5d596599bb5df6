use Rattle.std.proofs.Common.{◌≡◌, ◌-◌, length, vec_capacity}
use Rattle.crossbeam_deque.specs.Handles.{view, SamePass}
use Rattle.dml_pool.specs.Crews.{HasWorked}
use Rattle.dml_pool.proofs.worker.work.Given as goal

abbrev pub invariant-loop-outcome : goal.invariant-loop-outcome
invariant-loop-outcome g l =
    record {
      same : SamePass l.fn.place l.place;
      worked : HasWorked l.image (view l.fn.place) (view l.place) l.fn.done.items l.done.items;
      room : vec_capacity l.done ≡ vec_capacity l.fn.done;
    }

-- how many tasks the worker has not taken
abbrev pub decreases-loop-outcome : goal.decreases-loop-outcome
decreases-loop-outcome g l = length (view l.place).tasks - length (view l.place).taken
