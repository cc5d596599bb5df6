use Rattle.std.proofs.Common.{◌≡◌}
use Rattle.crossbeam_deque.specs.Handles.{view, SamePass}
use Rattle.dml_pool.proofs.worker.next_outcome.Given as goal

abbrev pub invariant-loop : goal.invariant-loop
invariant-loop g l = record { same : SamePass l.fn.place l.place; known : view l.place ≡ view l.fn.place }
