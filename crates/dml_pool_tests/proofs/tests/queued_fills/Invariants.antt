use Rattle.std.proofs.Common.{◌≡◌, [], length}
use Rattle.std.specs.List.{All}
use Rattle.dml_pool.specs.Tasks.{IsRunnable}
use Rattle.dml_pool_tests.proofs.tests.queued_fills.Given as goal

abbrev pub invariant-loop : goal.invariant-loop
invariant-loop g l =
    record {
      runnable : All IsRunnable l.queue.tasks;
      count : length l.queue.tasks ≡ l.counter;
      room : l.queue.room ≡ l.fn.count;
      empty : l.rest.bytes ≡ [];
    }
