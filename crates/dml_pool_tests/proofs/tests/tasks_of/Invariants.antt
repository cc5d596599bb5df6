use Rattle.std.proofs.Common.{◌≡◌, length, vec_len, vec_capacity}
use Rattle.std.specs.List.{All}
use Rattle.dml_pool.specs.Tasks.{IsRunnable}
use Rattle.dml_pool_tests.proofs.tests.tasks_of.Given as goal

abbrev pub invariant-loop-job : goal.invariant-loop-job
invariant-loop-job g l =
    record {
      runnable : All IsRunnable l.tasks.items;
      count : vec_len l.tasks ≡ l.job-index;
      room : vec_capacity l.tasks ≡ length l.chunks;
    }
