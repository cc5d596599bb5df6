use Rattle.std.proofs.Common.{◌≡◌, length, map, take, vec_capacity}
use Rattle.dml_pool.proofs.wave.jobs_of.Given as goal

abbrev pub invariant-loop-task : goal.invariant-loop-task
invariant-loop-task l =
    record {
      done : l.jobs.items ≡ map (λ task. task.job) (take l.task-index l.tasks);
      room : vec_capacity l.jobs ≡ length l.tasks;
    }
