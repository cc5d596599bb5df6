use Rattle.std.proofs.Common.{◌+◌, List, ap, sym, ◌∙◌, subst}
use Rattle.std.specs.List.{All}
use Rattle.std.proofs.lemmas.List.Elements.{All-push}
use Rattle.dml_pool.specs.declared.tasks.Task.{Task}
use Rattle.dml_pool.specs.Tasks.{IsRunnable}
use Rattle.dml_pool_tests.proofs.tests.tasks_of.Goals as goal

pub loop-job-preserved : goal.loop-job-preserved
loop-job-preserved g c =
    record {
      runnable =
          subst (λ (l : List Task). All IsRunnable l) (sym c.push_reserved.ensures.items)
          (All-push IsRunnable c.loop-job.tasks.items c.task_of.result c.loop-job.invariant.runnable c.task_of.ensures);
      count = c.push_reserved.ensures.len ∙ ap (λ n. n + 1) c.loop-job.invariant.count;
      room = c.push_reserved.ensures.capacity ∙ c.loop-job.invariant.room;
    }
