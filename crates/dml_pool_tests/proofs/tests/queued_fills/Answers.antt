use Rattle.std.proofs.Common.{List, [], ◌∷◌, ◌+◌, ◌∙◌, ap, sym, subst, length, length-append}
use Rattle.std.specs.List.{All}
use Rattle.std.proofs.lemmas.List.Elements.{All-push}
use Rattle.dml_pool.specs.declared.tasks.Task.{Task}
use Rattle.dml_pool.specs.Tasks.{IsRunnable, task_with}
use Rattle.dml_pool_tests.proofs.tests.queued_fills.Goals as goal

pub loop-preserved : goal.loop-preserved
loop-preserved g c =
    let task = task_with c.args.job.now 0 8 c.cut-room.result.0 in record {
      runnable =
          subst (λ (l : List Task). All IsRunnable l) (sym c.push.ensures.tasks)
          (All-push IsRunnable c.loop.queue.tasks task c.loop.invariant.runnable c.want_chunk.ensures);
      count =
          ap length c.push.ensures.tasks
          ∙ (length-append c.loop.queue.tasks (task ∷ []) ∙ ap (λ n. n + 1) c.loop.invariant.count);
      room = c.push.ensures.room ∙ c.loop.invariant.room;
      empty = c.cut-room.ensures.back.2;
    }
