use Rattle.std.proofs.Common.{◌≡◌, ◌+◌, ◌<◌, min, ap, refl, List, arith, subst, sym, ◌∙◌}
use Rattle.dml_types.specs.Chunk.{chunk_units}
use Rattle.dml_levels.specs.Tasks.{task_count}
use Rattle.dml_pool.specs.declared.tasks.Task.{Task}
use Rattle.dml_pool.specs.Tasks.{units}
use Rattle.dml_wave.proofs.Cuts.{IsCutUpTo, cut_none, cut_more, cut_all}
use Rattle.dml_wave.proofs.cutting.cut_job.Goals as goal

pub loop-init : goal.loop-init
loop-init c = record {
  cut = cut_none c.op-op.result c.args.job.now c.args.chunk 0 c.args.room c.args.queue.now.tasks refl c.requires.empty;
  capacity = refl;
}

pub loop-preserved : goal.loop-preserved
loop-preserved c =
    let op = c.op-op.result in
    let job = c.args.job.now in
    let chunk = c.args.chunk in
    let below : c.loop.counter < task_count job chunk = omega (arith, c.loop-test.true, c.task_count-count.ensures.count) in
    let end : c.min-to.result ≡ min (units op job) (c.loop.from + chunk_units op chunk) =
    omega
    (arith, c.min-to.ensures, c.units-units.ensures.count, ap (units op) c.job.ensures.job, c.chunk_units-step.ensures.count) in record {
      cut =
          subst
          (λ (list : List Task). IsCutUpTo op job chunk (c.loop.counter + 1) c.min-to.result c.args.room.room c.cut-front.result.1 c.args.queue.now.tasks list)
          (sym c.push.ensures.tasks)
          (cut_more op job chunk c.loop.counter c.loop.from c.args.room.room c.room_for.result c.min-to.result c.loop.room c.cut-front.result.0 c.cut-front.result.1 c.args.queue.now.tasks c.loop.queue.tasks c.op-op.ensures.rules c.requires.chunk c.requires.fits below c.loop.invariant.cut end c.room_for.ensures c.cut-front.ensures.opening c.cut-front.ensures.front c.cut-front.ensures.back);
      capacity = c.push.ensures.room ∙ c.loop.invariant.capacity;
    }

pub returns-clause-tasks : goal.returns-clause-tasks
returns-clause-tasks c =
    let all : c.loop.counter ≡ task_count c.args.job.now c.args.chunk =
    omega (arith, c.loop-test.false, c.loop.auto.counter-end, c.task_count-count.ensures.count) in
    cut_all c.op-op.result c.args.job.now c.args.chunk c.loop.counter c.loop.from c.args.room.room c.loop.room c.args.queue.now.tasks c.loop.queue.tasks c.op-op.ensures.rules c.requires.chunk all c.loop.invariant.cut
