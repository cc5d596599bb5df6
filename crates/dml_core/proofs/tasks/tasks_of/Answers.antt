use Rattle.std.proofs.Common.{◌<◌, length, ◌∙◌, arith}
use Rattle.dml_core.specs.Plan.{jobs_of}
use Rattle.dml_core.proofs.LoopLemmas.{tasks_more}
use Rattle.dml_core.proofs.tasks.tasks_of.Goals as goal

pub loop-place-preserved : goal.loop-place-preserved
loop-place-preserved c =
    let below : c.loop-place.place-index < length c.args.wave.now = omega arith in
    c.in_ok-push_tasks.ensures
    ∙ tasks_more c.loop-place.tasks.items (jobs_of c.args.fetched.now) c.args.settings.now.staging c.args.settings.now.chunk c.args.wave.now c.loop-place.place-index c.checked_at-job.result below c.loop-place.invariant c.checked_at-job.ensures.job
