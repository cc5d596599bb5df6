use Rattle.std.proofs.Common.{◌<◌, ◌≤◌, All, length, sym, subst, ◌∙◌, arith}
use Rattle.std.proofs.lemmas.List.Elements.{All-push}
use Rattle.dml_types.specs.declared.jobs.Job.{Job}
use Rattle.dml_types.specs.Refusal.{need}
use Rattle.dml_levels.specs.Laws.{unless_refused}
use Rattle.dml_levels.specs.Waves.{job_at}
use Rattle.dml_core.specs.Plan.{jobs_of}
use Rattle.dml_core.proofs.LoopLemmas.{jobs_more}
use Rattle.dml_core.proofs.planning.checked_jobs.Goals as goal

pub loop-place-preserved : goal.loop-place-preserved
loop-place-preserved c =
    let old = c.loop-place in
    let staging = c.args.staging in
    let below : old.place-index < length c.args.places.now = omega arith in (
      c.in_ok-push.ensures.items
          ∙ jobs_more old.jobs.items (λ i. unless_refused staging (job_at (jobs_of c.args.fetched.now) i)) c.args.places.now old.place-index c.checked_at.result below old.invariant.0 c.checked_at.ensures.job,
      subst (All (λ (job : Job). need job ≤ staging)) (sym c.in_ok-push.ensures.items)
          (All-push (λ (job : Job). need job ≤ staging) old.jobs.items c.checked_at.result old.invariant.1 c.checked_at.ensures.need),
    )
