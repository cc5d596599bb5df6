use Rattle.std.proofs.Common.{◌≤◌, All, is_ok, subst, sym}
use Rattle.dml_types.specs.declared.jobs.Job.{Job}
use Rattle.dml_types.specs.Refusal.{need}
use Rattle.dml_levels_tests.proofs.TestLemmas.{checked_need, needs_push}
use Rattle.dml_levels_tests.proofs.tests.checked.Goals as goal

pub loop-job-preserved : goal.loop-job-preserved
loop-job-preserved c =
    let job = c.in_ok-ok.field-0 in
    let small = checked_need c.check.result _ job c.args.staging c.check.ensures.same c.check.ensures.accepted c.in_ok-ok.ensures.value in
    subst (All (λ (j : Job). need j ≤ c.args.staging)) (sym c.push.ensures.items)
    (needs_push c.loop-job.list.items job c.args.staging (is_ok c.push.result) c.loop-job.invariant small)
