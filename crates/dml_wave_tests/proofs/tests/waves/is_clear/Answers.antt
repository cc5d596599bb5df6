use Rattle.std.proofs.Common.{◌≡◌, ◌<◌, false, get_or, length, sym, ◌∙◌, ap, subst, arith}
use Rattle.std.specs.List.{All}
use Rattle.std.proofs.lemmas.List.{get_or_default, take_all}
use Rattle.std.proofs.lemmas.List.Elements.{All-more}
use Rattle.dml_types.specs.Conflict.{conflict}
use Rattle.dml_types.specs.Job.{no_op_job}
use Rattle.dml_levels.specs.Waves.{job_at}
use Rattle.dml_wave_tests.proofs.tests.waves.is_clear.Goals as goal

pub loop-place-preserved : goal.loop-place-preserved
loop-place-preserved c =
    let jobs = c.args.jobs.now in
    let places = c.args.places.now in
    let index = c.loop-place.place-index in
    let below : index < length places = omega (arith, c.loop-place-test.true) in
    let place = get_or places index 0 in
    let job : c.index-jobs-place.result ≡ job_at jobs place =
    c.index-jobs-place.is ∙ get_or_default jobs place c.index-jobs-place.result no_op_job (c.requires index 0 below) in
    All-more (λ k. conflict c.args.job.now (job_at jobs k) ≡ false) places index 0 below c.loop-place.invariant
    (sym (ap (conflict c.args.job.now) job) ∙ (sym c.conflict.ensures ∙ c.if-conflict.false))

pub returns : goal.returns
returns c = λ all.
    subst (All (λ k. conflict c.args.job.now (job_at c.args.jobs.now k) ≡ false)) (take_all c.loop-place.place-index c.args.places.now (omega (arith, c.loop-place-test.false))) c.loop-place.invariant
