use Rattle.std.proofs.Common.{◌≡◌, ◌+◌, ◌<◌, false, drop, get_or, length, sym, ◌∙◌, subst, arith}
use Rattle.std.specs.List.{All}
use Rattle.std.proofs.lemmas.List.{drop_more, get_or_default, take_rest}
use Rattle.dml_types.specs.declared.jobs.Job.{Job}
use Rattle.dml_types.specs.Conflict.{conflict}
use Rattle.dml_types.specs.Job.{no_op_job}
use Rattle.dml_levels.specs.Waves.{job_at}
use Rattle.dml_wave.specs.Waves.{AreApart}
use Rattle.dml_wave_tests.proofs.tests.waves.are_apart.Goals as goal

pub loop-from-preserved : goal.loop-from-preserved
loop-from-preserved c = λ rest.
    let jobs = c.args.jobs.now in
    let wave = c.args.wave.now in
    let from = c.loop-from.from in
    let below : from < length wave = omega (arith, c.loop-from-test.true) in
    let place = get_or wave from 0 in
    let job : c.index-jobs-wave.result ≡ job_at jobs place =
    c.index-jobs-wave.is ∙ get_or_default jobs place c.index-jobs-wave.result no_op_job (c.requires from 0 below) in
    let clear : All (λ k. conflict c.index-jobs-wave.result (job_at jobs k) ≡ false) (drop (from + 1) wave) =
    subst (All (λ k. conflict c.index-jobs-wave.result (job_at jobs k) ≡ false)) (take_rest wave (from + 1)) (c.is_clear.ensures c.if-not-is_clear.false) in
    c.loop-from.invariant
    (subst (AreApart jobs) (sym (drop_more wave from 0 below))
    (subst (λ (j : Job). All (λ k. conflict j (job_at jobs k) ≡ false) (drop (from + 1) wave)) job clear, rest))
