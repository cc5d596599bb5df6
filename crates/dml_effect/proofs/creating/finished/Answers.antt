use Rattle.std.proofs.Common.{◌*◌, sym, ◌∙◌, ap, arith}
use Rattle.dml_types.specs.declared.jobs.Job.{Job}
use Rattle.dml_effect.specs.Joined.{finished_record}
use Rattle.dml_effect.proofs.CreatedLemmas.{block_is, create_limits, finished_early, finished_whole}
use Rattle.dml_effect.proofs.creating.finished.Goals as goal

pub overflow_mul-result : goal.overflow_mul-result
overflow_mul-result c =
    let limits = create_limits c.args.job.now c.job-job.ensures.checked c.requires.operation in
    let at = block_is c.args._image.now c.args.job.now c.in-Some.block c.in-Some.place (sym c.requires.fault ∙ c.in-Some.is) in
    omega (arith, at.0, at.2, limits.size)

pub returns-in-Some : goal.returns-in-Some
returns-in-Some c =
    finished_early c.args._image.now c.args.job.now c.in-Some.block c.in-Some.place c.args.entries (sym c.requires.fault ∙ c.in-Some.is)

pub returns-in-None : goal.returns-in-None
returns-in-None c =
    c.finished_record.ensures
    ∙ (ap (λ (job : Job). finished_record job (10 * c.args.entries)) c.job-job.ensures.job
    ∙ finished_whole c.args._image.now c.args.job.now 0 0 c.args.entries (sym c.requires.fault ∙ c.in-None.is))
