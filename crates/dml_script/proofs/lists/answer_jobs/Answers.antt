use Rattle.std.proofs.Common.{ap, arith, ◌∙◌, length}
use Rattle.dml_types.proofs.StepLemmas.{length_records_of}
use Rattle.dml_script.proofs.lists.answer_jobs.Goals as goal

pub write_records-requires-clause-counted : goal.write_records-requires-clause-counted
write_records-requires-clause-counted g c =
    let same = ap length (c.deref.ensures.value ∙ c.submit_into.ensures.records) in
    omega (arith, c.requires.counted, same, length_records_of c.args.engine.now.image c.args.jobs.now c.args.engine.now.settings.staging)
