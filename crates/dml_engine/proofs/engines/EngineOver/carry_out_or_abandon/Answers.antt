use Rattle.std.proofs.Common.{◌∙◌}
use Rattle.dml_effect.proofs.BatchLemmas.{batch_count, batch_image, batch_records}
use Rattle.dml_engine.proofs.engines.EngineOver.carry_out_or_abandon.Goals as goal

pub returns-clause-count : goal.returns-clause-count
returns-clause-count g c =
    let done = c.carry_out_batch-done in
    batch_count c.args.self.now.image c.args.jobs.now c.args.self.now.settings.staging done.result done.new.self.image done.new.records done.ensures.carried done.ensures.ends

pub returns-clause-image : goal.returns-clause-image
returns-clause-image g c =
    let done = c.carry_out_batch-done in
    batch_image c.args.self.now.image c.args.jobs.now c.args.self.now.settings.staging done.result done.new.self.image done.new.records done.ensures.carried done.ensures.ends

pub returns-clause-records : goal.returns-clause-records
returns-clause-records g c =
    let done = c.carry_out_batch-done in
    c.abandon.ensures
    ∙ batch_records c.args.self.now.image c.args.jobs.now c.args.self.now.settings.staging done.result done.new.self.image done.new.records done.ensures.carried done.ensures.ends
