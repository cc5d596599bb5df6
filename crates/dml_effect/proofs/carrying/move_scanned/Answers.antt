use Rattle.std.proofs.Common.{◌∙◌, arith}
use Rattle.dml_types.specs.declared.operations.Op.TheVariants.{Move}
use Rattle.dml_effect.proofs.StraightLemmas.{straight_within, straight_answer, straight_nothing, straight_reads, straight_writes, straight_image}
use Rattle.dml_effect.proofs.carrying.move_scanned.Goals as goal

pub lowest_done-requires : goal.lowest_done-requires
lowest_done-requires c = straight_within c.args.image.now c.args.job.now c.job.result.now c.work_direction-direction.result c.move_found-found.result c.copied_record-answer.result c.job.ensures.job c.job.ensures.checked c.requires.operation (c.work_direction-direction.ensures Move c.requires.operation) c.move_found-found.ensures c.copied_record-answer.ensures

pub move_within-requires-clause-source : goal.move_within-requires-clause-source
move_within-requires-clause-source c = straight_reads c.args.image.now c.args.job.now c.job.result.now c.work_direction-direction.result c.move_found-found.result c.copied_record-answer.result c.job.ensures.job c.job.ensures.checked c.requires.operation (c.work_direction-direction.ensures Move c.requires.operation) c.move_found-found.ensures c.copied_record-answer.ensures c.from-first.result (c.from-first.ensures ∙ c.lowest_done.ensures.value)

pub move_within-requires-clause-target : goal.move_within-requires-clause-target
move_within-requires-clause-target c = straight_writes c.args.image.now c.args.job.now c.job.result.now c.work_direction-direction.result c.move_found-found.result c.copied_record-answer.result c.job.ensures.job c.job.ensures.checked c.requires.operation (c.work_direction-direction.ensures Move c.requires.operation) c.move_found-found.ensures c.copied_record-answer.ensures c.from-first.result (c.from-first.ensures ∙ c.lowest_done.ensures.value)

pub returns-then-done-eq0-clause-image : goal.returns-then-done-eq0-clause-image
returns-then-done-eq0-clause-image c = straight_nothing c.args.image.now c.args.job.now c.job.result.now c.work_direction-direction.result c.move_found-found.result c.copied_record-answer.result c.job.ensures.job c.job.ensures.checked c.requires.operation (c.work_direction-direction.ensures Move c.requires.operation) c.move_found-found.ensures c.copied_record-answer.ensures (omega arith)

pub returns-then-done-eq0-clause-answer : goal.returns-then-done-eq0-clause-answer
returns-then-done-eq0-clause-answer c = straight_answer c.args.image.now c.args.job.now c.job.result.now c.work_direction-direction.result c.move_found-found.result c.copied_record-answer.result c.job.ensures.job c.job.ensures.checked c.requires.operation (c.work_direction-direction.ensures Move c.requires.operation) c.move_found-found.ensures c.copied_record-answer.ensures

pub returns-clause-image : goal.returns-clause-image
returns-clause-image c = c.move_within.ensures.bytes ∙ straight_image c.args.image.now c.args.job.now c.job.result.now c.work_direction-direction.result c.move_found-found.result c.copied_record-answer.result c.job.ensures.job c.job.ensures.checked c.requires.operation (c.work_direction-direction.ensures Move c.requires.operation) c.move_found-found.ensures c.copied_record-answer.ensures c.from-first.result (c.from-first.ensures ∙ c.lowest_done.ensures.value)

pub returns-clause-answer : goal.returns-clause-answer
returns-clause-answer c = straight_answer c.args.image.now c.args.job.now c.job.result.now c.work_direction-direction.result c.move_found-found.result c.copied_record-answer.result c.job.ensures.job c.job.ensures.checked c.requires.operation (c.work_direction-direction.ensures Move c.requires.operation) c.move_found-found.ensures c.copied_record-answer.ensures
