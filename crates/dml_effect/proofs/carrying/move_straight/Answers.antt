use Rattle.std.proofs.Common.{refl, ◌∙◌}
use Rattle.dml_types.specs.declared.operations.Op.TheVariants.{Move}
use Rattle.dml_effect.proofs.StraightLemmas.{whole_answer, whole_image}
use Rattle.dml_effect.proofs.carrying.move_straight.Goals as goal

-- all is present, so all is moved
pub returns-then-move_in_page-clause-image : goal.returns-then-move_in_page-clause-image
returns-then-move_in_page-clause-image c =
    c.if-move_in_page.ensures.bytes refl
    ∙ whole_image c.args.image.now c.args.job.now c.job.result.now c.work_direction-direction.result c.copied_record.result c.job.ensures.job c.job.ensures.checked c.requires.operation (c.work_direction-direction.ensures Move c.requires.operation) (c.if-move_in_page.ensures.source refl) (c.if-move_in_page.ensures.target refl) c.copied_record.ensures

pub returns-then-move_in_page-clause-answer : goal.returns-then-move_in_page-clause-answer
returns-then-move_in_page-clause-answer c =
    whole_answer c.args.image.now c.args.job.now c.job.result.now c.work_direction-direction.result c.copied_record.result c.job.ensures.job c.job.ensures.checked c.requires.operation (c.work_direction-direction.ensures Move c.requires.operation) (c.if-move_in_page.ensures.source refl) (c.if-move_in_page.ensures.target refl) c.copied_record.ensures
