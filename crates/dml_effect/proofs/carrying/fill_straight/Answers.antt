use Rattle.std.proofs.Common.{refl, ◌∙◌}
use Rattle.dml_effect.proofs.FillLemmas.{fill_answer, fill_image}
use Rattle.dml_effect.proofs.carrying.fill_straight.Goals as goal

pub returns-then-fill_in_page-clause-image : goal.returns-then-fill_in_page-clause-image
returns-then-fill_in_page-clause-image c =
    c.if-fill_in_page.ensures.bytes refl
    ∙ fill_image c.args.image.now c.args.job.now c.job-given.result.now c.scanned_record.result c.job-given.ensures.job c.job-given.ensures.checked c.requires.operation (c.if-fill_in_page.ensures.target refl) c.scanned_record.ensures c.pages-pages.ensures.memory.whole

pub returns-then-fill_in_page-clause-answer : goal.returns-then-fill_in_page-clause-answer
returns-then-fill_in_page-clause-answer c =
    fill_answer c.args.image.now c.args.job.now c.job-given.result.now c.scanned_record.result c.job-given.ensures.job c.job-given.ensures.checked c.requires.operation (c.if-fill_in_page.ensures.target refl) c.scanned_record.ensures
