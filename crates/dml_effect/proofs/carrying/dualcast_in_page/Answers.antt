use Rattle.std.proofs.Common.{◌∙◌}
use Rattle.dml_effect.proofs.StraightLemmas.{whole_twice_answer, whole_twice_image}
use Rattle.dml_effect.proofs.carrying.dualcast_in_page.Goals as goal

-- each range is present, so all is copied to both destinations
pub returns-clause-answer : goal.returns-clause-answer
returns-clause-answer c = λ done.
    whole_twice_answer c.args.image.now c.args.job.now c.job.result.now c.job.ensures.job c.job.ensures.checked c.requires.operation
    (c.copy_twice_in_page.ensures.source done) (c.copy_twice_in_page.ensures.first done) (c.copy_twice_in_page.ensures.second done)

pub returns-clause-image : goal.returns-clause-image
returns-clause-image c = λ done.
    c.copy_twice_in_page.ensures.bytes done
    ∙ whole_twice_image c.args.image.now c.args.job.now c.job.result.now c.job.ensures.job c.job.ensures.checked c.requires.operation
    (c.copy_twice_in_page.ensures.source done) (c.copy_twice_in_page.ensures.first done) (c.copy_twice_in_page.ensures.second done)
    c.pages-pages.ensures.memory.whole
