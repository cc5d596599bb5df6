use Rattle.dml_effect.proofs.CompareLemmas.{compare_answer, compare_keeps}
use Rattle.dml_effect.proofs.carrying.compare_straight.Goals as goal

pub returns-clause-image : goal.returns-clause-image
returns-clause-image c = compare_keeps c.args.image.now c.args.job.now c.job.ensures.checked c.requires.operation

pub returns-clause-answer : goal.returns-clause-answer
returns-clause-answer c =
    compare_answer c.args.image.now c.args.job.now c.job.result.now c.whole_found-found.result c.compared_record.result c.job.ensures.job c.job.ensures.checked c.requires.operation c.whole_found-found.ensures c.compared_record.ensures
