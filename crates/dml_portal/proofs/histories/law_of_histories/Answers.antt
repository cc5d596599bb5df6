use Rattle.dml_portal.proofs.HistoryLemmas.{begins, goes_on, one_fold}
use Rattle.dml_portal.proofs.histories.law_of_histories.Goals as goal

pub returns-clause-begins : goal.returns-clause-begins
returns-clause-begins c = begins

pub returns-clause-goes_on : goal.returns-clause-goes_on
returns-clause-goes_on c = goes_on

pub returns-clause-one_fold : goal.returns-clause-one_fold
returns-clause-one_fold c = one_fold c.law_of_folds.ensures.image_in_parts c.law_of_folds.ensures.records_in_parts
