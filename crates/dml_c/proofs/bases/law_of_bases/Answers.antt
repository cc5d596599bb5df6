use Rattle.dml_c.proofs.BaseLemmas.{absent_outside, distance_from, past_over, present_within, put_back}
use Rattle.dml_c.proofs.bases.law_of_bases.Goals as goal

pub returns-clause-back : goal.returns-clause-back
returns-clause-back c = put_back

pub returns-clause-from_the_base : goal.returns-clause-from_the_base
returns-clause-from_the_base c = distance_from

pub returns-clause-within : goal.returns-clause-within
returns-clause-within c = present_within

pub returns-clause-outside : goal.returns-clause-outside
returns-clause-outside c = absent_outside

pub returns-clause-range : goal.returns-clause-range
returns-clause-range c = past_over
