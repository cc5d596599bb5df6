use Rattle.dml_types.proofs.FirstLemmas.{first_le, fails_before, passes_at, first_left, first_right}
use Rattle.dml_types.proofs.laws.law_of_first.Goals as goal

pub returns-clause-within : goal.returns-clause-within
returns-clause-within c = first_le

pub returns-clause-fails_before : goal.returns-clause-fails_before
returns-clause-fails_before c = fails_before

pub returns-clause-passes : goal.returns-clause-passes
returns-clause-passes c = passes_at

pub returns-clause-in_front : goal.returns-clause-in_front
returns-clause-in_front c = first_left

pub returns-clause-in_back : goal.returns-clause-in_back
returns-clause-in_back c = first_right
