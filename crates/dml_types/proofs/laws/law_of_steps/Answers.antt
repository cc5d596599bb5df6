use Rattle.dml_types.proofs.StepLemmas.{step_present, step_refused, no_op_stays}
use Rattle.dml_types.proofs.laws.law_of_steps.Goals as goal

pub returns-clause-presence : goal.returns-clause-presence
returns-clause-presence c = step_present

pub returns-clause-refused : goal.returns-clause-refused
returns-clause-refused c = step_refused

pub returns-clause-no_op : goal.returns-clause-no_op
returns-clause-no_op c = no_op_stays
