use Rattle.dml_resume.proofs.ResumeLemmas.{forward_law, backward_law, finished_law, result_law, accepted_law}
use Rattle.dml_resume.proofs.LeftLemmas.{fault_leaves_rest}
use Rattle.dml_resume.proofs.laws.law_resume.Goals as goal

pub returns-clause-forward : goal.returns-clause-forward
returns-clause-forward c = forward_law

pub returns-clause-backward : goal.returns-clause-backward
returns-clause-backward c = backward_law

pub returns-clause-finished : goal.returns-clause-finished
returns-clause-finished c = finished_law

pub returns-clause-result : goal.returns-clause-result
returns-clause-result c = result_law

pub returns-clause-accepted : goal.returns-clause-accepted
returns-clause-accepted c = accepted_law

pub returns-clause-left : goal.returns-clause-left
returns-clause-left c = fault_leaves_rest
