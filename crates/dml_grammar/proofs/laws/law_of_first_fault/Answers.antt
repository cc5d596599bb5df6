use Rattle.dml_grammar.proofs.FirstFaultLemmas.{reads_faultless, names_first_fault}
use Rattle.dml_grammar.proofs.laws.law_of_first_fault.Goals as goal

pub returns-clause-lines : goal.returns-clause-lines
returns-clause-lines c = reads_faultless

pub returns-clause-fault : goal.returns-clause-fault
returns-clause-fault c = names_first_fault
