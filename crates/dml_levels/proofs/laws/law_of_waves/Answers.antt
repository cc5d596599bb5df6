use Rattle.dml_levels.proofs.LawLemmas.{waves_in_order, waves_then_left}
use Rattle.dml_levels.proofs.laws.law_of_waves.Goals as goal

pub returns-clause-in_order : goal.returns-clause-in_order
returns-clause-in_order c = waves_in_order

pub returns-clause-then_left : goal.returns-clause-then_left
returns-clause-then_left c = waves_then_left
