use Rattle.dml_levels.proofs.LawLemmas.{any_order, front_by_itself, front_then_left}
use Rattle.dml_levels.proofs.laws.law_of_order.Goals as goal

pub returns-clause-any_order : goal.returns-clause-any_order
returns-clause-any_order c = any_order

pub returns-clause-front_then_left : goal.returns-clause-front_then_left
returns-clause-front_then_left c = front_then_left

pub returns-clause-front : goal.returns-clause-front
returns-clause-front c = front_by_itself
