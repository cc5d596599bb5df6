use Rattle.dml_order.proofs.OrderLaws.{any_order, front_then_left, front_alone}
use Rattle.dml_order.proofs.laws.law_of_orders.Goals as goal

pub returns-clause-any_order : goal.returns-clause-any_order
returns-clause-any_order g c = any_order

pub returns-clause-front_then_left : goal.returns-clause-front_then_left
returns-clause-front_then_left g c = front_then_left

pub returns-clause-front : goal.returns-clause-front
returns-clause-front g c = front_alone
