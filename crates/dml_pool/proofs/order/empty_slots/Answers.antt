use Rattle.std.proofs.Common.{[], map, sym, ap, subst}
use Rattle.dml_pool.specs.Slots.{AreSlots, behind}
use Rattle.dml_pool.proofs.Placed.{none_placed}
use Rattle.dml_pool.proofs.order.empty_slots.Goals as goal

pub returns-clause-empty : goal.returns-clause-empty
returns-clause-empty c = subst (AreSlots []) (sym (ap (map behind) c.loop.invariant.empty)) (none_placed c.loop.counter)
