use Rattle.std.proofs.Common.{length, map, ap, sym, ◌∙◌, subst}
use Rattle.dml_pool.specs.Slots.{AreOutcomes, behind}
use Rattle.dml_pool.proofs.Orders.{opened_filled}
use Rattle.dml_pool.proofs.order.ordered.Goals as goal

pub returns : goal.returns
returns c memory tasks hold same =
    let slots = map behind c.in_order.new.slots in
    subst (AreOutcomes memory tasks) (sym c.opened.ensures)
    (opened_filled memory tasks slots (c.in_order.ensures.filled memory tasks hold (ap length c.as_mut_slice-row.ensures.value ∙ (c.empty_slots-slots.ensures.count ∙ same))))
