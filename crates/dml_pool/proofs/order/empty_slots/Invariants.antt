use Rattle.std.proofs.Common.{◌≡◌, replicate, None, vec_capacity}
use Rattle.dml_pool.proofs.order.empty_slots.Given as goal

abbrev pub invariant-loop : goal.invariant-loop
invariant-loop l = record { empty : l.slots.items ≡ replicate l.counter None; room : vec_capacity l.slots ≡ vec_capacity l.fn.slots }
