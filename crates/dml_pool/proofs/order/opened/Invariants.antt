use Rattle.std.proofs.Common.{◌≡◌, ◌≤◌, ◌++◌, length, map, vec_capacity}
use Rattle.std.specs.Slice.Iter.{iter_mut_rest}
use Rattle.dml_pool.specs.Slots.{behind, held}
use Rattle.dml_pool.proofs.order.opened.Given as goal

abbrev pub invariant-loop-slot : goal.invariant-loop-slot
invariant-loop-slot l =
    record {
      can : (goal.iterator-loop-slot).can_next l.slot-iterator;
      ends : (goal.iterator-loop-slot).is_finite l.slot-iterator;
      split : l.fn.slots ≡ map (λ slot. slot.now) l.yielded ++ iter_mut_rest l.slot-iterator;
      opened : l.all.items ≡ held (map behind (map (λ slot. slot.now) l.yielded));
      few : length l.all.items ≤ length l.yielded;
      room : length l.fn.slots ≤ vec_capacity l.all;
    }
