use Rattle.std.proofs.Common.{◌≡◌, ◌<◌, ◌++◌, length, map}
use Rattle.std.specs.List.{All}
use Rattle.std.specs.Slice.Iter.{iter_mut_rest}
use Rattle.dml_pool.specs.Slots.{AreSlots, all_held, behind}
use Rattle.dml_pool.proofs.order.in_order.Given as goal

abbrev pub invariant-loop-list : goal.invariant-loop-list
invariant-loop-list l =
    record {
      can : (goal.iterator-loop-list).can_next l.list-iterator;
      ends : (goal.iterator-loop-list).is_finite l.list-iterator;
      split : l.fn.lists ≡ map (λ list. list.now) l.yielded ++ iter_mut_rest l.list-iterator;
      within : All (λ outcome. outcome.task < length l.fn.slots) (all_held (iter_mut_rest l.list-iterator));
      count : length l.slots ≡ length l.fn.slots;
      slots : AreSlots (all_held (map (λ list. list.now) l.yielded)) (map behind l.slots);
    }
