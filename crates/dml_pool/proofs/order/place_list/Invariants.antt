use Rattle.std.proofs.Common.{◌≡◌, ◌<◌, ◌++◌, List, length, map}
use Rattle.std.specs.List.{All}
use Rattle.std.specs.Slice.Iter.{iter_mut_rest}
use Rattle.dml_pool.specs.declared.tasks.Outcome.{Outcome}
use Rattle.dml_pool.specs.Slots.{AreSlots, behind, held}
use Rattle.dml_pool.proofs.order.place_list.Given as goal

abbrev pub invariant-loop-place : goal.invariant-loop-place
invariant-loop-place l =
    record {
      can : (goal.iterator-loop-place).can_next l.place-iterator;
      ends : (goal.iterator-loop-place).is_finite l.place-iterator;
      split : l.fn.list.items ≡ map (λ place. place.now) l.yielded ++ iter_mut_rest l.place-iterator;
      within : All (λ outcome. outcome.task < length l.fn.slots) (held (iter_mut_rest l.place-iterator));
      count : length l.slots ≡ length l.fn.slots;
      slots :
          (before : List Outcome) → AreSlots before (map behind l.fn.slots)
          → AreSlots (before ++ held (map (λ place. place.now) l.yielded)) (map behind l.slots);
    }
