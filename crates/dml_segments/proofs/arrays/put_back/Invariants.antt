use Rattle.std.proofs.Common.{◌≡◌, ℕ, ◌<◌, ◌≤◌, get_or, length, take}
use Rattle.dml_segments.specs.declared.segments.Segment.{Segment}
use Rattle.dml_segments.proofs.arrays.put_back.Given as goal

abbrev pub invariant-loop-k : goal.invariant-loop-k
invariant-loop-k l = record {
  within : l.k ≤ length l.fn.list.items;
  size : length l.segments ≡ length l.fn.list.items;
  front : l.list.items ≡ take l.k l.fn.list.items;
  back : (j : ℕ) (default : Segment) → l.k ≤ j → j < length l.fn.list.items → get_or l.segments j default ≡ get_or l.fn.list.items j default;
}

abbrev pub decreases-loop-k : goal.decreases-loop-k
decreases-loop-k l = l.k
