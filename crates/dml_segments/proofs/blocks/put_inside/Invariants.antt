use Rattle.std.proofs.Common.{◌≡◌, ◌-◌, ◌≤◌, length}
use Rattle.dml_segments.specs.Blocks.{after_puts, block_puts_from, AreInside}
use Rattle.dml_segments.proofs.blocks.put_inside.Given as goal

abbrev pub invariant-loop-done : goal.invariant-loop-done
invariant-loop-done l = record {
  order : l.first ≤ l.done;
  within : l.done ≤ l.count;
  inside : AreInside l.begin (length l.initial.bytes) (block_puts_from l.target l.entries l.first (l.done - l.first));
  bytes : l.bytes ≡ after_puts l.begin l.initial.bytes (block_puts_from l.target l.entries l.first (l.done - l.first));
}

abbrev pub decreases-loop-done : goal.decreases-loop-done
decreases-loop-done l = l.count - l.done
