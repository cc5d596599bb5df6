use Rattle.std.proofs.Common.{◌≡◌, ◌-◌, ◌≤◌}
use Rattle.dml_types.specs.Memory.{puts_made}
use Rattle.dml_segments.specs.Blocks.{block_puts_from}
use Rattle.dml_segments.proofs.segmented.Segments.put_blocks.Given as goal

abbrev pub invariant-loop-done : goal.invariant-loop-done
invariant-loop-done l = record {
  within : l.done ≤ l.count;
  made : l.self ≡ puts_made l.fn.self (block_puts_from l.target l.entries 0 l.done);
}

abbrev pub decreases-loop-done : goal.decreases-loop-done
decreases-loop-done l = l.count - l.done
