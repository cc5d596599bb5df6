use Rattle.std.proofs.Common.{◌≡◌, ◌-◌, length}
use Rattle.dml_segments.specs.Blocks.{after_puts, block_puts_from, AreInside}
use Rattle.dml_segments.proofs.blocks.put_singly.Given as goal

abbrev pub invariant-loop-i : goal.invariant-loop-i
invariant-loop-i l = record {
  inside : AreInside l.begin (length l.initial.bytes) (block_puts_from l.target l.entries l.first (l.i - l.first));
  bytes : l.bytes ≡ after_puts l.begin l.initial.bytes (block_puts_from l.target l.entries l.first (l.i - l.first));
}
