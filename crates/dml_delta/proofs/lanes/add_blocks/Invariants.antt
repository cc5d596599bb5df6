use Rattle.std.proofs.Common.{◌≡◌, ◌*◌}
use Rattle.dml_delta.specs.Entries.{nth_differs, nth_entry, gathered}
use Rattle.dml_delta.proofs.lanes.add_blocks.Given as goal

abbrev pub invariant-loop-k : goal.invariant-loop-k
invariant-loop-k l = record {
  bytes : l.entries ≡ gathered (nth_entry l.number l.other) (nth_differs l.one l.other) 0 (8 * l.k);
}
