use Rattle.std.proofs.Common.{◌≡◌, ◌*◌, ◌++◌}
use Rattle.dml_delta.specs.Entries.{nth_differs, nth_entry, gathered}
use Rattle.dml_delta.proofs.lanes.add_differing.Given as goal

abbrev pub invariant-loop-k : goal.invariant-loop-k
invariant-loop-k l = record {
  opening : l.room.opening ≡ l.initial.room.opening;
  start : l.room.start ≡ l.initial.room.start;
  room : l.room.room ≡ l.initial.room.room;
  bytes : l.room.bytes ++ l.entries ≡ (l.initial.room.bytes ++ l.initial.entries) ++ gathered (nth_entry l.number l.other) (nth_differs l.one l.other) 0 (8 * l.k);
}
