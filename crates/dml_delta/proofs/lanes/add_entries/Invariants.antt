use Rattle.std.proofs.Common.{◌≡◌, ℕ, ◌+◌, ◌*◌, ◌/◌, ◌≤◌, true, ◌++◌, length}
use Rattle.dml_delta.specs.Entries.{nth_entry, gathered, is_marked}
use Rattle.dml_delta.proofs.lanes.add_entries.Given as goal

abbrev pub invariant-loop-marks : goal.invariant-loop-marks
invariant-loop-marks l = record {
  inside : (i : ℕ) → is_marked l.marks i ≡ true → 8 * i + 8 ≤ length l.blocks;
  entries : l.entries ++ gathered (nth_entry l.number l.blocks) (is_marked l.marks) 0 (length l.blocks / 8) ≡ l.initial.entries ++ gathered (nth_entry l.number l.blocks) (is_marked l.initial.marks) 0 (length l.blocks / 8);
}

abbrev pub decreases-loop-marks : goal.decreases-loop-marks
decreases-loop-marks l = length (gathered (nth_entry l.number l.blocks) (is_marked l.marks) 0 (length l.blocks / 8))
