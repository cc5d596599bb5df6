use Rattle.std.proofs.Common.{◌≡◌, ℕ, ◌+◌, ◌-◌, ◌<◌, ◌≤◌, ◌++◌, true}
use Rattle.dml_types.specs.Delta.{differs, block_entry, is_readable}
use Rattle.dml_delta.specs.Entries.{gathered}
use Rattle.dml_delta.proofs.creates.add_readable.Given as goal

abbrev pub invariant-loop-done : goal.invariant-loop-done
invariant-loop-done l = record {
  within : l.done ≤ l.count;
  readable : (i : ℕ) → i < l.done → is_readable l.image l.job (l.from + i) ≡ true;
  opening : l.room.opening ≡ l.initial.room.opening;
  start : l.room.start ≡ l.initial.room.start;
  room : l.room.room ≡ l.initial.room.room;
  bytes : l.room.bytes ++ l.entries ≡ (l.initial.room.bytes ++ l.initial.entries) ++ gathered (block_entry l.image l.job) (differs l.image l.job) l.from l.done;
}

abbrev pub decreases-loop-done : goal.decreases-loop-done
decreases-loop-done l = l.count - l.done
