use Rattle.std.proofs.Common.{◌≡◌, ℕ, ◌+◌, ◌-◌, ◌*◌, ◌<◌, ◌≤◌, ◌++◌, None}
use Rattle.dml_types.specs.Memory.{bytes_at}
use Rattle.dml_types.specs.Delta.{entry_fault}
use Rattle.dml_delta.proofs.RecordLemmas.{least_from}
use Rattle.dml_delta.proofs.applies.stage_good.Given as goal

abbrev pub invariant-loop-good : goal.invariant-loop-good
invariant-loop-good l = record {
  within : l.good ≤ l.readable;
  good : (i : ℕ) → i < l.good → entry_fault l.from l.image l.job (l.from + i) ≡ None;
  least : l.least ≡ least_from l.image l.job l.from (l.from + l.good);
  opening : l.room.opening ≡ l.initial.room.opening;
  start : l.room.start ≡ l.initial.room.start;
  room : l.room.room ≡ l.initial.room.room;
  bytes : l.room.bytes ≡ l.initial.room.bytes ++ bytes_at l.image (l.job.source + 10 * l.from) (10 * l.good);
}

abbrev pub decreases-loop-good : goal.decreases-loop-good
decreases-loop-good l = l.readable - l.good
