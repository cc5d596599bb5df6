use Rattle.std.proofs.Common.{◌≡◌, ◌+◌, ◌-◌, ◌≤◌, ◌++◌}
use Rattle.dml_types.specs.Memory.{bytes_at}
use Rattle.dml_arena.specs.Piece.{SamePlace}
use Rattle.dml_scan.proofs.staging.stage.Given as goal

abbrev pub invariant-loop-left : goal.invariant-loop-left
invariant-loop-left l = record {
  within : l.left ≤ l.len;
  at : l.place ≡ l.addr + (l.len - l.left);
  place : SamePlace l.initial.room l.room;
  bytes : l.room.bytes ≡ l.initial.room.bytes ++ bytes_at l.image l.addr (l.len - l.left);
}

abbrev pub decreases-loop-left : goal.decreases-loop-left
decreases-loop-left l = l.left
