use Rattle.std.proofs.Common.{◌-◌, ◌/◌, ◌≤◌, length}
use Rattle.dml_delta.specs.Record.{AreRising}
use Rattle.dml_delta.proofs.record.behind_rising.Given as goal

abbrev pub decreases-loop-i : goal.decreases-loop-i
decreases-loop-i l = length l.entries / 10 - l.i

abbrev pub invariant-loop-i : goal.invariant-loop-i
invariant-loop-i l = record {
  low : l.from ≤ l.i;
  high : l.i ≤ length l.entries / 10;
  rising : AreRising l.entries l.from l.i l.end;
}

abbrev pub decreases-loop-i-2 : goal.decreases-loop-i-2
decreases-loop-i-2 l = length l.entries / 10 - l.i

abbrev pub invariant-loop-i-2 : goal.invariant-loop-i-2
invariant-loop-i-2 l = record {
  low : l.from ≤ l.i;
  high : l.i ≤ length l.entries / 10;
  rising : AreRising l.entries l.from l.i l.end;
}
