use Rattle.std.proofs.Common.{◌≡◌, ◌-◌, ◌%◌, ◌≤◌, length}
use Rattle.dml_scan.proofs.LaneLemmas.{RepeatsBelow}
use Rattle.dml_scan.proofs.lanes.first_unlike_long.Given as goal

abbrev pub invariant-loop-at : goal.invariant-loop-at
invariant-loop-at l = record { within : l.at ≤ length l.bytes; whole : l.at % 32 ≡ 0; repeats : RepeatsBelow l.bytes l.pattern l.from l.at }

abbrev pub decreases-loop-at : goal.decreases-loop-at
decreases-loop-at l = length l.bytes - l.at
