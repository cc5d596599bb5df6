use Rattle.std.proofs.Common.{◌≡◌, ◌-◌, ◌%◌, ◌≤◌, length}
use Rattle.dml_scan.proofs.LaneLemmas.{RepeatsBelow}
use Rattle.dml_scan.proofs.lanes.first_unlike.Given as goal

abbrev pub invariant-loop-at : goal.invariant-loop-at
invariant-loop-at l = record { within : l.at ≤ length l.bytes; whole : l.at % 32 ≡ 0; repeats : RepeatsBelow l.bytes l.pattern l.from l.at }

abbrev pub decreases-loop-at : goal.decreases-loop-at
decreases-loop-at l = length l.bytes - l.at

abbrev pub invariant-loop-at-2 : goal.invariant-loop-at-2
invariant-loop-at-2 l = record { within : l.at ≤ length l.bytes; whole : l.at % 32 ≡ 0; repeats : RepeatsBelow l.bytes l.pattern l.from l.at }

abbrev pub decreases-loop-at-2 : goal.decreases-loop-at-2
decreases-loop-at-2 l = length l.bytes - l.at

abbrev pub invariant-loop-at-3 : goal.invariant-loop-at-3
invariant-loop-at-3 l = record { within : l.at ≤ length l.bytes; repeats : RepeatsBelow l.bytes l.pattern l.from l.at }

abbrev pub decreases-loop-at-3 : goal.decreases-loop-at-3
decreases-loop-at-3 l = length l.bytes - l.at
