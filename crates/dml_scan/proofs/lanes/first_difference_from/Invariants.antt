use Rattle.std.proofs.Common.{◌≡◌, ℕ, ◌-◌, ◌<◌, ◌≤◌, length, get_or}
use Rattle.dml_scan.proofs.lanes.first_difference_from.Given as goal

abbrev pub invariant-loop-at : goal.invariant-loop-at
invariant-loop-at l = record { within : l.at ≤ length l.a; alike : (i : ℕ) → i < l.at → get_or l.a i 0 ≡ get_or l.b i 0 }

abbrev pub decreases-loop-at : goal.decreases-loop-at
decreases-loop-at l = length l.a - l.at

abbrev pub invariant-loop-at-2 : goal.invariant-loop-at-2
invariant-loop-at-2 l = record { within : l.at ≤ length l.a; alike : (i : ℕ) → i < l.at → get_or l.a i 0 ≡ get_or l.b i 0 }

abbrev pub decreases-loop-at-2 : goal.decreases-loop-at-2
decreases-loop-at-2 l = length l.a - l.at

abbrev pub invariant-loop-at-3 : goal.invariant-loop-at-3
invariant-loop-at-3 l = record { within : l.at ≤ length l.a; alike : (i : ℕ) → i < l.at → get_or l.a i 0 ≡ get_or l.b i 0 }

abbrev pub decreases-loop-at-3 : goal.decreases-loop-at-3
decreases-loop-at-3 l = length l.a - l.at
