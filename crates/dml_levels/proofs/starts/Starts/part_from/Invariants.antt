use Rattle.std.proofs.Common.{ℕ, ◌+◌, ◌-◌, ◌<◌, ◌≤◌, List, length}
use Rattle.dml_levels.specs.Starts.{IsSought}
use Rattle.dml_levels.proofs.starts.Starts.part_from.Given as goal

-- some starts are left, and the steps do not pass those behind by much
pub record IsStep (starts : List ℕ) (address first step : ℕ) : Type 0 where
  pub sought : IsSought starts address first (length starts - first)
  pub some : 0 < step
  pub near : step ≤ first + 1

abbrev pub invariant-loop-step : goal.invariant-loop-step
invariant-loop-step l = IsStep l.self l.address l.first l.step

abbrev pub decreases-loop-step : goal.decreases-loop-step
decreases-loop-step l = length l.self - l.first
