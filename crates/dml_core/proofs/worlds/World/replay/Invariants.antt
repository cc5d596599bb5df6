use Rattle.std.proofs.Common.{◌≤◌, ◌-◌, length, take}
use Rattle.dml_core.specs.World.{Reaches}
use Rattle.dml_core.proofs.worlds.World.replay.Given as goal

abbrev pub invariant-loop-place : goal.invariant-loop-place
invariant-loop-place l = (l.place ≤ length l.steps) × Reaches l.fn.self (take l.place l.steps) l.world

abbrev pub decreases-loop-place : goal.decreases-loop-place
decreases-loop-place l = length l.steps - l.place
