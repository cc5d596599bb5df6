use Rattle.std.proofs.Common.{◌≡◌, take}
use Rattle.dml_order.specs.Waves.{depth}
use Rattle.dml_levels.proofs.waving.depth.Given as goal

abbrev pub invariant-loop-level : goal.invariant-loop-level
invariant-loop-level l = l.depth ≡ depth (take l.level-index l.levels)
