use Rattle.std.proofs.Common.{◌≡◌, ◌+◌, ◌++◌, map, take}
use Rattle.dml_levels.proofs.fencing.push_above.Given as goal

abbrev pub invariant-loop-level : goal.invariant-loop-level
invariant-loop-level l =
    l.levels.items ≡ l.initial.levels.items ++ map (λ level. l.base + level) (take l.level-index l.piece)
