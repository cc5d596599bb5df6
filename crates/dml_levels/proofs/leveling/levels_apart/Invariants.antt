use Rattle.std.proofs.Common.{◌≡◌, ◌≤◌, length, vec_capacity}
use Rattle.dml_types.specs.Conflict.{clash_of, clash_levels}
use Rattle.dml_levels.specs.Hulls.{reach_so_far}
use Rattle.dml_levels.proofs.leveling.levels_apart.Given as goal

abbrev pub invariant-loop-i : goal.invariant-loop-i
invariant-loop-i l =
    (l.levels.items ≡ clash_levels (clash_of l.jobs) l.i)
    × (l.seen ≡ reach_so_far l.jobs l.i)
    × (length l.levels.items ≡ l.i)
    × (length l.jobs ≤ vec_capacity l.levels)
