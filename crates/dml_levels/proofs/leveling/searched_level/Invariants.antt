use Rattle.std.proofs.Common.{◌≤◌}
use Rattle.dml_types.specs.Conflict.{clash_of}
use Rattle.dml_levels.proofs.LevelLemmas.{IsHighest}
use Rattle.dml_levels.proofs.leveling.searched_level.Given as goal

abbrev pub invariant-loop-level : goal.invariant-loop-level
invariant-loop-level l = record {
  within : l.k ≤ l.place;
  highest : IsHighest (clash_of l.jobs) l.levels l.place l.k l.level;
}

abbrev pub decreases-loop-level : goal.decreases-loop-level
decreases-loop-level l = l.k
