use Rattle.dml_levels.specs.Starts.{IsSought}
use Rattle.dml_levels.proofs.starts.Starts.search.Given as goal

abbrev pub invariant-loop-left : goal.invariant-loop-left
invariant-loop-left l = IsSought l.self l.address l.first l.left

abbrev pub decreases-loop-left : goal.decreases-loop-left
decreases-loop-left l = l.left
