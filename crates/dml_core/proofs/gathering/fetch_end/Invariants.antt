use Rattle.std.proofs.Common.{◌<◌, ◌≤◌, length}
use Rattle.dml_core.specs.Gather.{NoneFetches}
use Rattle.dml_core.proofs.gathering.fetch_end.Given as goal

abbrev pub invariant-loop-end : goal.invariant-loop-end
invariant-loop-end l = (0 < l.end) × (l.end ≤ length l.steps) × NoneFetches l.steps l.end

abbrev pub decreases-loop-end : goal.decreases-loop-end
decreases-loop-end l = l.end
