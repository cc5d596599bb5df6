use Rattle.std.proofs.Common.{◌≤◌, length}
use Rattle.dml_levels.specs.Links.{AreLinked}
use Rattle.dml_levels.proofs.links.link_places.Given as goal

abbrev pub invariant-loop-place : goal.invariant-loop-place
invariant-loop-place l = (l.place ≤ length l.levels) × AreLinked l.levels l.links.items l.place

abbrev pub decreases-loop-place : goal.decreases-loop-place
decreases-loop-place l = l.place
