use Rattle.std.proofs.Common.{◌≡◌, drop, map}
use Rattle.dml_portal.specs.Lanes.{ArePopped, ArePushed, AreSameLanes, waiting}
use Rattle.dml_portal.specs.Blocks.{AreBlocks}
use Rattle.dml_portal.proofs.answering.push_round.Given as goal

abbrev pub invariant-loop-client : goal.invariant-loop-client
invariant-loop-client l =
    ArePopped l.lanes.items l.log
    × ArePushed l.lanes.items l.log
    × AreBlocks l.lanes.items (drop l.start l.log)
    × (map waiting l.lanes.items ≡ map waiting l.initial.lanes.items)
    × AreSameLanes l.initial.lanes.items l.lanes.items
