use Rattle.std.proofs.Common.{◌≡◌, map}
use Rattle.dml_portal.specs.Lanes.{waiting}
use Rattle.dml_portal.specs.Settled.{AreUnusedLanes}
use Rattle.dml_portal.proofs.lates.keep_none.Given as goal

abbrev pub invariant-loop-client : goal.invariant-loop-client
invariant-loop-client l =
    record {
      waiting : map waiting l.lanes.items ≡ map waiting l.initial.lanes.items;
      unused : AreUnusedLanes l.initial.lanes.items l.lanes.items;
    }
