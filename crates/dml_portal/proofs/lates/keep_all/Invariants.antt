use Rattle.std.proofs.Common.{◌≡◌, ℕ, ◌<◌, get_or, map}
use Rattle.dml_portal.specs.Lanes.{ArePushed, waiting}
use Rattle.dml_portal.specs.Settled.{AreUnusedLanes}
use Rattle.dml_portal.specs.Whole.{IsKept}
use Rattle.dml_portal.specs.declared.lanes.Lane.{Lane}
use Rattle.dml_portal.proofs.lates.keep_all.Given as goal

abbrev pub invariant-loop-client : goal.invariant-loop-client
invariant-loop-client l =
    record {
      kept : (client : ℕ) (lane : Lane) → client < l.client → IsKept l.log client (get_or l.lanes.items client lane);
      pushed : ArePushed l.lanes.items l.log;
      unused : AreUnusedLanes l.initial.lanes.items l.lanes.items;
      waiting : map waiting l.lanes.items ≡ map waiting l.initial.lanes.items;
    }
