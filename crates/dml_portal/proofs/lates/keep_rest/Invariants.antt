use Rattle.std.proofs.Common.{◌≡◌, ◌++◌, take}
use Rattle.rtrb.specs.Ring.{sent}
use Rattle.dml_portal.specs.Log.{answers_in, part_of}
use Rattle.dml_portal.specs.Settled.{IsUnusedLane}
use Rattle.dml_portal.proofs.lates.keep_rest.Given as goal

abbrev pub invariant-loop-i : goal.invariant-loop-i
invariant-loop-i l =
    (sent l.lane.records ++ l.lane.late.items ≡ answers_in (part_of l.client (take l.i l.log)))
    × IsUnusedLane l.initial.lane l.lane
    × (l.lane.jobs ≡ l.initial.lane.jobs)
