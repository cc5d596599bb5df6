use Rattle.std.proofs.Common.{◌≡◌, length}
use Rattle.dml_portal.specs.Lanes.{AreSameLanes}
use Rattle.dml_portal.specs.Settled.{AreSeatsOf, AreUnusedSeats}
use Rattle.dml_portal.proofs.ServedLemmas.{Grown}
use Rattle.dml_portal.specs.Whole.{StayWhole}
use Rattle.dml_portal.proofs.RingLeftLemmas.{jobs_left}
use Rattle.dml_portal.proofs.long.LongServerOver.serve_rest.Given as goal

abbrev pub invariant-loop-alloc : goal.invariant-loop-alloc
invariant-loop-alloc g l =
    let start = l.initial.self in
    Grown start.engine.settings (length start.lanes.items) start.engine.image start.log.items l.self.engine.image l.self.log.items
    × (l.self.engine.settings ≡ start.engine.settings)
    × AreSameLanes start.lanes.items l.self.lanes.items
    × AreSeatsOf l.self.lanes.items l.dones.items
    × AreUnusedSeats l.initial.dones.items l.dones.items
    × StayWhole start.lanes.items start.log.items l.self.lanes.items l.self.log.items
    × (l.self.most ≡ start.most)

abbrev pub decreases-loop-alloc : goal.decreases-loop-alloc
decreases-loop-alloc g l = jobs_left l.self.lanes.items l.dones.items
