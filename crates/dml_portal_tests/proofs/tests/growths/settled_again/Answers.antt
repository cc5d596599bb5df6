use Rattle.dml_portal.proofs.LookLemmas.{seats_same}
use Rattle.dml_portal_tests.proofs.tests.growths.settled_again.Goals as goal

pub settle-requires-clause-seats : goal.settle-requires-clause-seats
settle-requires-clause-seats g c κs within =
    seats_same c.args.server.lanes.items c.serve_round.new.self.lanes.items c.args.dones.items c.serve_round.ensures.same c.requires
