use Rattle.dml_portal.specs.Lanes.{AreSameLanes}
use Rattle.dml_portal_tests.proofs.tests.staying_clients.served.Given as goal

abbrev pub invariant-loop : goal.invariant-loop
invariant-loop g l = AreSameLanes l.fn.server.lanes.items l.server.lanes.items
