use Rattle.dml_portal.specs.Seats.{IsSameSeat}
use Rattle.dml_portal_tests.proofs.tests.clients.polled.Given as goal

abbrev pub invariant-loop : goal.invariant-loop
invariant-loop g l = IsSameSeat l.fn.seat l.seat
