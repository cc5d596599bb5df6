use Rattle.dml_portal.specs.Seats.{IsSameSeat}
use Rattle.dml_portal_tests.proofs.tests.waiting_clients.worked.Given as goal

abbrev pub invariant-loop-turn : goal.invariant-loop-turn
invariant-loop-turn g l = IsSameSeat l.fn.seat l.seat
