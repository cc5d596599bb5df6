use Rattle.dml_portal.specs.Seats.{IsSameSeat}
use Rattle.dml_portal_tests.proofs.tests.clients.polled_to_the_end.Given as goal

abbrev pub invariant-loop-answer : goal.invariant-loop-answer
invariant-loop-answer g l = IsSameSeat l.fn.seat l.seat
