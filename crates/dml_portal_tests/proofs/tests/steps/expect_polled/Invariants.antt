use Rattle.dml_portal.specs.Seats.{IsSameSeat}
use Rattle.dml_portal_tests.proofs.tests.steps.expect_polled.Given as goal

abbrev pub invariant-loop-record : goal.invariant-loop-record
invariant-loop-record g l = IsSameSeat l.initial.seat l.seat
