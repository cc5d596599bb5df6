use Rattle.dml_portal.specs.Seats.{IsSameSeat}
use Rattle.dml_portal_tests.proofs.tests.steps.submit_all.Given as goal

abbrev pub invariant-loop-job : goal.invariant-loop-job
invariant-loop-job g l = IsSameSeat l.initial.seat l.seat
