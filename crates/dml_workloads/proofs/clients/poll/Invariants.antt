use Rattle.dml_portal.specs.Seats.{IsSameSeat}
use Rattle.dml_workloads.proofs.clients.poll.Given as goal

abbrev pub invariant-loop : goal.invariant-loop
invariant-loop l = IsSameSeat l.initial.seat l.seat
