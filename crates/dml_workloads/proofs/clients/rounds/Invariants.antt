use Rattle.std.specs.List.{All}
use Rattle.dml_portal.specs.Lanes.{IsSeatOf}
use Rattle.dml_portal.specs.Servers.{lanes_of}
use Rattle.dml_workloads.proofs.clients.rounds.Given as goal

abbrev pub invariant-loop : goal.invariant-loop
invariant-loop g l = All (IsSeatOf (lanes_of l.server)) l.seats.items
