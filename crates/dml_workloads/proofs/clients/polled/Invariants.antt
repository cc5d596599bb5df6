use Rattle.std.specs.Prelude.{List}
use Rattle.std.specs.List.{All}
use Rattle.dml_portal.specs.Lanes.{IsSeatOf}
use Rattle.dml_portal.specs.declared.lanes.Lane.{Lane}
use Rattle.dml_workloads.proofs.clients.polled.Given as goal

abbrev pub invariant-loop-seat : goal.invariant-loop-seat
invariant-loop-seat l = (lanes : List Lane) → All (IsSeatOf lanes) l.initial.seat-items → All (IsSeatOf lanes) l.seat-items
