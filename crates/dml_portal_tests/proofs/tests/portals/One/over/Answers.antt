use Rattle.std.specs.Prelude.{IfOk, Some}
use Rattle.std.specs.List.{All}
use Rattle.std.proofs.lemmas.List.Elements.{All-pop}
use Rattle.dml_portal.specs.Lanes.{IsSeatOf}
use Rattle.dml_portal_tests.proofs.tests.portals.One.over.Goals as goal

pub invariant_of-result : goal.invariant_of-result
invariant_of-result c =
    let opened = c.in-Ok in
    let of_lanes = IsSeatOf opened.server.lanes.items in
    let own : IfOk c.open.result (λ made. All (IsSeatOf made.0.lanes.items) made.1.items) → All of_lanes opened.seats.items =
    rw (← c.open-2.view_is, opened.is) (λ known. known) in
    let all = All-pop of_lanes opened.seats.items c.pop.new.self.items (Some c.in_ok-seat.seat) c.in_ok-seat.ensures.items (own c.open.ensures.own_seats) in
    record { own_seat = all.1 }
