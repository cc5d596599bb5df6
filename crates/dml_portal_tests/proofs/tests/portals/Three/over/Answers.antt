use Rattle.std.specs.Prelude.{IfOk, Some}
use Rattle.std.specs.List.{All}
use Rattle.std.proofs.lemmas.List.Elements.{All-pop}
use Rattle.dml_portal.specs.Lanes.{IsSeatOf}
use Rattle.dml_portal_tests.proofs.tests.portals.Three.over.Goals as goal

pub invariant_of-result : goal.invariant_of-result
invariant_of-result c =
    let opened = c.in-Ok in
    let of_lanes = IsSeatOf opened.server.lanes.items in
    let own : IfOk c.open.result (λ made. All (IsSeatOf made.0.lanes.items) made.1.items) → All of_lanes opened.seats.items =
    rw (← c.open-2.view_is, opened.is) (λ known. known) in
    let all = All-pop of_lanes opened.seats.items c.pop.new.self.items (Some c.in_ok-third.third) c.in_ok-third.ensures.items (own c.open.ensures.own_seats) in
    let two = All-pop of_lanes c.pop.new.self.items c.pop-2.new.self.items (Some c.in_ok-second.second) c.in_ok-second.ensures.items all.0 in
    let one = All-pop of_lanes c.pop-2.new.self.items c.pop-3.new.self.items (Some c.in_ok-first.first) c.in_ok-first.ensures.items two.0 in
    record { own_first = one.1; own_second = two.1; own_third = all.1 }
