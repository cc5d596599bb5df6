use Rattle.std.specs.Prelude.{Some}
use Rattle.std.proofs.lemmas.List.Elements.{All-pop}
use Rattle.dml_portal.specs.Lanes.{IsSeatOf}
use Rattle.dml_portal_tests.proofs.tests.portals.Two.of.Goals as goal

pub invariant_of-result : goal.invariant_of-result
invariant_of-result c =
    let of_lanes = IsSeatOf c.args.server.lanes.items in
    let all = All-pop of_lanes c.args.seats.items c.pop.new.self.items (Some c.in_ok-second.second) c.in_ok-second.ensures.items c.requires in
    let rest = All-pop of_lanes c.pop.new.self.items c.pop-2.new.self.items (Some c.in_ok-first.first) c.in_ok-first.ensures.items all.0 in
    record { own_first = rest.1; own_second = all.1 }
