use Rattle.std.proofs.Common.{[], arith, sym, subst}
use Rattle.std.specs.List.{All}
use Rattle.std.proofs.lemmas.List.Elements.{All-push}
use Rattle.dml_portal.specs.Lanes.{IsSeatOf}
use Rattle.dml_portal.specs.declared.seats.Done.{Done}
use Rattle.dml_portal_tests.proofs.tests.portals.Two.settle_into.Goals as goal

pub settle-requires-clause-seats : goal.settle-requires-clause-seats
settle-requires-clause-seats g c κs within =
    let lanes = c.args.self.server.lanes.items in
    let of_lanes = λ (done : Done). IsSeatOf lanes done.seat in
    let none : All of_lanes [] = λ place done below. absurd (omega (arith, below)) in
    let first = subst (λ seat. IsSeatOf lanes seat) (sym c.finish.ensures) c.args.self.own_first in
    let second = subst (λ seat. IsSeatOf lanes seat) (sym c.finish-2.ensures) c.args.self.own_second in
    let one = subst (All of_lanes) (sym c.push_reserved.ensures.items) (All-push of_lanes c.args.dones.items c.finish.result (subst (All of_lanes) (sym c.requires.empty) none) first) in
    subst (All of_lanes) (sym c.push_reserved-2.ensures.items) (All-push of_lanes c.push_reserved.new.self.items c.finish-2.result one second)
