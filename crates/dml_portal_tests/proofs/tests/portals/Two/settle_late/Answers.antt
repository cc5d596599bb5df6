use Rattle.std.proofs.Common.{◌≡◌, rules, sym, subst}
use Rattle.std.proofs.lemmas.List.Elements.{All-push, All-same}
use Rattle.dml_portal.specs.Lanes.{IsSeatOf}
use Rattle.dml_portal.specs.declared.errors.SettleFault.TheVariants as SettleFault
use Rattle.dml_portal.specs.declared.seats.Done.{Done}
use Rattle.dml_portal_tests.proofs.tests.portals.Two.settle_late.Goals as goal

pub settle-requires-2-clause-seats : goal.settle-requires-2-clause-seats
settle-requires-2-clause-seats g c κs within =
    let kept = c.in-Err.kept in
    let of_lanes = λ (done : Done). IsSeatOf kept.0.lanes.items done.seat in
    let strangers : kept.2 ≡ SettleFault.Strangers = search (rules, c.ne.ensures, c.if-ne.ensures, c.if-ne.false) in
    let same = c.in-Err.ensures.unchanged strangers in
    let second = subst (λ server. IsSeatOf server.lanes.items c.finish-2.result.seat) (sym same.0) (subst (λ seat. IsSeatOf c.args.self.server.lanes.items seat) (sym c.finish-2.ensures) c.args.self.own_second) in
    All-same of_lanes c.push.new.self.items _ c.in-Ok.ensures.items (All-push of_lanes kept.1.items c.finish-2.result c.in-Err.ensures.kept_seats.0 second)
