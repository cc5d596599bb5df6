use Rattle.std.proofs.Common.{◌<◌, ◌∙◌, ap, get_or, length, rules, set, sym, subst, arith}
use Rattle.std.proofs.lemmas.List.{get_or-set_same, length-append}
use Rattle.rtrb.specs.Ring.{received}
use Rattle.dml_portal.specs.Lanes.{waiting}
use Rattle.dml_portal.specs.Settled.{IsLeft}
use Rattle.std.proofs.Math.Seq.{map-set_same}
use Rattle.dml_portal.specs.Whole.{late_of, room_by}
use Rattle.dml_portal.proofs.looking.is_drained.Goals as goal

pub returns-clause-late : goal.returns-clause-late
returns-clause-late c =
    map-set_same late_of c.args.lanes.now.items c.args.done.now.seat.client c.look.new.lane c.index_mut-lane.result.now (c.look.ensures.late ∙ ap late_of c.index_mut-lane.ensures.value)

pub returns-clause-late_room : goal.returns-clause-late_room
returns-clause-late_room c =
    map-set_same room_by c.args.lanes.now.items c.args.done.now.seat.client c.look.new.lane c.index_mut-lane.result.now (c.look.ensures.late_room ∙ ap room_by c.index_mut-lane.ensures.value)

pub returns-clause-left : goal.returns-clause-left
returns-clause-left c = λ is d.
    let seat = c.look.new.seat in
    let now = c.look.new.lane in
    let looked = c.look.ensures in
    let client = c.args.done.now.seat.client in
    let some : 0 < c.look.result = search (rules, is) in
    let here : IsLeft now seat = (
      omega (arith, ap length looked.left, length-append (received now.jobs) (waiting now), looked.number, some),
      omega (arith, looked.number, some),
    ) in
    subst (λ n. IsLeft (get_or (set c.args.lanes.now.items client now) n d) seat) (sym looked.seat.0.0)
    (subst (λ l. IsLeft l seat) (sym (get_or-set_same c.args.lanes.now.items client now d c.requires.0)) here)
