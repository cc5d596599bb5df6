use Rattle.std.proofs.Common.{drop, length, rules, subst, sym}
use Rattle.std.specs.List.{All}
use Rattle.dml_portal.specs.Lanes.{IsSeatOf}
use Rattle.dml_workloads.proofs.SeatLemmas.{put_back}
use Rattle.dml_workloads.proofs.clients.submitted.Goals as goal

pub returns : goal.returns
returns c lanes of =
    let taken = c.deref_mut-seat-items.ensures in
    let now = c.loop-seat.seat-items in
    let all = c.loop-seat.invariant lanes (subst (All (IsSeatOf lanes)) (sym taken.value) of) in
    subst (All (IsSeatOf lanes)) (sym (put_back c.args.seats.now.len now (drop (length now) c.args.seats.now.items) (search rules))) all
