use Rattle.std.proofs.Common.{◌<◌, ◌∙◌, length, refl, ap, arith}
use Rattle.std.proofs.Math.Seq.{map-set_same}
use Rattle.rtrb.specs.Ring.{known_items, received, sent}
use Rattle.dml_portal.specs.Lanes.{waiting}
use Rattle.dml_portal.specs.Held.{HasRoomOrIsHeld}
use Rattle.dml_portal.specs.Whole.{kept_by, received_by}
use Rattle.dml_portal.specs.declared.lanes.Lane.{Lane}
use Rattle.dml_portal.proofs.Lists.{below_set}
use Rattle.dml_portal.proofs.LaneLemmas.{same_more}
use Rattle.dml_portal.proofs.LookLemmas.{same_lanes_again}
use Rattle.dml_portal.proofs.HeldLemmas.{rooms_again, rooms_set}
use Rattle.dml_portal.proofs.WholeLemmas.{pushed_again, sent_again, sent_set}
use Rattle.dml_portal.proofs.lates.make_late.Goals as goal

pub loop-client-init : goal.loop-client-init
loop-client-init c =
    let lanes = c.args.lanes.now.items in
    record {
      kept = refl;
      received = refl;
      waiting = refl;
      sent = sent_again lanes;
      pushed = λ held. held;
      room = λ client lane below. absurd (omega (arith, below));
      within = λ bound _. rooms_again bound lanes;
      same = same_lanes_again lanes;
    }

pub loop-client-preserved : goal.loop-client-preserved
loop-client-preserved c =
    let before = c.loop-client.invariant in
    let i = c.loop-client.client in
    let start = c.args.lanes.now.items in
    let lanes = c.loop-client.lanes.items in
    let lane = c.index_mut.result.now in
    let now = c.reserve_late.new.lane in
    let done = c.reserve_late.ensures in
    let is = c.index_mut.ensures.value in
    let within : i < length lanes = omega (arith, c.loop-client-test.true, c.len-client-end.ensures, c.args.lanes.now.ok.0, before.same.0) in
    record {
      kept = map-set_same kept_by lanes i now lane (done.kept ∙ ap kept_by is) ∙ before.kept;
      received = map-set_same received_by lanes i now lane (ap received done.jobs ∙ ap received_by is) ∙ before.received;
      waiting = map-set_same waiting lanes i now lane (ap known_items done.jobs ∙ ap waiting is) ∙ before.waiting;
      sent = sent_set start lanes i lane now within before.same.0 is (omega (arith, ap (λ (r : _). length (sent r)) done.records)) before.sent;
      pushed = λ held. pushed_again lanes i lane now within is done.records done.late (before.pushed held);
      room = below_set (λ _ (l : Lane). HasRoomOrIsHeld c.args.most l) lanes i now within c.in_ok-reserve_late.ensures.room before.room;
      within = λ bound here. rooms_set bound start lanes i lane now within before.same.0 is (done.within bound here) (before.within bound here);
      same = same_more start lanes i lane now within is done.same before.same;
    }

pub returns-in_err-reserve_late-clause-kept : goal.returns-in_err-reserve_late-clause-kept
returns-in_err-reserve_late-clause-kept c =
    map-set_same kept_by c.loop-client.lanes.items c.loop-client.client c.reserve_late.new.lane c.index_mut.result.now (c.reserve_late.ensures.kept ∙ ap kept_by c.index_mut.ensures.value) ∙ c.loop-client.invariant.kept

pub returns-in_err-reserve_late-clause-received : goal.returns-in_err-reserve_late-clause-received
returns-in_err-reserve_late-clause-received c =
    map-set_same received_by c.loop-client.lanes.items c.loop-client.client c.reserve_late.new.lane c.index_mut.result.now (ap received c.reserve_late.ensures.jobs ∙ ap received_by c.index_mut.ensures.value) ∙ c.loop-client.invariant.received

pub returns-in_err-reserve_late-clause-waiting : goal.returns-in_err-reserve_late-clause-waiting
returns-in_err-reserve_late-clause-waiting c =
    map-set_same waiting c.loop-client.lanes.items c.loop-client.client c.reserve_late.new.lane c.index_mut.result.now (ap known_items c.reserve_late.ensures.jobs ∙ ap waiting c.index_mut.ensures.value) ∙ c.loop-client.invariant.waiting

pub returns-in_err-reserve_late-clause-sent : goal.returns-in_err-reserve_late-clause-sent
returns-in_err-reserve_late-clause-sent c =
    let before = c.loop-client.invariant in
    let i = c.loop-client.client in
    let lanes = c.loop-client.lanes.items in
    let within : i < length lanes = omega (arith, c.loop-client-test.true, c.len-client-end.ensures, c.args.lanes.now.ok.0, before.same.0) in
    sent_set c.args.lanes.now.items lanes i c.index_mut.result.now c.reserve_late.new.lane within before.same.0 c.index_mut.ensures.value (omega (arith, ap (λ (r : _). length (sent r)) c.reserve_late.ensures.records)) before.sent

pub returns-in_err-reserve_late-clause-pushed : goal.returns-in_err-reserve_late-clause-pushed
returns-in_err-reserve_late-clause-pushed c = λ held.
    let before = c.loop-client.invariant in
    let i = c.loop-client.client in
    let lanes = c.loop-client.lanes.items in
    let within : i < length lanes = omega (arith, c.loop-client-test.true, c.len-client-end.ensures, c.args.lanes.now.ok.0, before.same.0) in
    pushed_again lanes i c.index_mut.result.now c.reserve_late.new.lane within c.index_mut.ensures.value c.reserve_late.ensures.records c.reserve_late.ensures.late (before.pushed held)

pub returns-in_err-reserve_late-clause-within : goal.returns-in_err-reserve_late-clause-within
returns-in_err-reserve_late-clause-within c = λ bound here.
    let before = c.loop-client.invariant in
    let i = c.loop-client.client in
    let lanes = c.loop-client.lanes.items in
    let inside : i < length lanes = omega (arith, c.loop-client-test.true, c.len-client-end.ensures, c.args.lanes.now.ok.0, before.same.0) in
    rooms_set bound c.args.lanes.now.items lanes i c.index_mut.result.now c.reserve_late.new.lane inside before.same.0 c.index_mut.ensures.value (c.reserve_late.ensures.within bound here) (before.within bound here)

pub returns-in_err-reserve_late-clause-same : goal.returns-in_err-reserve_late-clause-same
returns-in_err-reserve_late-clause-same c =
    let i = c.loop-client.client in
    let lanes = c.loop-client.lanes.items in
    let within : i < length lanes = omega (arith, c.loop-client-test.true, c.len-client-end.ensures, c.args.lanes.now.ok.0, c.loop-client.invariant.same.0) in
    same_more c.args.lanes.now.items lanes i c.index_mut.result.now c.reserve_late.new.lane within c.index_mut.ensures.value c.reserve_late.ensures.same c.loop-client.invariant.same
