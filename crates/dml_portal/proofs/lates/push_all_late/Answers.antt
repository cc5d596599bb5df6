use Rattle.std.proofs.Common.{◌<◌, ◌∙◌, length, refl, ap, arith}
use Rattle.std.proofs.Math.Seq.{map-set_same}
use Rattle.rtrb.specs.Ring.{known_items, received}
use Rattle.dml_portal.specs.Lanes.{waiting}
use Rattle.dml_portal.specs.Whole.{HasPushed, kept_by, received_by, room_by}
use Rattle.dml_portal.specs.declared.lanes.Lane.{Lane}
use Rattle.dml_portal.proofs.Lists.{below_set}
use Rattle.dml_portal.proofs.LaneLemmas.{same_more}
use Rattle.dml_portal.proofs.LookLemmas.{same_lanes_again}
use Rattle.dml_portal.proofs.WholeLemmas.{sent_again, sent_set}
use Rattle.dml_portal.proofs.lates.push_all_late.Goals as goal

pub loop-client-init : goal.loop-client-init
loop-client-init c =
    let lanes = c.args.lanes.now.items in
    record {
      kept = refl;
      received = refl;
      waiting = refl;
      late_room = refl;
      sent = sent_again lanes;
      pushed = λ client lane below. absurd (omega (arith, below));
      same = same_lanes_again lanes;
    }

pub loop-client-preserved : goal.loop-client-preserved
loop-client-preserved c =
    let before = c.loop-client.invariant in
    let i = c.loop-client.client in
    let start = c.args.lanes.now.items in
    let lanes = c.loop-client.lanes.items in
    let lane = c.index_mut.result.now in
    let now = c.push_late.new.lane in
    let done = c.push_late.ensures in
    let is = c.index_mut.ensures.value in
    let within : i < length lanes = omega (arith, c.loop-client-test.true, c.len-client-end.ensures, c.args.lanes.now.ok.0, before.same.0) in
    record {
      kept = map-set_same kept_by lanes i now lane (done.kept ∙ ap kept_by is) ∙ before.kept;
      received = map-set_same received_by lanes i now lane (ap received done.jobs ∙ ap received_by is) ∙ before.received;
      waiting = map-set_same waiting lanes i now lane (ap known_items done.jobs ∙ ap waiting is) ∙ before.waiting;
      late_room = map-set_same room_by lanes i now lane (done.late_room ∙ ap room_by is) ∙ before.late_room;
      sent = sent_set start lanes i lane now within before.same.0 is done.sent before.sent;
      pushed = below_set (λ _ (l : Lane). HasPushed l) lanes i now within done.pushed before.pushed;
      same = same_more start lanes i lane now within is done.same before.same;
    }
