use Rattle.std.proofs.Common.{◌≡◌, ◌<◌, ◌∙◌, length, refl, ap, arith, subst, sym, get_or}
use Rattle.std.proofs.Math.Seq.{map-set_same}
use Rattle.std.proofs.lemmas.List.{get_or-set_other, get_or_default}
use Rattle.rtrb.specs.Ring.{known_items, received}
use Rattle.dml_portal.specs.Lanes.{waiting}
use Rattle.dml_portal.specs.Parts.{IsPartly}
use Rattle.dml_portal.specs.Whole.{HasRoom, received_by, room_by}
use Rattle.dml_portal.specs.declared.lanes.Lane.{Lane}
use Rattle.dml_portal.proofs.Lists.{below_set, each_set}
use Rattle.dml_portal.proofs.LaneLemmas.{same_more}
use Rattle.dml_portal.proofs.LookLemmas.{same_lanes_again}
use Rattle.dml_portal.proofs.WholeLemmas.{sent_again, sent_set}
use Rattle.dml_portal.proofs.lates.push_or_keep_all.Goals as goal

pub loop-client-init : goal.loop-client-init
loop-client-init c =
    let lanes = c.args.lanes.now.items in
    record {
      blocks = λ client lane below. absurd (omega (arith, below));
      room = c.requires.room;
      rest = λ client lane from. refl;
      received = refl;
      waiting = refl;
      late_room = refl;
      sent = sent_again lanes;
      same = same_lanes_again lanes;
    }

pub push_or_keep-requires : goal.push_or_keep-requires
push_or_keep-requires c =
    let i = c.loop-client.client in
    let within : i < length c.loop-client.lanes.items = omega (arith, c.loop-client-test.true, c.len-client-end.ensures, c.args.lanes.now.ok.0, c.loop-client.invariant.same.0) in
    subst HasRoom (sym c.index_mut.ensures.value) (c.loop-client.invariant.room i c.index_mut.result.now within)

pub loop-client-preserved : goal.loop-client-preserved
loop-client-preserved c =
    let before = c.loop-client.invariant in
    let i = c.loop-client.client in
    let records = c.args.records.now in
    let start = c.args.lanes.now.items in
    let lanes = c.loop-client.lanes.items in
    let lane = c.index_mut.result.now in
    let now = c.push_or_keep.new.lane in
    let done = c.push_or_keep.ensures in
    let is = c.index_mut.ensures.value in
    let within : i < length lanes = omega (arith, c.loop-client-test.true, c.len-client-end.ensures, c.args.lanes.now.ok.0, before.same.0) in
    let inside : i < length start = omega (arith, within, before.same.0) in
    let mine : lane ≡ get_or start i now = is ∙ (before.rest i lane (omega arith) ∙ get_or_default start i lane now inside) in
    record {
      blocks = below_set (λ client l. IsPartly records (get_or start client l) l) lanes i now within
          (subst (λ (old : Lane). IsPartly records old now) mine done.partly)
          before.blocks;
      room = each_set (λ _ (l : Lane). HasRoom l) lanes i now within done.room (λ other d below differs. before.room other d below);
      rest = λ client d from. get_or-set_other lanes i client now d (λ e. omega (arith, e, from)) ∙ before.rest client d (omega (arith, from));
      received = map-set_same received_by lanes i now lane (ap received done.jobs ∙ ap received_by is) ∙ before.received;
      waiting = map-set_same waiting lanes i now lane (ap known_items done.jobs ∙ ap waiting is) ∙ before.waiting;
      late_room = map-set_same room_by lanes i now lane (done.late_room ∙ ap room_by is) ∙ before.late_room;
      sent = sent_set start lanes i lane now within before.same.0 is done.sent before.sent;
      same = same_more start lanes i lane now within is done.same before.same;
    }
