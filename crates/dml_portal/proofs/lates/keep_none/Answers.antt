use Rattle.std.proofs.Common.{◌<◌, ◌∙◌, length, refl, ap, arith}
use Rattle.std.proofs.Math.Seq.{map-set_same}
use Rattle.dml_portal.specs.Lanes.{waiting}
use Rattle.dml_portal.proofs.LookLemmas.{lanes_set, same_lane_again, unused_lanes_again}
use Rattle.dml_portal.proofs.lates.keep_none.Goals as goal

pub loop-client-init : goal.loop-client-init
loop-client-init c = record { waiting = refl; unused = unused_lanes_again c.args.lanes.now.items }

pub loop-client-preserved : goal.loop-client-preserved
loop-client-preserved c =
    let before = c.loop-client.invariant in
    let i = c.loop-client.client in
    let lanes = c.loop-client.lanes.items in
    let lane = c.index_mut.result.now in
    let is = c.index_mut.ensures.value in
    let within : i < length lanes = omega (arith, c.loop-client-test.true, c.len-client-end.ensures, c.args.lanes.now.ok.0, before.unused.0) in
    record {
      waiting = map-set_same waiting lanes i _ lane (ap waiting is) ∙ before.waiting;
      unused = lanes_set c.args.lanes.now.items lanes i lane _ within is (same_lane_again lane, refl, refl, refl) before.unused;
    }
