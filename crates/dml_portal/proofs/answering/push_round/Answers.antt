use Rattle.std.proofs.Common.{◌<◌, ◌∙◌, drop, length, ap, arith}
use Rattle.std.proofs.Math.Seq.{map-set_same}
use Rattle.rtrb.specs.Ring.{known_items, received}
use Rattle.dml_portal.specs.Lanes.{waiting}
use Rattle.dml_portal.proofs.BlockLemmas.{blocks_set}
use Rattle.dml_portal.proofs.LaneLemmas.{popped_still, pushed_more, same_more}
use Rattle.dml_portal.proofs.answering.push_round.Goals as goal

pub loop-client-preserved : goal.loop-client-preserved
loop-client-preserved c =
    let before = c.loop-client.invariant in
    let i = c.loop-client.client in
    let log = c.args.log.now in
    let lanes = c.loop-client.lanes.items in
    let lane = c.index_mut.result.now in
    let now = c.push_block.new.lane in
    let done = c.push_block.ensures in
    let is = c.index_mut.ensures.value in
    let within : i < length lanes = omega (arith, c.loop-client-test.true, c.len-client-end.ensures, c.args.lanes.now.ok.0, before.4.0) in (
      popped_still lanes i lane now log within is (ap received done.jobs) before.0,
      pushed_more lanes i now log within done.pushed before.1,
      blocks_set lanes (drop c.args.start log) i now within done.block before.2,
      map-set_same waiting lanes i now lane (ap known_items done.jobs ∙ ap waiting is) ∙ before.3,
      same_more c.args.lanes.now.items lanes i lane now within is done.same before.4,
    )
