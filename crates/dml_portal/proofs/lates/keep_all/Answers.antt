use Rattle.std.proofs.Common.{◌<◌, ◌∙◌, length, refl, ap, subst, sym, arith}
use Rattle.std.proofs.Math.Seq.{map-set_same}
use Rattle.rtrb.specs.Ring.{known_items}
use Rattle.dml_portal.specs.Lanes.{IsPushed, waiting}
use Rattle.dml_portal.specs.Whole.{IsKept}
use Rattle.dml_portal.proofs.Lists.{below_set}
use Rattle.dml_portal.proofs.LaneLemmas.{pushed_more}
use Rattle.dml_portal.proofs.LookLemmas.{lanes_set, pushed_unused_one, unused_lanes_again}
use Rattle.dml_portal.proofs.lates.keep_all.Goals as goal

pub loop-client-init : goal.loop-client-init
loop-client-init c =
    record {
      kept = λ client lane below. absurd (omega (arith, below));
      pushed = c.requires.pushed;
      unused = unused_lanes_again c.args.lanes.now.items;
      waiting = refl;
    }

pub keep_rest-requires : goal.keep_rest-requires
keep_rest-requires c =
    let i = c.loop-client.client in
    let lanes = c.loop-client.lanes.items in
    let lane = c.index_mut.result.now in
    let before = c.loop-client.invariant in
    let within : i < length lanes = omega (arith, c.loop-client-test.true, c.len-client-end.ensures, c.args.lanes.now.ok.0, before.unused.0) in
    subst (IsPushed c.args.log.now i) (sym c.index_mut.ensures.value) (before.pushed i lane within)

pub loop-client-preserved : goal.loop-client-preserved
loop-client-preserved c =
    let before = c.loop-client.invariant in
    let i = c.loop-client.client in
    let log = c.args.log.now in
    let lanes = c.loop-client.lanes.items in
    let lane = c.index_mut.result.now in
    let now = c.keep_rest.new.lane in
    let is = c.index_mut.ensures.value in
    let unused = c.keep_rest.ensures.unused in
    let within : i < length lanes = omega (arith, c.loop-client-test.true, c.len-client-end.ensures, c.args.lanes.now.ok.0, before.unused.0) in
    let old : IsPushed log i lane = subst (IsPushed log i) (sym is) (before.pushed i lane within) in
    record {
      kept = below_set (IsKept log) lanes i now within c.in_ok-keep_rest.ensures.kept before.kept;
      pushed = pushed_more lanes i now log within (pushed_unused_one log i lane now unused old) before.pushed;
      unused = lanes_set c.args.lanes.now.items lanes i lane now within is unused before.unused;
      waiting = map-set_same waiting lanes i now lane (ap known_items c.keep_rest.ensures.jobs ∙ ap waiting is) ∙ before.waiting;
    }

pub returns-in_err-keep_rest-clause-unused : goal.returns-in_err-keep_rest-clause-unused
returns-in_err-keep_rest-clause-unused c =
    let i = c.loop-client.client in
    let lanes = c.loop-client.lanes.items in
    let within : i < length lanes = omega (arith, c.loop-client-test.true, c.len-client-end.ensures, c.args.lanes.now.ok.0, c.loop-client.invariant.unused.0) in
    lanes_set c.args.lanes.now.items lanes i c.index_mut.result.now c.keep_rest.new.lane within c.index_mut.ensures.value c.keep_rest.ensures.unused c.loop-client.invariant.unused

pub returns-in_err-keep_rest-clause-waiting : goal.returns-in_err-keep_rest-clause-waiting
returns-in_err-keep_rest-clause-waiting c =
    map-set_same waiting c.loop-client.lanes.items c.loop-client.client c.keep_rest.new.lane c.index_mut.result.now (ap known_items c.keep_rest.ensures.jobs ∙ ap waiting c.index_mut.ensures.value) ∙ c.loop-client.invariant.waiting
