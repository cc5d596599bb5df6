use Rattle.std.proofs.Common.{◌+◌, ◌≤◌, List, ℕ, length, ◌∙◌, ap₂, arith}
use Rattle.dml_scan.specs.Lanes.{first_difference}
use Rattle.dml_scan.proofs.LaneLemmas.{alike_more, lane_stops, lanes_alike, slices_alike, slices_differ}
use Rattle.dml_scan.proofs.lanes.first_difference_from.Goals as goal

pub loop-at-preserved : goal.loop-at-preserved
loop-at-preserved c = record {
  within = omega (arith, c.loop-at-test.true, c.loop-at.invariant.within);
  alike = alike_more c.args.a.now c.args.b.now c.loop-at.at 128 c.loop-at.invariant.alike (c.is_equal_step.ensures.0 c.if-is_equal_step.true);
}

pub returns-then-same-lt-LANES-clause-value : goal.returns-then-same-lt-LANES-clause-value
returns-then-same-lt-LANES-clause-value c =
    let inv = c.loop-at-2.invariant in
    let lane = c.first_lane-same.ensures.value ∙ ap₂ (λ (a b : List ℕ). first_difference a b) c.load.ensures c.load-in-loop-at-2.ensures in
    lane_stops c.args.a.now c.args.b.now c.loop-at-2.at 32 c.first_lane-same.result (omega (arith, c.loop-at-2-test.true, inv.within)) inv.alike lane c.if-same-lt-LANES.true

pub loop-at-2-preserved : goal.loop-at-2-preserved
loop-at-2-preserved c =
    let inv = c.loop-at-2.invariant in
    let lane = c.first_lane-same.ensures.value ∙ ap₂ (λ (a b : List ℕ). first_difference a b) c.load.ensures c.load-in-loop-at-2.ensures in
    let within : c.loop-at-2.at + 32 ≤ length c.args.a.now = omega (arith, c.loop-at-2-test.true, inv.within) in
    record {
      within = omega (arith, within, c.first_lane-same.ensures.within);
      alike = alike_more c.args.a.now c.args.b.now c.loop-at-2.at c.first_lane-same.result inv.alike (lanes_alike c.args.a.now c.args.b.now c.loop-at-2.at 32 c.first_lane-same.result within lane);
    }

pub returns-else-a-at-clause-value : goal.returns-else-a-at-clause-value
returns-else-a-at-clause-value c =
    slices_differ c.args.a.now c.args.b.now c.loop-at-3.at c.loop-at-3-test.true c.loop-at-3.invariant.alike c.if-a-at.false

pub returns-after-loop-at-3-clause-value : goal.returns-after-loop-at-3-clause-value
returns-after-loop-at-3-clause-value c =
    slices_alike c.args.a.now c.args.b.now c.loop-at-3.at (omega (arith, c.loop-at-3-test.false, c.loop-at-3.invariant.within)) c.loop-at-3.invariant.alike
