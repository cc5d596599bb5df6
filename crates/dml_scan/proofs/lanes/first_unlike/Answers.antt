use Rattle.std.proofs.Common.{◌≡◌, ◌+◌, ◌≤◌, List, ℕ, length, sym, ◌∙◌, ap, arith}
use Rattle.dml_scan.specs.Lanes.{first_difference}
use Rattle.dml_scan.proofs.LaneLemmas.{block_byte, lane_unlike, lanes_repeat, pattern_differs, pattern_repeats, repeats_more}
use Rattle.dml_scan.proofs.lanes.first_unlike.Goals as goal

pub loop-at-preserved : goal.loop-at-preserved
loop-at-preserved c =
    let inv = c.loop-at.invariant in
    record {
      within = omega (arith, c.loop-at-test.true, inv.within);
      whole = omega (arith, inv.whole);
      repeats = repeats_more c.args.bytes.now c.repeated_from-repeated.result c.args.pattern c.args.from c.loop-at.at 128 inv.whole c.repeated_from-repeated.ensures inv.repeats (c.is_repeated_step.ensures.0 c.if-is_repeated_step.true);
    }

pub returns-then-same-lt-LANES-clause-value : goal.returns-then-same-lt-LANES-clause-value
returns-then-same-lt-LANES-clause-value c =
    let inv = c.loop-at-2.invariant in
    let block = c.repeated_from-repeated.result in
    let lane = c.first_lane-same.ensures.value ∙ ap (λ (a : List ℕ). first_difference a block) c.load.ensures in
    lane_unlike c.args.bytes.now block c.args.pattern c.args.from c.loop-at-2.at c.first_lane-same.result inv.whole (omega (arith, c.loop-at-2-test.true, inv.within)) c.repeated_from-repeated.ensures inv.repeats lane c.if-same-lt-LANES.true

pub loop-at-2-preserved : goal.loop-at-2-preserved
loop-at-2-preserved c =
    let inv = c.loop-at-2.invariant in
    let block = c.repeated_from-repeated.result in
    let same = c.first_lane-same.result in
    let lane = c.first_lane-same.ensures.value ∙ ap (λ (a : List ℕ). first_difference a block) c.load.ensures in
    let within : c.loop-at-2.at + 32 ≤ length c.args.bytes.now = omega (arith, c.loop-at-2-test.true, inv.within) in
    let all : same ≡ 32 = omega (arith, c.if-same-lt-LANES.false, c.first_lane-same.ensures.within) in
    record {
      within = omega (arith, within, all);
      whole = omega (arith, inv.whole, all);
      repeats = repeats_more c.args.bytes.now block c.args.pattern c.args.from c.loop-at-2.at same inv.whole c.repeated_from-repeated.ensures inv.repeats (lanes_repeat c.args.bytes.now block c.loop-at-2.at same within lane);
    }

pub returns-else-bytes-at-clause-value : goal.returns-else-bytes-at-clause-value
returns-else-bytes-at-clause-value c =
    pattern_differs c.args.bytes.now c.args.pattern c.args.from c.loop-at-3.at c.loop-at-3-test.true c.loop-at-3.invariant.repeats (λ same.
    c.if-bytes-at.false (same ∙ sym (block_byte c.repeated_from-repeated.result c.args.pattern c.args.from c.loop-at-3.at c.repeated_from-repeated.ensures)))

pub returns-after-loop-at-3-clause-value : goal.returns-after-loop-at-3-clause-value
returns-after-loop-at-3-clause-value c =
    pattern_repeats c.args.bytes.now c.args.pattern c.args.from c.loop-at-3.at (omega (arith, c.loop-at-3-test.false, c.loop-at-3.invariant.within)) c.loop-at-3.invariant.repeats
