use Rattle.std.proofs.Common.{◌≡◌, ◌-◌, ◌∙◌, List, ℕ, ap, length, take, drop, arith}
use Rattle.std.proofs.lemmas.List.{length-drop, take_all}
use Rattle.dml_scan.specs.Lanes.{first_unlike}
use Rattle.dml_scan.proofs.LaneLemmas.{pattern_repeats, repeats_more, unlike_in_rest}
use Rattle.dml_scan.proofs.lanes.first_unlike_long.Goals as goal

pub loop-at-preserved : goal.loop-at-preserved
loop-at-preserved c =
    let inv = c.loop-at.invariant in
    record {
      within = omega (arith, c.loop-at-test.true, inv.within);
      whole = omega (arith, inv.whole);
      repeats = repeats_more c.args.bytes.now c.repeated_from-repeated.result c.args.pattern c.args.from c.loop-at.at 512 inv.whole c.repeated_from-repeated.ensures inv.repeats (c.is_repeated_block.ensures.0 c.if-is_repeated_block.true);
    }

pub returns-then-at-bytes-clause-value : goal.returns-then-at-bytes-clause-value
returns-then-at-bytes-clause-value c =
    pattern_repeats c.args.bytes.now c.args.pattern c.args.from c.loop-at.at (omega (arith, c.if-at-bytes.true)) c.loop-at.invariant.repeats

pub returns-clause-value : goal.returns-clause-value
returns-clause-value c =
    let at = c.loop-at.at in
    let xs = c.args.bytes.now in
    let rest : take (length xs - at) (drop at xs) ≡ drop at xs = take_all (length xs - at) (drop at xs) (omega (arith, length-drop at xs)) in
    unlike_in_rest xs c.args.pattern c.args.from at c.unlike_behind_blocks.result (omega (arith, c.loop-at.invariant.whole)) c.loop-at.invariant.within c.loop-at.invariant.repeats
    (c.unlike_behind_blocks.ensures.value ∙ ap (λ (ys : List ℕ). first_unlike ys c.args.pattern c.args.from) rest)
