use Rattle.std.proofs.Common.{◌≡◌, ℕ, ◌+◌, ◌-◌, ◌*◌, ◌/◌, ◌++◌, List, length, take, drop, sym, ◌∙◌, ap, arith, zero-add}
use Rattle.std.proofs.lemmas.List.{length-take, length-drop}
use Rattle.dml_delta.specs.Entries.{nth_differs, nth_entry, gathered, is_marked}
use Rattle.dml_delta.proofs.EntryLemmas.{gathered_split, length_entries_in}
use Rattle.dml_delta.proofs.LaneLemmas.{part_entries}
use Rattle.dml_delta.proofs.lanes.add_blocks.Goals as goal

pub add_some-requires-clause-fits : goal.add_some-requires-clause-fits
add_some-requires-clause-fits c =
    let short = length_entries_in c.args.number c.args.other.now (nth_differs c.args.one.now c.args.other.now) 0 (8 * c.loop-k.k) in
    omega (arith, ap (λ (xs : List ℕ). length xs) c.loop-k.invariant.bytes, short, c.requires.few, c.loop-k-test.true)

pub add_some-requires-then-at-one-clause-fits : goal.add_some-requires-then-at-one-clause-fits
add_some-requires-then-at-one-clause-fits c =
    let short = length_entries_in c.args.number c.args.other.now (nth_differs c.args.one.now c.args.other.now) 0 (8 * c.loop-k.k) in
    omega (arith, ap (λ (xs : List ℕ). length xs) c.loop-k.invariant.bytes, short, c.requires.few, c.requires.whole, c.loop-k.auto.k-end, c.if-at-one.true)

pub loop-k-preserved : goal.loop-k-preserved
loop-k-preserved c =
    let one = c.args.one.now in
    let other = c.args.other.now in
    let entry = nth_entry c.args.number other in
    let differs = nth_differs one other in
    let k = c.loop-k.k in
    let place = 64 * k in
    let count = place + 64 - place in
    let part = take count (drop place other) in
    let marks = c.marks_of_group-marks.result in
    let eight : length part / 8 ≡ 8 = omega (arith, length-take count (drop place other), length-drop place other, c.requires.lengths, c.loop-k-test.true) in
    let next : 8 * (k + 1) ≡ 8 * k + 8 = omega arith in
    let more : gathered (nth_entry (c.args.number + 8 * k) part) (is_marked marks) 0 (length part / 8) ≡ gathered entry differs (8 * k) 8 =
    ap (gathered (nth_entry (c.args.number + 8 * k) part) (is_marked marks) 0) eight
    ∙ part_entries one other marks c.args.number place (8 * k) count count 8 (omega arith) (omega arith) (omega arith) c.marks_of_group-marks.ensures in
    let both : gathered entry differs 0 (8 * (k + 1)) ≡ gathered entry differs 0 (8 * k) ++ gathered entry differs (8 * k) 8 =
    ap (gathered entry differs 0) next
    ∙ (gathered_split entry differs 0 (8 * k) 8 ∙ ap (λ (a : ℕ). gathered entry differs 0 (8 * k) ++ gathered entry differs a 8) (zero-add (8 * k))) in
    record {
      bytes =
          c.add_some.ensures
          ∙ (ap (λ (xs : List ℕ). c.loop-k.entries ++ xs) more
          ∙ (ap (λ (xs : List ℕ). xs ++ gathered entry differs (8 * k) 8) c.loop-k.invariant.bytes ∙ sym both));
    }

-- all groups, and what is behind them
pub returns-then-at-one : goal.returns-then-at-one
returns-then-at-one c =
    let one = c.args.one.now in
    let other = c.args.other.now in
    let entry = nth_entry c.args.number other in
    let differs = nth_differs one other in
    let groups = length one / 64 in
    let place = 64 * groups in
    let rest = take (length other - place) (drop place other) in
    let marks = c.marks_of_rest-marks.result in
    let same : c.loop-k.k ≡ groups = omega (arith, c.loop-k-test.false, c.loop-k.auto.k-end) in
    let n = length rest / 8 in
    let all : length one / 8 ≡ 8 * groups + n = omega (arith, length-take (length other - place) (drop place other), length-drop place other, c.requires.lengths, c.requires.whole) in
    let more = part_entries one other marks c.args.number place (8 * groups) (length one - place) (length other - place) n (omega arith) (omega (arith, all, c.requires.whole)) (omega (arith, all, c.requires.lengths, c.requires.whole)) c.marks_of_rest-marks.ensures in
    let both : gathered entry differs 0 (length one / 8) ≡ gathered entry differs 0 (8 * groups) ++ gathered entry differs (8 * groups) n =
    ap (gathered entry differs 0) all
    ∙ (gathered_split entry differs 0 (8 * groups) n ∙ ap (λ (a : ℕ). gathered entry differs 0 (8 * groups) ++ gathered entry differs a n) (zero-add (8 * groups))) in
    c.add_some-then-at-one.ensures
    ∙ (ap (λ (xs : List ℕ). c.loop-k.entries ++ xs) more
    ∙ (ap (λ (xs : List ℕ). xs ++ gathered entry differs (8 * groups) n) (c.loop-k.invariant.bytes ∙ ap (λ (k : ℕ). gathered entry differs 0 (8 * k)) same)
    ∙ sym both))

pub returns-else-at-one : goal.returns-else-at-one
returns-else-at-one c =
    let all : 8 * c.loop-k.k ≡ length c.args.one.now / 8 = omega (arith, c.loop-k-test.false, c.loop-k.auto.k-end, c.if-at-one.false) in
    c.loop-k.invariant.bytes ∙ ap (gathered (nth_entry c.args.number c.args.other.now) (nth_differs c.args.one.now c.args.other.now) 0) all
