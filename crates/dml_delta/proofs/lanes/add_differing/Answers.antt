use Rattle.std.proofs.Common.{◌≡◌, ℕ, ◌+◌, ◌-◌, ◌*◌, ◌/◌, ◌++◌, List, length, take, drop, sym, ◌∙◌, ap, arith, zero-add, append_assoc}
use Rattle.std.specs.Prelude.{bit_xor}
use Rattle.std.proofs.lemmas.List.{length-append, length-take, length-drop}
use Rattle.dml_delta.specs.Entries.{nth_differs, nth_entry, gathered, is_marked}
use Rattle.dml_delta.proofs.EntryLemmas.{gathered_split, length_entries_in}
use Rattle.dml_delta.proofs.LaneLemmas.{part_entries}
use Rattle.dml_delta.proofs.lanes.add_differing.Goals as goal

-- what is gathered so far fits into the room
fits_so_far : (old before gathered_here here entries : List ℕ) → here ++ entries ≡ (old ++ before) ++ gathered_here → length here + length entries ≡ length old + length before + length gathered_here
fits_so_far old before gathered_here here entries is =
    omega (arith, ap (λ (xs : List ℕ). length xs) is, length-append here entries, length-append (old ++ before) gathered_here, length-append old before)

pub add_unlike-requires-clause-fits : goal.add_unlike-requires-clause-fits
add_unlike-requires-clause-fits c =
    let entry = nth_entry c.args.number c.args.other.now in
    let differs = nth_differs c.args.one.now c.args.other.now in
    let long = fits_so_far c.args.room.now.bytes c.args.entries.now (gathered entry differs 0 (8 * c.loop-k.k)) c.loop-k.room.bytes c.loop-k.entries c.loop-k.invariant.bytes in
    let short = length_entries_in c.args.number c.args.other.now differs 0 (8 * c.loop-k.k) in
    omega (arith, long, short, c.requires.fits, c.loop-k.invariant.room, c.loop-k-test.true)

pub add_marked-requires-clause-fits : goal.add_marked-requires-clause-fits
add_marked-requires-clause-fits c =
    let entry = nth_entry c.args.number c.args.other.now in
    let differs = nth_differs c.args.one.now c.args.other.now in
    let long = fits_so_far c.args.room.now.bytes c.args.entries.now (gathered entry differs 0 (8 * c.loop-k.k)) c.loop-k.room.bytes c.loop-k.entries c.loop-k.invariant.bytes in
    let short = length_entries_in c.args.number c.args.other.now differs 0 (8 * c.loop-k.k) in
    omega (arith, long, short, c.requires.fits, c.loop-k.invariant.room, c.loop-k.auto.k-end)

pub loop-k-preserved : goal.loop-k-preserved
loop-k-preserved c =
    let one = c.args.one.now in
    let other = c.args.other.now in
    let entry = nth_entry c.args.number other in
    let differs = nth_differs one other in
    let old = c.args.room.now.bytes ++ c.args.entries.now in
    let here = c.loop-k.room.bytes ++ c.loop-k.entries in
    let k = c.loop-k.k in
    let place = 64 * k in
    let count = place + 64 - place in
    let part = take count (drop place other) in
    let marks = bit_xor 255 c.alike_in_group-alike.result in
    let eight : length part / 8 ≡ 8 = omega (arith, length-take count (drop place other), length-drop place other, c.requires.lengths, c.loop-k-test.true) in
    let next : 8 * (k + 1) ≡ 8 * k + 8 = omega arith in
    let more : gathered (nth_entry (c.args.number + 8 * k) part) (is_marked marks) 0 (length part / 8) ≡ gathered entry differs (8 * k) 8 =
    ap (gathered (nth_entry (c.args.number + 8 * k) part) (is_marked marks) 0) eight
    ∙ part_entries one other marks c.args.number place (8 * k) count count 8 (omega arith) (omega arith) (omega arith) c.alike_in_group-alike.ensures in
    let both : gathered entry differs 0 (8 * (k + 1)) ≡ gathered entry differs 0 (8 * k) ++ gathered entry differs (8 * k) 8 =
    ap (gathered entry differs 0) next
    ∙ (gathered_split entry differs 0 (8 * k) 8 ∙ ap (λ (a : ℕ). gathered entry differs 0 (8 * k) ++ gathered entry differs a 8) (zero-add (8 * k))) in
    record {
      opening = c.add_unlike.ensures.place.opening ∙ c.loop-k.invariant.opening;
      start = c.add_unlike.ensures.place.start ∙ c.loop-k.invariant.start;
      room = c.add_unlike.ensures.place.room ∙ c.loop-k.invariant.room;
      bytes =
          c.add_unlike.ensures.bytes
          ∙ (ap (λ (xs : List ℕ). here ++ xs) more
          ∙ (ap (λ (xs : List ℕ). xs ++ gathered entry differs (8 * k) 8) c.loop-k.invariant.bytes
          ∙ (append_assoc old (gathered entry differs 0 (8 * k)) (gathered entry differs (8 * k) 8)
          ∙ ap (λ (xs : List ℕ). old ++ xs) (sym both))));
    }

pub returns-clause-bytes : goal.returns-clause-bytes
returns-clause-bytes c =
    let one = c.args.one.now in
    let other = c.args.other.now in
    let entry = nth_entry c.args.number other in
    let differs = nth_differs one other in
    let old = c.args.room.now.bytes ++ c.args.entries.now in
    let here = c.loop-k.room.bytes ++ c.loop-k.entries in
    let groups = length one / 64 in
    let place = 64 * groups in
    let rest = take (length other - place) (drop place other) in
    let marks = c.marks_of_rest-marks.result in
    let same : c.loop-k.k ≡ groups = omega (arith, c.loop-k-test.false, c.loop-k.auto.k-end) in
    let n = length rest / 8 in
    let all : length one / 8 ≡ 8 * groups + n = omega (arith, length-take (length other - place) (drop place other), length-drop place other, c.requires.lengths, c.requires.whole) in
    let more = part_entries one other marks c.args.number place (8 * groups) (length one - place) (length other - place) n (omega arith) (omega (arith, all, c.requires.whole)) (omega (arith, all, c.requires.lengths, c.requires.whole)) c.marks_of_rest-marks.ensures in
    let both : gathered entry differs 0 (length one / 8) ≡ gathered entry differs 0 (8 * groups) ++ gathered entry differs (8 * groups) n =
    ap (gathered entry differs 0) all
    ∙ (gathered_split entry differs 0 (8 * groups) n ∙ ap (λ (a : ℕ). gathered entry differs 0 (8 * groups) ++ gathered entry differs a n) (zero-add (8 * groups))) in
    c.add_marked.ensures.bytes
    ∙ (ap (λ (xs : List ℕ). here ++ xs) more
    ∙ (ap (λ (xs : List ℕ). xs ++ gathered entry differs (8 * groups) n) (c.loop-k.invariant.bytes ∙ ap (λ (k : ℕ). old ++ gathered entry differs 0 (8 * k)) same)
    ∙ (append_assoc old (gathered entry differs 0 (8 * groups)) (gathered entry differs (8 * groups) n)
    ∙ ap (λ (xs : List ℕ). old ++ xs) (sym both))))
