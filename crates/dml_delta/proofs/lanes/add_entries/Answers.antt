use Rattle.std.proofs.Common.{◌≡◌, ℕ, ◌+◌, ◌*◌, ◌/◌, ◌^◌, ◌<◌, ◌≤◌, ◌++◌, List, [], true, length, sym, ◌∙◌, ap, arith, append_assoc, append-nil}
use Rattle.std.specs.Int.{to_le_bytes, w16}
use Rattle.std.proofs.lemmas.List.{length-append}
use lib.Count.{count_trailing_zeros}
use Rattle.dml_delta.specs.Entries.{nth_entry, gathered, is_marked}
use Rattle.dml_delta.proofs.EntryLemmas.{gathered_none, length_entries_in}
use Rattle.dml_delta.proofs.LaneLemmas.{cleared, gathered_by_lowest, length_nth_entry, lowest, no_marks, still_marked}
use Rattle.dml_delta.proofs.lanes.add_entries.Goals as goal

first_inside : (marks m : ℕ) → 0 < marks → marks < 2 ^ 64 → ((i : ℕ) → is_marked marks i ≡ true → 8 * i + 8 ≤ m) → 8 * count_trailing_zeros 64 marks + 8 ≤ m
first_inside marks m some fit inside =
    inside (count_trailing_zeros 64 marks)
    (ap (is_marked marks) (omega arith) ∙ (lowest marks marks 0 some fit (λ i. ap (is_marked marks) (omega arith))).here)

pub overflow_cast-number : goal.overflow_cast-number
overflow_cast-number c =
    let inside = first_inside c.loop-marks.marks (length c.args.blocks.now) (omega arith) c.loop-marks.auto.marks-fits.fits c.loop-marks.invariant.inside in
    record { fits = omega (arith, inside, c.requires.numbers) }

pub block_at-requires : goal.block_at-requires
block_at-requires c = first_inside c.loop-marks.marks (length c.args.blocks.now) (omega arith) c.loop-marks.auto.marks-fits.fits c.loop-marks.invariant.inside

-- one entry at least is to come
one_more : (marks number : ℕ) (blocks here old more : List ℕ) → 0 < marks → marks < 2 ^ 64 → 8 * count_trailing_zeros 64 marks + 8 ≤ length blocks → length blocks ≤ 64 → here ++ gathered (nth_entry number blocks) (is_marked marks) 0 (length blocks / 8) ≡ old ++ more → length more ≤ 80 → length old + 80 ≤ 640 → length here + 10 ≤ 640
one_more marks number blocks here old more some fit inside few is short room =
    let z = count_trailing_zeros 64 marks in
    let rest = gathered (nth_entry number blocks) (is_marked (cleared marks z)) 0 (length blocks / 8) in
    let parts = gathered_by_lowest (nth_entry number blocks) marks (length blocks / 8) some fit (omega (arith, inside)) (omega (arith, few)) in
    let both : length (here ++ gathered (nth_entry number blocks) (is_marked marks) 0 (length blocks / 8)) ≡ length (old ++ more) = ap (λ (xs : List ℕ). length xs) is in
    let long : length (gathered (nth_entry number blocks) (is_marked marks) 0 (length blocks / 8)) ≡ length (nth_entry number blocks z ++ rest) = ap (λ (xs : List ℕ). length xs) parts in
    omega (arith, both, long, length-append here (gathered (nth_entry number blocks) (is_marked marks) 0 (length blocks / 8)), length-append old more, length-append (nth_entry number blocks z) rest, length_nth_entry number blocks z inside, short, room)

pub add-requires : goal.add-requires
add-requires c =
    let inside = first_inside c.loop-marks.marks (length c.args.blocks.now) (omega arith) c.loop-marks.auto.marks-fits.fits c.loop-marks.invariant.inside in
    let short = length_entries_in c.args.number c.args.blocks.now (is_marked c.args.marks) 0 (length c.args.blocks.now / 8) in
    record {
      fits =
          one_more c.loop-marks.marks c.args.number c.args.blocks.now c.loop-marks.entries c.args.entries.now _ (omega arith) c.loop-marks.auto.marks-fits.fits inside c.requires.few
          c.loop-marks.invariant.entries (omega (arith, short, c.requires.few)) c.requires.fits;
    }

pub loop-marks-preserved : goal.loop-marks-preserved
loop-marks-preserved c =
    let marks = c.loop-marks.marks in
    let blocks = c.args.blocks.now in
    let entry = nth_entry c.args.number blocks in
    let z = count_trailing_zeros 64 marks in
    let inside = first_inside marks (length blocks) (omega arith) c.loop-marks.auto.marks-fits.fits c.loop-marks.invariant.inside in
    let rest = gathered entry (is_marked (cleared marks z)) 0 (length blocks / 8) in
    record {
      inside = λ i set. c.loop-marks.invariant.inside i (still_marked marks _ i set);
      entries =
          ap (λ (xs : List ℕ). xs ++ rest) (c.add.ensures ∙ ap (λ (xs : List ℕ). c.loop-marks.entries ++ (to_le_bytes w16 (c.args.number + z) ++ xs)) c.block_at.ensures)
          ∙ (append_assoc c.loop-marks.entries (entry z) rest
          ∙ (ap (λ (xs : List ℕ). c.loop-marks.entries ++ xs)
          (sym (gathered_by_lowest entry marks (length blocks / 8) (omega arith) c.loop-marks.auto.marks-fits.fits (omega (arith, inside)) (omega (arith, c.requires.few))))
          ∙ c.loop-marks.invariant.entries));
    }

pub loop-marks-smaller : goal.loop-marks-smaller
loop-marks-smaller c =
    let marks = c.loop-marks.marks in
    let blocks = c.args.blocks.now in
    let entry = nth_entry c.args.number blocks in
    let z = count_trailing_zeros 64 marks in
    let inside = first_inside marks (length blocks) (omega arith) c.loop-marks.auto.marks-fits.fits c.loop-marks.invariant.inside in
    let rest = gathered entry (is_marked (cleared marks z)) 0 (length blocks / 8) in
    let parts : length (gathered entry (is_marked marks) 0 (length blocks / 8)) ≡ length (entry z ++ rest) =
    ap (λ (xs : List ℕ). length xs) (gathered_by_lowest entry marks (length blocks / 8) (omega arith) c.loop-marks.auto.marks-fits.fits (omega (arith, inside)) (omega (arith, c.requires.few))) in
    omega (arith, parts, length-append (entry z) rest, length_nth_entry c.args.number blocks z inside)

pub returns : goal.returns
returns c =
    let entry = nth_entry c.args.number c.args.blocks.now in
    let n = length c.args.blocks.now / 8 in
    let none : gathered entry (is_marked c.loop-marks.marks) 0 n ≡ [] =
    gathered_none entry (is_marked c.loop-marks.marks) 0 n (λ i below. ap (λ (m : ℕ). is_marked m (0 + i)) (omega arith) ∙ no_marks (0 + i)) in
    sym (ap (λ (xs : List ℕ). c.loop-marks.entries ++ xs) none ∙ append-nil c.loop-marks.entries) ∙ c.loop-marks.invariant.entries
