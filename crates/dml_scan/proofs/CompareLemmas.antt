-- Where the scan of a chunk of a compare ends, by the parts of pages that it reads.
use Rattle.std.specs.Prelude.{◌==◌, slice_index_or, slice_range}
use Rattle.std.proofs.Common.{◌≡◌, ℕ, ◌+◌, ◌-◌, ◌/◌, ◌%◌, ◌<◌, ◌≤◌, min, true, false, not, ◌&&◌, List, [], length, get_or, take, drop, cond, refl, sym, ◌∙◌, ap, ap₂, subst, arith, rules, ⊎_elim}
use Rattle.std.proofs.lemmas.Bool.{cases_lt, eq-eqb}
use Rattle.std.proofs.lemmas.List.{places, get_or-take, length-drop, length-take, take_all}
use Rattle.dml_types.specs.declared.findings.Found.TheVariants.{All, Differs, Fault as Faults}
use Rattle.dml_types.specs.declared.jobs.Job.{Job}
use Rattle.dml_types.specs.declared.operations.Direction.TheVariants.{Forward}
use Rattle.dml_types.specs.declared.operations.Op.{Op}
use Rattle.dml_types.specs.declared.operations.Op.TheVariants.{Compare, ComparePattern}
use Rattle.dml_types.specs.Memory.{first, Memory, has, byte_at, bytes_at, worked_offset}
use Rattle.dml_types.specs.Effect.{first_fault, is_clear, read_fault}
use Rattle.dml_types.specs.Bytewise.{operation_direction, faults_at, passes, pattern_byte}
use Rattle.dml_types.specs.Chunk.{scan_done, scan_found, scan_offset}
use Rattle.dml_types.proofs.FirstLemmas.{first_le, first_is}
use Rattle.dml_types.proofs.MemoryLemmas.{has_all_from}
use Rattle.dml_buffers.specs.Holds.{Holds}
use Rattle.dml_image.specs.Present.{IsPartOfPage}
use Rattle.dml_scan.specs.Parts.{IsPartWithin}
use Rattle.dml_buffers.proofs.HoldsLemmas.{held_byte, held_present, held_sub}
use Rattle.dml_scan.specs.Lanes.{first_difference, first_unlike}
use Rattle.dml_scan.proofs.LaneLemmas.{unequal, equal_before, unequal_here}
use Rattle.dml_scan.proofs.ReachLemmas.{found_all, found_differs, found_fault, one_fault, two_faults}

-- parts, byte by byte
pub part_byte : (memory : Memory) (address : ℕ) (bytes : List ℕ) → Holds memory address bytes → (i : ℕ) → i < length bytes → get_or bytes i 0 ≡ byte_at memory (address + i)
part_byte memory address bytes part i below = sym (held_byte memory address bytes i part below)

pub part_none : (memory : Memory) (address : ℕ) → Holds memory address []
part_none memory address = record { present = has_all_from memory address 0 (λ i h. absurd (omega arith)); content = search (rules, places) }

-- the rest of a page from a present byte on
pub part_of_page : (memory : Memory) (address len : ℕ) (bytes : List ℕ) → has memory address ≡ true → 0 < len → bytes ≡ bytes_at memory address (length bytes) → length bytes ≡ min len (4096 - address % 4096) → IsPartWithin memory address len bytes
part_of_page memory address len bytes here some is long = record {
  part = record {
    present = has_all_from memory address (length bytes) (λ i h.
        let page : (address + i) / 4096 ≡ address / 4096 = omega (arith, long) in
        ap (λ n. slice_index_or memory.present n false) page ∙ here);
    content = sym is;
  };
  some = omega (arith, long);
  within = omega (arith, long);
}

pub part_shown : (memory : Memory) (address len : ℕ) (bytes : List ℕ) → 0 < len → IsPartOfPage memory address len bytes → IsPartWithin memory address len bytes
part_shown memory address len bytes some shown = part_of_page memory address len bytes shown.present some shown.content shown.size

-- the rest of a part
pub part_drop : (memory : Memory) (address n : ℕ) (bytes : List ℕ) → n ≤ length bytes → Holds memory address bytes → Holds memory (address + n) (drop n bytes)
part_drop memory address n bytes within part =
    let left = length bytes - n in
    subst (Holds memory (address + n)) (rest n bytes left refl) (held_sub memory address bytes n left part (omega arith))
  where
    rest : (n : ℕ) (bytes : List ℕ) (k : ℕ) → k ≡ length bytes - n → slice_range bytes n (n + k) ≡ drop n bytes
    rest n bytes k is =
        let left : n + k - n ≡ k = omega arith in
        ap (λ j. take j (drop n bytes)) left ∙ take_all k (drop n bytes) (omega (arith, is, length-drop n bytes))

-- what a slice of the rest of a part is, by the place that it begins at
pub part_next : (memory : Memory) (base at n same : ℕ) (bytes : List ℕ) → Holds memory (base + at) bytes → n ≤ length bytes → same ≡ n → Holds memory (base + (at + same)) (take (length bytes - n) (drop n bytes))
part_next memory base at n same bytes part within is =
    let place : base + at + n ≡ base + (at + same) = omega (arith, is) in
    let whole : drop n bytes ≡ take (length bytes - n) (drop n bytes) = sym (take_all (length bytes - n) (drop n bytes) (omega (arith, length-drop n bytes))) in
    subst (Holds memory (base + (at + same))) whole
    (subst (λ address. Holds memory address (drop n bytes)) place (part_drop memory (base + at) n bytes within part))

pub next_within : (to at n same : ℕ) (bytes : List ℕ) → length bytes ≤ to - at → n ≤ length bytes → same ≡ n → length (take (length bytes - n) (drop n bytes)) ≤ to - (at + same)
next_within to at n same bytes within some is =
    omega (arith, length-take (length bytes - n) (drop n bytes), length-drop n bytes, is)

-- the offsets of a chunk below a place pass
abbrev pub Passed : Op → Memory → Job → ℕ → ℕ → Type 0
Passed op memory job from at = (i : ℕ) → from ≤ i → i < at → passes op memory job i ≡ true

pub passed_none : (op : Op) (memory : Memory) (job : Job) (from : ℕ) → Passed op memory job from from
passed_none op memory job from i low high = absurd (omega arith)

pub passed_more : (op : Op) (memory : Memory) (job : Job) (from at n : ℕ) → Passed op memory job from at → ((i : ℕ) → i < n → passes op memory job (at + i) ≡ true) → Passed op memory job from (at + n)
passed_more op memory job from at n before more i low high =
    ⊎_elim (λ below. before i low below) (λ above.
    let place : at + (i - at) ≡ i = omega arith in
    ap (passes op memory job) (sym place) ∙ more (i - at) (omega arith))
    (cases_lt i at)

-- a scan upwards ends at the first place that does not pass
pub done_upwards : (op : Op) (memory : Memory) (job : Job) (from to at : ℕ) → operation_direction op job ≡ Forward → from ≤ at → at ≤ to → Passed op memory job from at → (at < to → passes op memory job at ≡ false) → scan_done op memory job from to ≡ at - from
done_upwards op memory job from to at forward order within passed stops =
    first_is (to - from) (λ i. not (passes op memory job (scan_offset op job from to i))) (at - from) (omega arith)
    (λ i below. ap not (ap (passes op memory job) (place i) ∙ passed (from + i) (omega arith) (omega arith)))
    (λ below.
    let here : from + (at - from) ≡ at = omega arith in
    ap not (ap (passes op memory job) (place (at - from) ∙ here) ∙ stops (omega arith)))
  where
    place : (i : ℕ) → scan_offset op job from to i ≡ from + i
    place i = ap (λ d. from + worked_offset d (to - from) i) forward

-- Compares of two ranges.
pub compare_done : (memory : Memory) (job : Job) (from to at : ℕ) → from ≤ at → at ≤ to → Passed Compare memory job from at → (at < to → passes Compare memory job at ≡ false) → scan_done Compare memory job from to ≡ at - from
compare_done memory job from to at order within passed stops = done_upwards Compare memory job from to at refl order within passed stops

pub compare_all : (memory : Memory) (job : Job) (from to at : ℕ) → from ≤ at → at ≤ to → to ≤ at → Passed Compare memory job from at → All ≡ scan_found Compare memory job from to
compare_all memory job from to at order within over passed =
    found_all Compare memory job from to (compare_done memory job from to at order within passed (λ below. absurd (omega arith)) ∙ omega arith)

-- the first range's byte is absent
pub compare_reads : (memory : Memory) (job : Job) (from to at : ℕ) → from ≤ at → at < to → Passed Compare memory job from at → has memory (job.source + at) ≡ false → Faults (at - from) (job.source + at) false ≡ scan_found Compare memory job from to
compare_reads memory job from to at order below passed gone =
    let clear : (has memory (job.source + at) && (has memory (job.target + at) && true)) ≡ false = ap (λ b. b && (has memory (job.target + at) && true)) gone in
    let here : from + (at - from) ≡ at = omega arith in
    let done = compare_done memory job from to at order (omega arith) passed (λ _. ap (λ b. b && (byte_at memory (job.source + at) == byte_at memory (job.target + at))) clear) in
    found_fault Compare memory job from to (at - from) (read_fault (job.source + at)) done (omega arith)
    (ap (λ k. is_clear memory (faults_at Compare job k)) here ∙ clear)
    (ap (λ k. first_fault memory (faults_at Compare job k)) here
    ∙ (two_faults memory (read_fault (job.source + at)) (read_fault (job.target + at)) clear ∙ ap (λ b. cond b (read_fault (job.target + at)) (read_fault (job.source + at))) gone))

-- the second range's is
pub compare_reads_second : (memory : Memory) (job : Job) (from to at : ℕ) → from ≤ at → at < to → Passed Compare memory job from at → has memory (job.source + at) ≡ true → has memory (job.target + at) ≡ false → Faults (at - from) (job.target + at) false ≡ scan_found Compare memory job from to
compare_reads_second memory job from to at order below passed there gone =
    let clear : (has memory (job.source + at) && (has memory (job.target + at) && true)) ≡ false = ap₂ (λ a b. a && (b && true)) there gone in
    let here : from + (at - from) ≡ at = omega arith in
    let done = compare_done memory job from to at order (omega arith) passed (λ _. ap (λ b. b && (byte_at memory (job.source + at) == byte_at memory (job.target + at))) clear) in
    found_fault Compare memory job from to (at - from) (read_fault (job.target + at)) done (omega arith)
    (ap (λ k. is_clear memory (faults_at Compare job k)) here ∙ clear)
    (ap (λ k. first_fault memory (faults_at Compare job k)) here
    ∙ (two_faults memory (read_fault (job.source + at)) (read_fault (job.target + at)) clear ∙ ap (λ b. cond b (read_fault (job.target + at)) (read_fault (job.source + at))) there))

-- both are there, and differ
pub compare_differs : (memory : Memory) (job : Job) (from to at : ℕ) → from ≤ at → at < to → Passed Compare memory job from at → has memory (job.source + at) ≡ true → has memory (job.target + at) ≡ true → (byte_at memory (job.source + at) == byte_at memory (job.target + at)) ≡ false → Differs (at - from) ≡ scan_found Compare memory job from to
compare_differs memory job from to at order below passed one other unlike =
    let clear : (has memory (job.source + at) && (has memory (job.target + at) && true)) ≡ true = ap₂ (λ a b. a && (b && true)) one other in
    let here : from + (at - from) ≡ at = omega arith in
    let done = compare_done memory job from to at order (omega arith) passed (λ _. ap₂ (λ a b. a && b) clear unlike) in
    found_differs Compare memory job from to (at - from) done (omega arith) (ap (λ k. is_clear memory (faults_at Compare job k)) here ∙ clear)

-- a byte is absent, by the addresses of both
pub first_absent : (memory : Memory) (job : Job) (from to at place : ℕ) → from ≤ at → at < to → Passed Compare memory job from at → place ≡ job.source + at → has memory place ≡ false → Faults (at - from) place false ≡ scan_found Compare memory job from to
first_absent memory job from to at place order below passed is gone =
    ap (λ a. Faults (at - from) a false) is ∙ compare_reads memory job from to at order below passed (ap (has memory) (sym is) ∙ gone)

pub second_absent : (memory : Memory) (job : Job) (from to at source place n : ℕ) (bytes : List ℕ) → from ≤ at → at < to → Passed Compare memory job from at → source ≡ job.source + at → IsPartWithin memory source n bytes → place ≡ job.target + at → has memory place ≡ false → Faults (at - from) place false ≡ scan_found Compare memory job from to
second_absent memory job from to at source place n bytes order below passed at_source part is gone =
    let here : source + 0 ≡ source = omega arith in
    ap (λ a. Faults (at - from) a false) is
    ∙ compare_reads_second memory job from to at order below passed
    (ap (has memory) (sym at_source ∙ sym here) ∙ held_present memory source bytes 0 part.part part.some)
    (ap (has memory) (sym is) ∙ gone)

-- the places of two parts that are alike pass, and the next one does not
pub compare_passes : (memory : Memory) (job : Job) (at n : ℕ) (left right : List ℕ) → Holds memory (job.source + at) left → Holds memory (job.target + at) right → n ≤ length left → n ≤ length right → (i : ℕ) → i < first_difference (take n left) (take n right) → passes Compare memory job (at + i) ≡ true
compare_passes memory job at n left right one other within_left within_right i below =
    let short : i < n = omega (arith, first_le (length (take n left)) (unequal (λ j. get_or (take n left) j 0) (λ j. get_or (take n right) j 0)), length-take n left) in
    let source : job.source + at + i ≡ job.source + (at + i) = omega arith in
    let target : job.target + at + i ≡ job.target + (at + i) = omega arith in
    let same : get_or (take n left) i 0 ≡ get_or (take n right) i 0 = equal_before (length (take n left)) (λ j. get_or (take n left) j 0) (λ j. get_or (take n right) j 0) i below in
    let source_byte : get_or (take n left) i 0 ≡ byte_at memory (job.source + (at + i)) = get_or-take n left i 0 short ∙ (part_byte memory (job.source + at) left one i (omega arith) ∙ ap (byte_at memory) source) in
    let target_byte : get_or (take n right) i 0 ≡ byte_at memory (job.target + (at + i)) = get_or-take n right i 0 short ∙ (part_byte memory (job.target + at) right other i (omega arith) ∙ ap (byte_at memory) target) in
    ap₂ (λ a b. a && b)
    (ap₂ (λ a b. a && (b && true)) (ap (has memory) (sym source) ∙ held_present memory (job.source + at) left i one (omega arith)) (ap (has memory) (sym target) ∙ held_present memory (job.target + at) right i other (omega arith)))
    (eq-eqb _ _ (sym source_byte ∙ (same ∙ target_byte)))

pub compare_stops : (memory : Memory) (job : Job) (from to at n : ℕ) (left right : List ℕ) → from ≤ at → at + n ≤ to → Passed Compare memory job from at → Holds memory (job.source + at) left → Holds memory (job.target + at) right → n ≤ length left → n ≤ length right → (k : ℕ) → k ≡ first_difference (take n left) (take n right) → k < n → Differs (at + k - from) ≡ scan_found Compare memory job from to
compare_stops memory job from to at n left right order within passed one other within_left within_right k is below =
    let source : job.source + at + k ≡ job.source + (at + k) = omega arith in
    let target : job.target + at + k ≡ job.target + (at + k) = omega arith in
    let f : ℕ → ℕ = λ j. get_or (take n left) j 0 in
    let g : ℕ → ℕ = λ j. get_or (take n right) j 0 in
    let short : first (length (take n left)) (unequal f g) < length (take n left) = omega (arith, is, length-take n left) in
    let differ : (f k == g k) ≡ false = ap (λ j. f j == g j) is ∙ unequal_here (length (take n left)) f g short in
    let source_byte : f k ≡ byte_at memory (job.source + (at + k)) = get_or-take n left k 0 below ∙ (part_byte memory (job.source + at) left one k (omega arith) ∙ ap (byte_at memory) source) in
    let target_byte : g k ≡ byte_at memory (job.target + (at + k)) = get_or-take n right k 0 below ∙ (part_byte memory (job.target + at) right other k (omega arith) ∙ ap (byte_at memory) target) in
    compare_differs memory job from to (at + k) (omega arith) (omega arith)
    (passed_more Compare memory job from at k passed (λ i low. compare_passes memory job at n left right one other within_left within_right i (omega (arith, is))))
    (ap (has memory) (sym source) ∙ held_present memory (job.source + at) left k one (omega arith))
    (ap (has memory) (sym target) ∙ held_present memory (job.target + at) right k other (omega arith))
    (ap₂ (λ a b. a == b) (sym source_byte) (sym target_byte) ∙ differ)

-- Compares with a pattern.
pub pattern_done : (memory : Memory) (job : Job) (from to at : ℕ) → from ≤ at → at ≤ to → Passed ComparePattern memory job from at → (at < to → passes ComparePattern memory job at ≡ false) → scan_done ComparePattern memory job from to ≡ at - from
pattern_done memory job from to at order within passed stops = done_upwards ComparePattern memory job from to at refl order within passed stops

pub pattern_all : (memory : Memory) (job : Job) (from to at : ℕ) → from ≤ at → at ≤ to → to ≤ at → Passed ComparePattern memory job from at → All ≡ scan_found ComparePattern memory job from to
pattern_all memory job from to at order within over passed =
    found_all ComparePattern memory job from to (pattern_done memory job from to at order within passed (λ below. absurd (omega arith)) ∙ omega arith)

-- a byte is absent
pub pattern_absent : (memory : Memory) (job : Job) (from to at place : ℕ) → from ≤ at → at < to → Passed ComparePattern memory job from at → place ≡ job.source + at → has memory place ≡ false → Faults (at - from) place false ≡ scan_found ComparePattern memory job from to
pattern_absent memory job from to at place order below passed is absent =
    let gone : has memory (job.source + at) ≡ false = ap (has memory) (sym is) ∙ absent in
    let clear : (has memory (job.source + at) && true) ≡ false = ap (λ b. b && true) gone in
    let here : from + (at - from) ≡ at = omega arith in
    let done = pattern_done memory job from to at order (omega arith) passed (λ _. ap (λ b. b && (byte_at memory (job.source + at) == pattern_byte job.target at)) clear) in
    ap (λ a. Faults (at - from) a false) is
    ∙ found_fault ComparePattern memory job from to (at - from) (read_fault (job.source + at)) done (omega arith)
    (ap (λ k. is_clear memory (faults_at ComparePattern job k)) here ∙ clear)
    (ap (λ k. first_fault memory (faults_at ComparePattern job k)) here ∙ one_fault memory (read_fault (job.source + at)) clear)

-- the places of a part that repeats the pattern pass, and the next one does not
pub pattern_passes : (memory : Memory) (job : Job) (at : ℕ) (bytes : List ℕ) → Holds memory (job.source + at) bytes → (i : ℕ) → i < first_unlike bytes job.target at → passes ComparePattern memory job (at + i) ≡ true
pattern_passes memory job at bytes part i below =
    let f : ℕ → ℕ = λ j. get_or bytes j 0 in
    let g : ℕ → ℕ = λ j. pattern_byte job.target (at + j) in
    let short : i < length bytes = omega (arith, first_le (length bytes) (unequal f g)) in
    let source : job.source + at + i ≡ job.source + (at + i) = omega arith in
    let byte : f i ≡ byte_at memory (job.source + (at + i)) = part_byte memory (job.source + at) bytes part i short ∙ ap (byte_at memory) source in
    ap₂ (λ a b. a && b)
    (ap (λ a. a && true) (ap (has memory) (sym source) ∙ held_present memory (job.source + at) bytes i part short))
    (eq-eqb _ _ (sym byte ∙ equal_before (length bytes) f g i below))

pub pattern_stops : (memory : Memory) (job : Job) (from to at : ℕ) (bytes : List ℕ) → from ≤ at → at + length bytes ≤ to → Passed ComparePattern memory job from at → Holds memory (job.source + at) bytes → (k : ℕ) → k ≡ first_unlike bytes job.target at → k < length bytes → Differs (at + k - from) ≡ scan_found ComparePattern memory job from to
pattern_stops memory job from to at bytes order within passed part k is below =
    let f : ℕ → ℕ = λ j. get_or bytes j 0 in
    let g : ℕ → ℕ = λ j. pattern_byte job.target (at + j) in
    let source : job.source + at + k ≡ job.source + (at + k) = omega arith in
    let here : from + (at + k - from) ≡ at + k = omega arith in
    let differ : (f k == g k) ≡ false = ap (λ j. f j == g j) is ∙ unequal_here (length bytes) f g (omega (arith, is)) in
    let byte : f k ≡ byte_at memory (job.source + (at + k)) = part_byte memory (job.source + at) bytes part k below ∙ ap (byte_at memory) source in
    let clear : (has memory (job.source + (at + k)) && true) ≡ true = ap (λ a. a && true) (ap (has memory) (sym source) ∙ held_present memory (job.source + at) bytes k part below) in
    let unlike : (byte_at memory (job.source + (at + k)) == pattern_byte job.target (at + k)) ≡ false = ap (λ a. a == g k) (sym byte) ∙ differ in
    let before = passed_more ComparePattern memory job from at k passed (λ i low. pattern_passes memory job at bytes part i (omega (arith, is))) in
    found_differs ComparePattern memory job from to (at + k - from)
    (pattern_done memory job from to (at + k) (omega arith) (omega arith) before (λ _. ap₂ (λ a b. a && b) clear unlike)) (omega arith)
    (ap (λ n. is_clear memory (faults_at ComparePattern job n)) here ∙ clear)

-- what decides how far a compare comes
pub ruleset compare_steps = (part_none, passed_none, first_absent)
