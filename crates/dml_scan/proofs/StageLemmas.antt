-- Bytes that are staged page part by page part.
use Rattle.std.proofs.Common.{◌≡◌, ℕ, ◌+◌, ◌-◌, ◌<◌, ◌≤◌, true, not, refl, ◌∙◌, ap, arith}
use Rattle.std.proofs.lemmas.Bool.{and_parts, not-false}
use Rattle.dml_types.specs.declared.jobs.Job.{Job}
use Rattle.dml_types.specs.declared.operations.Direction.{Direction}
use Rattle.dml_types.specs.declared.operations.Direction.TheVariants.{Forward, Backward}
use Rattle.dml_types.specs.declared.operations.Op.TheVariants.{Dualcast, Move}
use Rattle.dml_types.specs.Memory.{Memory, has, has_all, worked_offset}
use Rattle.dml_types.specs.Bytewise.{operation_direction, lowest_done, passes}
use Rattle.dml_types.specs.Chunk.{scan_done, scan_offset}
use Rattle.dml_types.proofs.FirstLemmas.{fails_before, first_le}
use Rattle.dml_types.proofs.MemoryLemmas.{has_all_at, has_all_from}

-- the byte at which a part begins is present
pub part_here : (memory : Memory) (address n done place : ℕ) → has_all memory address n ≡ true → done < n → place ≡ address + done → has memory place ≡ true
part_here memory address n done place all below at = ap (has memory) at ∙ has_all_at memory address n done all below

-- the bytes that were done are present in the source
pub move_source_present : (memory : Memory) (job : Job) (from to k : ℕ) → scan_done Move memory job from to ≡ k → has_all memory (job.source + (from + lowest_done (operation_direction Move job) (to - from) k)) k ≡ true
move_source_present memory job from to k is =
    has_all_from memory (job.source + (from + lowest_done (operation_direction Move job) (to - from) k)) k
    (λ j below. at_place (operation_direction Move job) refl j below)
  where
    passed : (i : ℕ) → i < k → has memory (job.source + (from + worked_offset (operation_direction Move job) (to - from) i)) ≡ true
    passed i below =
        let stops = λ (j : ℕ). not (passes Move memory job (scan_offset Move job from to j)) in
        (and_parts _ _ (not-false (passes Move memory job (scan_offset Move job from to i)) (fails_before (to - from) stops i (omega (arith, is))))).0

    long : k ≤ to - from
    long = omega (arith, is, first_le (to - from) (λ j. not (passes Move memory job (scan_offset Move job from to j))))

    at_place : (direction : Direction) → operation_direction Move job ≡ direction → (j : ℕ) → j < k → has memory (job.source + (from + lowest_done (operation_direction Move job) (to - from) k) + j) ≡ true
    at_place Forward dir j below =
        let same : lowest_done (operation_direction Move job) (to - from) k ≡ 0 = ap (λ d. lowest_done d (to - from) k) dir in
        let off : worked_offset (operation_direction Move job) (to - from) j ≡ j = ap (λ d. worked_offset d (to - from) j) dir in
        let place : job.source + (from + lowest_done (operation_direction Move job) (to - from) k) + j ≡ job.source + (from + worked_offset (operation_direction Move job) (to - from) j) = omega (arith, same, off) in
        ap (has memory) place ∙ passed j below
    at_place Backward dir j below =
        let same : lowest_done (operation_direction Move job) (to - from) k ≡ to - from - k = ap (λ d. lowest_done d (to - from) k) dir in
        let off : worked_offset (operation_direction Move job) (to - from) (k - 1 - j) ≡ to - from - 1 - (k - 1 - j) = ap (λ d. worked_offset d (to - from) (k - 1 - j)) dir in
        let place : job.source + (from + lowest_done (operation_direction Move job) (to - from) k) + j ≡ job.source + (from + worked_offset (operation_direction Move job) (to - from) (k - 1 - j)) = omega (arith, same, off, long, below) in
        ap (has memory) place ∙ passed (k - 1 - j) (omega (arith, below))

pub dualcast_source_present : (memory : Memory) (job : Job) (from to k : ℕ) → scan_done Dualcast memory job from to ≡ k → has_all memory (job.source + from) k ≡ true
dualcast_source_present memory job from to k is =
    has_all_from memory (job.source + from) k
    (λ j below.
    let stops = λ (i : ℕ). not (passes Dualcast memory job (scan_offset Dualcast job from to i)) in
    let place : job.source + from + j ≡ job.source + (from + j) = omega arith in
    ap (has memory) place
    ∙ (and_parts _ _ (not-false (passes Dualcast memory job (scan_offset Dualcast job from to j)) (fails_before (to - from) stops j (omega (arith, is))))).0)
