-- Runs of whole blocks or entries, by runs of present bytes.
use Rattle.std.proofs.Common.{◌≡◌, ℕ, ◌+◌, ◌-◌, ◌*◌, ◌/◌, ◌%◌, ◌<◌, ◌≤◌, Bool, true, false, not, ◌&&◌, List, length, get_or, sym, ◌∙◌, ap, ap₂, arith, ⊎_elim}
use Rattle.std.proofs.lemmas.Bool.{cases_Bool, cases_lt, false≢true, not-false, not-true, and_left, and_right, false_from_ne_true, eq-eqb}
use Rattle.dml_types.specs.declared.jobs.Job.{Job}
use Rattle.dml_types.specs.Memory.{first, Memory, has, has_all, present_bytes}
use Rattle.dml_types.specs.Delta.{readable_blocks, has_block, is_readable}
use Rattle.dml_types.proofs.FirstLemmas.{first_le, first_is, fails_before, passes_at}
use Rattle.dml_types.proofs.MemoryLemmas.{has_all_at, has_all_from}
use Rattle.dml_segments.specs.Present.{IsPartOfPage}

-- units of w bytes: of n bytes from an address on, the first `run` are present, which are k whole units and no further one
pub units_is : (memory : Memory) (address w count n k : ℕ) → k ≤ count → ((i : ℕ) → i < k → w * i + w ≤ present_bytes memory address n) → (k < count → (w * k ≤ present_bytes memory address n) × (present_bytes memory address n < w * k + w) × (present_bytes memory address n < n)) → first count (λ i. not (has_all memory (address + w * i) w)) ≡ k
units_is memory address w count n k within before here =
    first_is count (λ i. not (has_all memory (address + w * i) w)) k within
    (λ i low. ap not (whole i (before i low)))
    (λ below. ap not (broken (here below).0 (here below).1 (here below).2))
  where
    whole : (i : ℕ) → w * i + w ≤ present_bytes memory address n → has_all memory (address + w * i) w ≡ true
    whole i inside =
        has_all_from memory (address + w * i) w
        (λ j low.
        let place : address + w * i + j ≡ address + (w * i + j) = omega arith in
        ap (has memory) place ∙ not-false (has memory (address + (w * i + j))) (fails_before n (λ m. not (has memory (address + m))) (w * i + j) (omega arith)))

    broken : w * k ≤ present_bytes memory address n → present_bytes memory address n < w * k + w → present_bytes memory address n < n → has_all memory (address + w * k) w ≡ false
    broken low high short =
        let m = present_bytes memory address n in
        let gone : has memory (address + m) ≡ false = not-true (has memory (address + m)) (passes_at n (λ i. not (has memory (address + i))) short) in
        let place : address + w * k + (m - w * k) ≡ address + m = omega arith in
        false_from_ne_true (has_all memory (address + w * k) w)
        (λ all. false≢true (sym gone ∙ (ap (has memory) (sym place) ∙ has_all_at memory (address + w * k) w (m - w * k) all (omega arith))))

-- a block at a multiple of 8 lies in one page
pub block_in_page : (memory : Memory) (address : ℕ) → address % 8 ≡ 0 → has memory address ≡ has_all memory address 8
block_in_page memory address aligned =
    ⊎_elim (λ here. here ∙ sym (has_all_from memory address 8 (λ i below. same i below ∙ here)))
    (λ gone.
    gone
    ∙ sym (false_from_ne_true (has_all memory address 8)
    (λ all.
    let start : address ≡ address + 0 = omega arith in
    false≢true (sym gone ∙ (ap (has memory) start ∙ has_all_at memory address 8 0 all (omega arith))))))
    (cases_Bool (has memory address))
  where
    same : (i : ℕ) → i < 8 → has memory (address + i) ≡ has memory address
    same i below =
        let page : (address + i) / 4096 ≡ address / 4096 = omega arith in
        ap (λ (p : ℕ). get_or memory.present p false) page

-- the bytes from a block on to the end of its page, or fewer, are whole blocks, and all of them are present
pub record AreWhole (memory : Memory) (address n : ℕ) (bytes : List ℕ) : Type 0 where
  pub whole : length bytes % 8 ≡ 0
  pub some : 8 ≤ length bytes
  pub within : length bytes ≤ n
  pub here : (i : ℕ) → 8 * i < length bytes → has_all memory (address + 8 * i) 8 ≡ true

pub part_whole : (memory : Memory) (address k : ℕ) (bytes : List ℕ) → IsPartOfPage memory address (8 * k) bytes → address % 8 ≡ 0 → 0 < k → AreWhole memory address (8 * k) bytes
part_whole memory address k bytes part aligned some = record {
  whole = omega (arith, part.size, aligned);
  some = omega (arith, part.size, aligned, some);
  within = omega (arith, part.size);
  here = λ i below.
      let page : (address + 8 * i) / 4096 ≡ address / 4096 = omega (arith, part.size, below) in
      sym (block_in_page memory (address + 8 * i) (omega (arith, aligned)))
      ∙ (ap (λ (p : ℕ). get_or memory.present p false) page ∙ part.present);
}

-- how many blocks come before the first that is not readable
pub readable_at : (memory : Memory) (job : Job) (from to k : ℕ) → k ≤ to - from → ((i : ℕ) → i < k → is_readable memory job (from + i) ≡ true) → (k < to - from → is_readable memory job (from + k) ≡ false) → k ≡ readable_blocks memory job from to
readable_at memory job from to k within before stops =
    sym (first_is (to - from) (λ i. not (is_readable memory job (from + i))) k within (λ i below. ap not (before i below)) (λ below. ap not (stops below)))

-- readable blocks in front, and blocks that are present in both sources behind
pub readable_more : (memory : Memory) (job : Job) (from done n : ℕ) → ((i : ℕ) → i < done → is_readable memory job (from + i) ≡ true) → ((i : ℕ) → i < n → has_all memory (job.source + 8 * (from + done) + 8 * i) 8 ≡ true) → ((i : ℕ) → i < n → has_all memory (job.target + 8 * (from + done) + 8 * i) 8 ≡ true) → (i : ℕ) → i < done + n → is_readable memory job (from + i) ≡ true
readable_more memory job from done n before source target i below =
    ⊎_elim (λ low. before i low)
    (λ high.
    let one : job.source + 8 * (from + i) ≡ job.source + 8 * (from + done) + 8 * (i - done) = omega arith in
    let other : job.target + 8 * (from + i) ≡ job.target + 8 * (from + done) + 8 * (i - done) = omega arith in
    ap₂ (λ (a b : Bool). a && b)
    (ap (λ (a : ℕ). has_all memory a 8) one ∙ source (i - done) (omega arith))
    (ap (λ (a : ℕ). has_all memory a 8) other ∙ target (i - done) (omega arith)))
    (cases_lt i done)

-- a block whose first byte is absent in a source
pub source_absent : (memory : Memory) (job : Job) (b number : ℕ) → number ≡ b → job.source % 8 ≡ 0 → has memory (job.source + 8 * number) ≡ false → is_readable memory job b ≡ false
source_absent memory job b number is aligned gone =
    and_left (has_block memory job.source b) (has_block memory job.target b)
    (sym (block_in_page memory (job.source + 8 * b) (omega (arith, aligned))) ∙ (ap (λ (n : ℕ). has memory (job.source + 8 * n)) (sym is) ∙ gone))

pub target_absent : (memory : Memory) (job : Job) (b number : ℕ) → number ≡ b → job.target % 8 ≡ 0 → has memory (job.target + 8 * number) ≡ false → is_readable memory job b ≡ false
target_absent memory job b number is aligned gone =
    and_right (has_block memory job.source b) (has_block memory job.target b)
    (sym (block_in_page memory (job.target + 8 * b) (omega (arith, aligned))) ∙ (ap (λ (n : ℕ). has memory (job.target + 8 * n)) (sym is) ∙ gone))

-- the blocks before the first that is not readable are present in both sources
pub readable_here : (memory : Memory) (job : Job) (from to i : ℕ) → i < readable_blocks memory job from to → is_readable memory job (from + i) ≡ true
readable_here memory job from to i below =
    not-false (is_readable memory job (from + i)) (fails_before (to - from) (λ j. not (is_readable memory job (from + j))) i below)

-- and the next one, if the chunk has it, is not
pub not_readable : (memory : Memory) (job : Job) (from to n : ℕ) → n ≡ readable_blocks memory job from to → from + n < to → is_readable memory job (from + n) ≡ false
not_readable memory job from to n is below =
    let stops = passes_at (to - from) (λ i. not (is_readable memory job (from + i))) (omega arith) in
    ap (λ (k : ℕ). is_readable memory job (from + k)) is ∙ not-true _ stops

-- parts of a range of present bytes
pub has_front : (memory : Memory) (address m n : ℕ) → has_all memory address n ≡ true → m ≤ n → has_all memory address m ≡ true
has_front memory address m n all short = has_all_from memory address m (λ i below. has_all_at memory address n i all (omega arith))

pub all_counted : (memory : Memory) (address n : ℕ) → n ≤ present_bytes memory address n → has_all memory address n ≡ true
all_counted memory address n all = eq-eqb _ _ (omega (arith, all, first_le n (λ i. not (has memory (address + i)))))
