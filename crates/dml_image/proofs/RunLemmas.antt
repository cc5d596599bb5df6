-- Runs of present bytes, page by page.
use Rattle.std.proofs.Common.{◌≡◌, ℕ, ◌+◌, ◌-◌, ◌/◌, ◌%◌, ◌<◌, ◌≤◌, min, Bool, true, false, not, ◌&&◌, get_or, ap, sym, ◌∙◌, arith, ⊎_elim}
use Rattle.std.proofs.lemmas.Bool.{cases_lt, not-false, not-true, and_from, and_left, and_right}
use Rattle.dml_types.specs.Memory.{first, Memory, has, has_all, present_toward, worked_offset}
use Rattle.dml_types.proofs.MemoryLemmas.{has_all_from}
use Rattle.dml_types.specs.declared.operations.Direction.{Direction}
use Rattle.dml_types.specs.declared.operations.Direction.TheVariants.{Forward, Backward}
use Rattle.dml_types.proofs.FirstLemmas.{first_le, first_is, fails_before, passes_at}

-- the rest of a page upwards and downwards is as present as one of its bytes
pub has_above : (memory : Memory) (address other : ℕ) → has memory address ≡ true → address ≤ other → other < address + (4096 - address % 4096) → has memory other ≡ true
has_above memory address other here above within =
    let same : other / 4096 ≡ address / 4096 = omega arith in
    ap (λ page. get_or memory.present page false) same ∙ here

pub has_below : (memory : Memory) (address other : ℕ) → has memory address ≡ true → other ≤ address → address ≤ other + address % 4096 → has memory other ≡ true
has_below memory address other here below within =
    let same : other / 4096 ≡ address / 4096 = omega arith in
    ap (λ page. get_or memory.present page false) same ∙ here

-- a range in a page that is present is present
pub has_all_of_page : (memory : Memory) (address n : ℕ) → address % 4096 + n ≤ 4096 → has memory address ≡ true → has_all memory address n ≡ true
has_all_of_page memory address n within here =
    has_all_from memory address n (λ i low. has_above memory address (address + i) here (omega arith) (omega arith))

pub present_toward_is : (direction : Direction) (memory : Memory) (address n k : ℕ) → k ≤ n → ((i : ℕ) → i < k → has memory (address + worked_offset direction n i) ≡ true) → (k < n → has memory (address + worked_offset direction n k) ≡ false) → k ≡ present_toward direction memory address n
present_toward_is direction memory address n k within before here =
    sym (first_is n (λ i. not (has memory (address + worked_offset direction n i))) k within (λ i low. ap not (before i low)) (λ below. ap not (here below)))

pub present_toward_stops : (direction : Direction) (memory : Memory) (address n k : ℕ) → k < n → ((i : ℕ) → i < k → has memory (address + worked_offset direction n i) ≡ true) → has memory (address + worked_offset direction n k) ≡ false → k ≡ present_toward direction memory address n
present_toward_stops direction memory address n k within before here =
    present_toward_is direction memory address n k (omega arith) before (λ _. here)

-- of bytes in one page all are as present as the first
in_page : (direction : Direction) (memory : Memory) (address n i : ℕ) → address % 4096 + n ≤ 4096 → i < n → has memory (address + worked_offset direction n i) ≡ has memory address
in_page Forward memory address n i within low =
    let same : (address + i) / 4096 ≡ address / 4096 = omega arith in
    ap (λ page. get_or memory.present page false) same
in_page Backward memory address n i within low =
    let same : (address + (n - 1 - i)) / 4096 ≡ address / 4096 = omega arith in
    ap (λ page. get_or memory.present page false) same

pub all_of_page : (direction : Direction) (memory : Memory) (address n : ℕ) → address % 4096 + n ≤ 4096 → has memory address ≡ true → n ≡ present_toward direction memory address n
all_of_page direction memory address n within here =
    present_toward_is direction memory address n n (omega arith) (λ i low. in_page direction memory address n i within low ∙ here) (λ low. absurd (omega arith))

pub none_of_page : (direction : Direction) (memory : Memory) (address n : ℕ) → address % 4096 + n ≤ 4096 → has memory address ≡ false → 0 ≡ present_toward direction memory address n
none_of_page direction memory address n within absent =
    present_toward_is direction memory address n 0 (omega arith) (λ i low. absurd (omega arith)) (λ some. in_page direction memory address n 0 within some ∙ absent)

-- the first index at which one of two facts fails is the lesser of their own
pub first_both : (n : ℕ) (p q : ℕ → Bool) → first n (λ i. not (p i && q i)) ≡ min (first n (λ i. not (p i))) (first n (λ i. not (q i)))
first_both n p q =
    let a = first n (λ i. not (p i)) in
    let b = first n (λ i. not (q i)) in
    first_is n (λ i. not (p i && q i)) (min a b) (omega (arith, first_le n (λ i. not (p i))))
    (λ i before.
    let left : p i ≡ true = not-false (p i) (fails_before n (λ j. not (p j)) i (omega arith)) in
    let right : q i ≡ true = not-false (q i) (fails_before n (λ j. not (q j)) i (omega arith)) in
    ap not (and_from (p i) (q i) left right))
    (λ below. ⊎_elim (λ low.
    let is : min a b ≡ a = omega arith in
    ap (λ k. not (p k && q k)) is ∙ ap not (and_left (p a) (q a) (not-true (p a) (passes_at n (λ i. not (p i)) (omega arith)))))
    (λ high.
    let is : min a b ≡ b = omega arith in
    ap (λ k. not (p k && q k)) is ∙ ap not (and_right (p b) (q b) (not-true (q b) (passes_at n (λ i. not (q i)) (omega arith)))))
    (cases_lt a b))

-- what decides where the present bytes end, upwards and downwards
pub ruleset run_upwards = (present_toward_is, present_toward_stops, has_above)

pub ruleset run_downwards = (present_toward_is, present_toward_stops, has_below)
