-- Entries whose offsets rise within blocks that are known to be present.
use Rattle.std.proofs.Common.{◌≡◌, ℕ, zero, suc, ◌+◌, ◌-◌, ◌<◌, ◌≤◌, true, List, nat_eq, nat_le, sym, ap, subst, inl, inr, arith}
use Rattle.std.proofs.lemmas.Bool.{and_from, cases_eq, cases_lt, cond-false, le-leb, ne_eqb}
use Rattle.dml_types.specs.declared.jobs.Job.{Job}
use Rattle.dml_types.specs.Memory.{Memory}
use Rattle.dml_types.specs.Delta.{block_number}
use Rattle.dml_delta.specs.Record.{is_allowed, is_block, least_in, AreBlocks, AreRising}

-- one more allowed entry
pub next_allowed : (memory : Memory) (job : Job) (start : ℕ) (entries : List ℕ) (i : ℕ) → ((k : ℕ) → k < i → is_allowed memory job (least_in start entries k) (block_number entries k) ≡ true) → is_allowed memory job (least_in start entries i) (block_number entries i) ≡ true → (k : ℕ) → k < i + 1 → is_allowed memory job (least_in start entries k) (block_number entries k) ≡ true
next_allowed memory job start entries i before here k below = elim (cases_eq k i) [
  | inl same ↦ subst (λ (n : ℕ). is_allowed memory job (least_in start entries n) (block_number entries n) ≡ true) (sym same) here
  | inr other ↦ before k (omega (arith, below, other))
]

-- the least offset behind an entry that is not the first
pub least_behind : (start : ℕ) (entries : List ℕ) (k : ℕ) → 1 ≤ k → block_number entries (k - 1) + 1 ≡ least_in start entries k
least_behind start entries k some =
    sym (cond-false (nat_eq k 0) start (block_number entries (k - 1) + 1) (ne_eqb k 0 (λ none. omega (arith, none, some))))

-- none of them is below what the first of them may have
rises_above : (entries : List ℕ) (i j end : ℕ) → AreRising entries i j end → 1 ≤ i → (d : ℕ) → i + d < j → block_number entries (i - 1) + 1 ≤ block_number entries (i + d)
rises_above entries i j end rising some zero below =
    let here = (rising (i + 0) (omega arith) below).0 in
    let same : i + 0 - 1 ≡ i - 1 = omega arith in
    omega (arith, here, ap (block_number entries) same)
rises_above entries i j end rising some (suc d) below =
    let before = rises_above entries i j end rising some d (omega (arith, below)) in
    let here = (rising (i + suc d) (omega arith) below).0 in
    let same : i + suc d - 1 ≡ i + d = omega arith in
    omega (arith, before, here, ap (block_number entries) same)

above_least : (entries : List ℕ) (i j end k : ℕ) → AreRising entries i j end → 1 ≤ i → i ≤ k → k < j → block_number entries (i - 1) + 1 ≤ block_number entries k
above_least entries i j end k rising some from below =
    let same : i + (k - i) ≡ k = omega (arith, from) in
    let here = rises_above entries i j end rising some (k - i) (omega (arith, from, below)) in
    omega (arith, here, ap (block_number entries) same)

-- entries that rise within known blocks are allowed
pub rising_allowed : (memory : Memory) (job : Job) (start : ℕ) (entries : List ℕ) (i j known : ℕ) → 1 ≤ i → ((k : ℕ) → k < i → is_allowed memory job (least_in start entries k) (block_number entries k) ≡ true) → AreBlocks memory job (block_number entries (i - 1) + 1) known → AreRising entries i j known → (k : ℕ) → k < j → is_allowed memory job (least_in start entries k) (block_number entries k) ≡ true
rising_allowed memory job start entries i j known some before blocks rising k below = elim (cases_lt k i) [
  | inl under ↦ before k under
  | inr over ↦
      let number = block_number entries k in
      let here = rising k (omega (arith, over)) below in
      let least = block_number entries (k - 1) + 1 in
      let allowed : is_allowed memory job least number ≡ true =
      and_from (nat_le least number) (is_block memory job number) (le-leb least number (omega (arith, here.0)))
      (blocks number (above_least entries i j known k rising some (omega (arith, over)) below) here.1) in
      subst (λ (n : ℕ). is_allowed memory job n number ≡ true) (least_behind start entries k (omega (arith, some, over))) allowed
]
