-- Addresses that are counted from a base, over pages that end at 2^64 at most.
use Rattle.std.proofs.Common.{◌≡◌, ◌↔◌, ℕ, ◌+◌, ◌-◌, ◌/◌, ◌^◌, ◌<◌, ◌≤◌, ◌⊎◌, true, false, List, length, replicate, arith, ⊎_elim, inl, inr}
use Rattle.std.proofs.lemmas.Bool.{cases_lt, lt-ltb, ltb-true}
use Rattle.std.proofs.lemmas.List.{length-replicate, get_or-replicate, get_or_past}
use Rattle.dml_types.specs.Job.{is_past, span}
use Rattle.dml_types.specs.Memory.{has}
use Rattle.dml_effect.specs.Pages.{all_present}
use Rattle.dml_c.specs.Bases.{ArePagesAt, GoesOver, address_at, distance}

pub distance_from : (start address : ℕ) → start ≤ address → address < 2 ^ 64 → distance start address ≡ address - start
distance_from start address low high = omega (arith, low, high)

pub distance_below : (start address : ℕ) → start ≤ 2 ^ 64 → address < start → distance start address ≡ address + (2 ^ 64 - start)
distance_below start address high low = omega (arith, low, high)

pub put_back : (start address : ℕ) → start < 2 ^ 64 → address < 2 ^ 64 → address_at start (distance start address) ≡ address
put_back start address base high =
    ⊎_elim (λ (low : address < start). let far = distance_below start address (omega (arith, base)) low in omega (arith, far, low, base))
    (λ (behind : start ≤ address). let near = distance_from start address behind high in omega (arith, near, behind, high))
    (cases_lt address start)

-- a byte of pages that are all present, and one past their end
present_at : (content : List ℕ) (k : ℕ) → k / 4096 < length content / 4096 → has (all_present content) k ≡ true
present_at content k low = get_or-replicate (length content / 4096) (k / 4096) true false low

absent_past : (content : List ℕ) (k : ℕ) → length content / 4096 ≤ k / 4096 → has (all_present content) k ≡ false
absent_past content k high =
    let n = length content / 4096 in get_or_past (replicate n true) (k / 4096) false (omega (arith, high, length-replicate n true))

pub present_within : (start address : ℕ) (content : List ℕ) → ArePagesAt start content → start ≤ address → address < start + length content → has (all_present content) (distance start address) ≡ true
present_within start address content at low high =
    let near = distance_from start address low (omega (arith, at.unwrapped, high)) in
    present_at content (distance start address) (omega (arith, near, low, high, at.pages.whole))

pub absent_outside : (start address i : ℕ) (content : List ℕ) → ArePagesAt start content → address < 2 ^ 64 → (address < start) ⊎ (start + length content ≤ address) → has (all_present content) (distance start address + i) ≡ false
absent_outside start address i content at high outside =
    let far : length content ≤ distance start address =
    ⊎_elim (λ (low : address < start). let is = distance_below start address (omega (arith, at.unwrapped)) low in omega (arith, is, low, at.unwrapped))
    (λ (behind : start + length content ≤ address). let is = distance_from start address (omega (arith, behind)) high in omega (arith, is, behind))
    outside in
    absent_past content (distance start address + i) (omega (arith, far, at.pages.whole))

pub past_over : (start address n : ℕ) → start < 2 ^ 64 → address < 2 ^ 64 → (is_past (span (distance start address) n) ≡ true) ↔ GoesOver start address n
past_over start address n base high = (
  λ past.
      let over = ltb-true (2 ^ 64) (distance start address + n) past in
      ⊎_elim (λ (low : address < start). let is = distance_below start address (omega (arith, base)) low in inl (low, omega (arith, is, over, low, base)))
      (λ (behind : start ≤ address). let is = distance_from start address behind high in inr (behind, omega (arith, is, over, behind)))
      (cases_lt address start),
  λ over.
      lt-ltb (2 ^ 64) (distance start address + n)
      (⊎_elim (λ (low : (address < start) × (start < address + n)). let is = distance_below start address (omega (arith, base)) low.0 in omega (arith, is, low.0, low.1, base))
      (λ (behind : (start ≤ address) × (start + 2 ^ 64 < address + n)). let is = distance_from start address behind.0 high in omega (arith, is, behind.0, behind.1)) over),
)
