-- Picks of free places end as the list does.
use Rattle.std.proofs.Common.{◌≡◌, ℕ, ◌+◌, ◌-◌, ◌<◌, ◌≤◌, zero, suc, Bool, true, false, not, cond, List, [], ◌∷◌, ◌++◌, filter, refl, sym, ◌∙◌, ap, subst, arith, ⊎_elim}
use Rattle.std.proofs.lemmas.Bool.{cases_Bool, and_parts, eq-eqb, ne_eqb, ltb-true, lt-ltb}
use Rattle.std.proofs.lemmas.List.Elements.{filter-append}
use Rattle.std.specs.Prelude.{nat_eq, ◌&&◌}
use Rattle.std.specs.List.{range_with_len}
use Rattle.dml_order.specs.Order.{run_all, IsFree, without, Picks, all_below, Commutes}

-- what is left of the places after picks
abbrev pub left_after : (ℕ → Bool) → List ℕ → ℕ → Bool
left_after left [] = left
left_after left (i ∷ order) = left_after (without left i) order

pub run_all_append : {S : Type 0} (after : S → ℕ → S) (state : S) (xs ys : List ℕ) → run_all after state (xs ++ ys) ≡ run_all after (run_all after state xs) ys
run_all_append after state [] ys = refl
run_all_append after state (i ∷ xs) ys = run_all_append after (after state i) xs ys

pub range_split : (from a b : ℕ) → range_with_len from (a + b) ≡ range_with_len from a ++ range_with_len (from + a) b
range_split from zero b =
    ap (λ n. range_with_len from n) (let e : 0 + b ≡ b = omega arith in e)
    ∙ ap (λ f. range_with_len f b) (let e : from ≡ from + 0 = omega arith in e)
range_split from (suc a) b =
    ap (λ n. range_with_len from n) (let e : suc a + b ≡ suc (a + b) = omega arith in e)
    ∙ (ap (λ rest. from ∷ rest) (range_split (from + 1) a b)
    ∙ ap (λ f. from ∷ (range_with_len (from + 1) a ++ range_with_len f b)) (let e : from + 1 + a ≡ from + suc a = omega arith in e))

-- two tests that agree on a range keep the same of it
pub filter_range_same : (p q : ℕ → Bool) (from n : ℕ) → ((i : ℕ) → from ≤ i → i < from + n → p i ≡ q i) → filter p (range_with_len from n) ≡ filter q (range_with_len from n)
filter_range_same p q from zero same = refl
filter_range_same p q from (suc n) same =
    let rest = filter_range_same p q (from + 1) n (λ i low high. same i (omega arith) (omega arith)) in
    ap (λ b. cond b (from ∷ filter p (range_with_len (from + 1) n)) (filter p (range_with_len (from + 1) n))) (same from (omega arith) (omega arith))
    ∙ ap (λ kept. cond (q from) (from ∷ kept) kept) rest

-- the part of a range from i on begins with i
pub filter_at : (p : ℕ → Bool) (i n : ℕ) → p i ≡ true → i < n → filter p (range_with_len i (n - i)) ≡ i ∷ filter p (range_with_len (i + 1) (n - (i + 1)))
filter_at p i n here below =
    ap (λ k. filter p (range_with_len i k)) (let e : n - i ≡ suc (n - (i + 1)) = omega arith in e)
    ∙ ap (λ b. cond b (i ∷ filter p (range_with_len (i + 1) (n - (i + 1)))) (filter p (range_with_len (i + 1) (n - (i + 1))))) here

pub filter_past : (p : ℕ → Bool) (i n : ℕ) → p i ≡ false → i < n → filter p (range_with_len i (n - i)) ≡ filter p (range_with_len (i + 1) (n - (i + 1)))
filter_past p i n gone below =
    ap (λ k. filter p (range_with_len i k)) (let e : n - i ≡ suc (n - (i + 1)) = omega arith in e)
    ∙ ap (λ b. cond b (i ∷ filter p (range_with_len (i + 1) (n - (i + 1)))) (filter p (range_with_len (i + 1) (n - (i + 1))))) gone

pub without_other : (left : ℕ → Bool) (i k : ℕ) → (k ≡ i → ⊥) → without left i k ≡ left k
without_other left i k other =
    elim (left k) as (λ b. (b && not (nat_eq k i)) ≡ b) [
      | true ↦ ap not (ne_eqb k i other)
      | false ↦ refl
    ]

without_same : (left : ℕ → Bool) (i : ℕ) → without left i i ≡ false
without_same left i =
    elim (left i) as (λ b. (b && not (nat_eq i i)) ≡ false) [
      | true ↦ ap not (eq-eqb i i refl)
      | false ↦ refl
    ]

-- a step at a place with which none of these clash may go before them
pub slide : {S : Type 0} {Good : S → Type 0} {after : S → ℕ → S} {clash : ℕ → ℕ → Bool} {n : ℕ} → Commutes S Good after clash n → (p : ℕ → Bool) (from count i : ℕ) → from + count ≤ i → i < n → ((k : ℕ) → k < i → p k ≡ true → clash k i ≡ false) → (state : S) → Good state → after (run_all after state (filter p (range_with_len from count))) i ≡ run_all after (after state i) (filter p (range_with_len from count))
slide c p from zero i low below free state good = refl
slide {S} {Good} {after} {clash} {n} c p from (suc count) i low below free state good =
    ⊎_elim (λ here.
    let swap = c.swap state from i good (omega arith) below (free from (omega arith) here) in
    let rest = slide c p (from + 1) count i (omega arith) below free (after state from) (c.keeps state from good) in
    subst (λ b. after (run_all after state (cond b (from ∷ filter p (range_with_len (from + 1) count)) (filter p (range_with_len (from + 1) count)))) i ≡ run_all after (after state i) (cond b (from ∷ filter p (range_with_len (from + 1) count)) (filter p (range_with_len (from + 1) count)))) (sym here)
    (rest ∙ ap (λ s. run_all after s (filter p (range_with_len (from + 1) count))) swap))
    (λ gone.
    subst (λ b. after (run_all after state (cond b (from ∷ filter p (range_with_len (from + 1) count)) (filter p (range_with_len (from + 1) count)))) i ≡ run_all after (after state i) (cond b (from ∷ filter p (range_with_len (from + 1) count)) (filter p (range_with_len (from + 1) count)))) (sym gone)
    (slide c p (from + 1) count i (omega arith) below free state good))
    (cases_Bool (p from))

-- what is left, in list order, with a free place first
pub pick_one : {S : Type 0} {Good : S → Type 0} {after : S → ℕ → S} {clash : ℕ → ℕ → Bool} {n : ℕ} → Commutes S Good after clash n → (left : ℕ → Bool) (i : ℕ) → i < n → IsFree clash left i → (state : S) → Good state → run_all after state (filter left (range_with_len 0 n)) ≡ run_all after (after state i) (filter (without left i) (range_with_len 0 n))
pick_one {S} {Good} {after} {clash} {n} c left i below free state good =
    let front = filter left (range_with_len 0 i) in
    let back = filter left (range_with_len (i + 1) (n - (i + 1))) in
    let size : n ≡ i + (n - i) = omega arith in
    let cut : (p : ℕ → Bool) → filter p (range_with_len 0 n) ≡ filter p (range_with_len 0 i) ++ filter p (range_with_len i (n - i)) =
    λ p.
    ap (λ k. filter p (range_with_len 0 k)) size
    ∙ (ap (filter p) (range_split 0 i (n - i))
    ∙ (ap (λ f. filter p (range_with_len 0 i ++ range_with_len f (n - i))) (let e : 0 + i ≡ i = omega arith in e)
    ∙ filter-append p (range_with_len 0 i) (range_with_len i (n - i)))) in
    let same_front = filter_range_same (without left i) left 0 i (λ k low high. without_other left i k (λ e. absurd (omega arith))) in
    let same_back = filter_range_same (without left i) left (i + 1) (n - (i + 1)) (λ k low high. without_other left i k (λ e. absurd (omega arith))) in
    let before : filter left (range_with_len 0 n) ≡ front ++ i ∷ back = cut left ∙ ap (λ rest. front ++ rest) (filter_at left i n free.is_left below) in
    let behind : filter (without left i) (range_with_len 0 n) ≡ front ++ back =
    cut (without left i)
    ∙ (ap (λ rest. filter (without left i) (range_with_len 0 i) ++ rest) (filter_past (without left i) i n (without_same left i) below)
    ∙ (ap (λ f. f ++ filter (without left i) (range_with_len (i + 1) (n - (i + 1)))) same_front ∙ ap (λ b. front ++ b) same_back)) in
    let moved = slide c left 0 i i (omega arith) below (λ k low here. free.unhindered k low here) state good in
    ap (run_all after state) before
    ∙ (run_all_append after state front (i ∷ back)
    ∙ (ap (λ s. run_all after s back) moved
    ∙ (sym (run_all_append after (after state i) front back) ∙ sym (ap (run_all after (after state i)) behind))))

pub picks_then_left : {S : Type 0} {Good : S → Type 0} {after : S → ℕ → S} {clash : ℕ → ℕ → Bool} {n : ℕ} → Commutes S Good after clash n → (order : List ℕ) (left : ℕ → Bool) → ((i : ℕ) → left i ≡ true → i < n) → (state : S) → Good state → Picks clash left order → run_all after state (filter left (range_with_len 0 n)) ≡ run_all after (run_all after state order) (filter (left_after left order) (range_with_len 0 n))
picks_then_left c [] left bounded state good picks = refl
picks_then_left {S} {Good} {after} {clash} {n} c (i ∷ order) left bounded state good picks =
    pick_one c left i (bounded i picks.0.is_left) picks.0 state good
    ∙ picks_then_left c order (without left i) (λ k here. bounded k (and_parts (left k) (not (nat_eq k i)) here).0) (after state i) (c.keeps state i good) picks.1

-- all places are left at first; what none is left of is nothing
pub filter_all : (n : ℕ) → filter (all_below n) (range_with_len 0 n) ≡ range_with_len 0 n
filter_all n = filter_range_same (all_below n) (λ _. true) 0 n (λ i low high. lt-ltb i n (omega arith)) ∙ keep_all (range_with_len 0 n)
  where
    keep_all : (xs : List ℕ) → filter (λ _. true) xs ≡ xs
    keep_all [] = refl
    keep_all (x ∷ xs) = ap (λ rest. x ∷ rest) (keep_all xs)

pub filter_none : (p : ℕ → Bool) (from n : ℕ) → ((i : ℕ) → p i ≡ false) → filter p (range_with_len from n) ≡ []
filter_none p from zero none = refl
filter_none p from (suc n) none =
    ap (λ b. cond b (from ∷ filter p (range_with_len (from + 1) n)) (filter p (range_with_len (from + 1) n))) (none from)
    ∙ filter_none p (from + 1) n none

-- all picked: the order ends as the list
pub picks_all : {S : Type 0} {Good : S → Type 0} {after : S → ℕ → S} {clash : ℕ → ℕ → Bool} {n : ℕ} → Commutes S Good after clash n → (order : List ℕ) → Picks clash (all_below n) order → ((i : ℕ) → left_after (all_below n) order i ≡ false) → (state : S) → Good state → run_all after state order ≡ run_all after state (range_with_len 0 n)
picks_all {S} {Good} {after} {clash} {n} c order picks whole state good =
    sym (ap (run_all after state) (sym (filter_all n))
    ∙ (picks_then_left c order (all_below n) (λ i here. ltb-true i n here) state good picks
    ∙ ap (run_all after (run_all after state order)) (filter_none (left_after (all_below n) order) 0 n whole)))
