-- The first place at which two rows of numbers differ.
use Rattle.std.specs.Prelude.{◌==◌, slice_range}
use Rattle.std.proofs.Common.{◌≡◌, ℕ, ◌+◌, ◌-◌, ◌%◌, ◌<◌, ◌≤◌, ◌↔◌, Bool, true, false, not, List, length, get_or, drop, refl, sym, ◌∙◌, ap, arith, rules, ⊎_elim}
use Rattle.std.proofs.lemmas.Bool.{cases_lt, eqb-false, not-false, not-true, eq-eqb, eqb-true}
use Rattle.std.proofs.lemmas.List.{places, length-drop}
use Rattle.dml_types.specs.Memory.{first}
use Rattle.dml_types.specs.Bytewise.{pattern_byte}
use Rattle.dml_types.proofs.FirstLemmas.{first_is, first_le, fails_before, passes_at}
use Rattle.std.specs.Int.{to_le_bytes, w64}
use Rattle.dml_scan.specs.Lanes.{AreAlike, AreRepeated, first_difference, first_unlike}

abbrev pub unequal : (ℕ → ℕ) → (ℕ → ℕ) → ℕ → Bool
unequal f g i = not (f i == g i)

pub equal_before : (n : ℕ) (f g : ℕ → ℕ) (i : ℕ) → i < first n (unequal f g) → f i ≡ g i
equal_before n f g i below = eqb-true (f i) (g i) (not-false (f i == g i) (fails_before n (unequal f g) i below))

pub unequal_here : (n : ℕ) (f g : ℕ → ℕ) → first n (unequal f g) < n → (f (first n (unequal f g)) == g (first n (unequal f g))) ≡ false
unequal_here n f g below =
    not-true (f (first n (unequal f g)) == g (first n (unequal f g))) (passes_at n (unequal f g) below)

pub unequal_is : (n : ℕ) (f g : ℕ → ℕ) (k : ℕ) → k ≤ n → ((i : ℕ) → i < k → f i ≡ g i) → (k < n → (f k ≡ g k) → ⊥) → k ≡ first n (unequal f g)
unequal_is n f g k within same differ =
    sym (first_is n (unequal f g) k within (λ i below. ap not (eq-eqb (f i) (g i) (same i below))) (λ below. apart (f k) (g k) (differ below)))
  where
    apart : (a b : ℕ) → (a ≡ b → ⊥) → not (a == b) ≡ true
    apart a b unlike = elim (a == b) as (λ c. (a == b) ≡ c → not c ≡ true) [ true ↦ λ is. absurd (unlike (eqb-true a b is)) | false ↦ λ _. refl ] refl

-- of two slices
pub slices_differ : (xs ys : List ℕ) (k : ℕ) → k < length xs → ((i : ℕ) → i < k → get_or xs i 0 ≡ get_or ys i 0) → (get_or xs k 0 ≡ get_or ys k 0 → ⊥) → k ≡ first_difference xs ys
slices_differ xs ys k below same differ = unequal_is (length xs) (λ i. get_or xs i 0) (λ i. get_or ys i 0) k (omega arith) same (λ _. differ)

pub slices_alike : (xs ys : List ℕ) (k : ℕ) → k ≡ length xs → ((i : ℕ) → i < k → get_or xs i 0 ≡ get_or ys i 0) → k ≡ first_difference xs ys
slices_alike xs ys k all same = unequal_is (length xs) (λ i. get_or xs i 0) (λ i. get_or ys i 0) k (omega arith) same (λ below. absurd (omega arith))

-- of a slice and a pattern
pub pattern_differs : (xs : List ℕ) (pattern from k : ℕ) → k < length xs → ((i : ℕ) → i < k → get_or xs i 0 ≡ pattern_byte pattern (from + i)) → (get_or xs k 0 ≡ pattern_byte pattern (from + k) → ⊥) → k ≡ first_unlike xs pattern from
pattern_differs xs pattern from k below same differ = unequal_is (length xs) (λ i. get_or xs i 0) (λ i. pattern_byte pattern (from + i)) k (omega arith) same (λ _. differ)

pub pattern_repeats : (xs : List ℕ) (pattern from k : ℕ) → k ≡ length xs → ((i : ℕ) → i < k → get_or xs i 0 ≡ pattern_byte pattern (from + i)) → k ≡ first_unlike xs pattern from
pattern_repeats xs pattern from k all same = unequal_is (length xs) (λ i. get_or xs i 0) (λ i. pattern_byte pattern (from + i)) k (omega arith) same (λ below. absurd (omega arith))

-- The walk over two slices: what is alike below a place grows by what a load shows.
abbrev pub AlikeBelow : List ℕ → List ℕ → ℕ → Type 0
AlikeBelow xs ys at = (i : ℕ) → i < at → get_or xs i 0 ≡ get_or ys i 0

pub alike_more : (xs ys : List ℕ) (at n : ℕ) → AlikeBelow xs ys at → AreAlike xs ys at n → AlikeBelow xs ys (at + n)
alike_more xs ys at n before more i below =
    ⊎_elim (λ low. before i low) (λ high.
    let place : at + (i - at) ≡ i = omega arith in
    sym (ap (λ k. get_or xs k 0) place) ∙ (more (i - at) (omega arith) ∙ ap (λ k. get_or ys k 0) place))
    (cases_lt i at)

-- two stretches side by side
pub both_alike : (xs ys : List ℕ) (at n m : ℕ) → AreAlike xs ys at (n + m) ↔ (AreAlike xs ys at n × AreAlike xs ys (at + n) m)
both_alike xs ys at n m = (
  λ whole. (
    λ i below. whole i (omega arith),
    λ i below. (let place : at + (n + i) ≡ at + n + i = omega arith in
        sym (ap (λ k. get_or xs k 0) place) ∙ (whole (n + i) (omega arith) ∙ ap (λ k. get_or ys k 0) place)),
  ),
  λ parts i below.
      ⊎_elim (λ low. parts.0 i low) (λ high.
      let place : at + n + (i - n) ≡ at + i = omega arith in
      sym (ap (λ k. get_or xs k 0) place) ∙ (parts.1 (i - n) (omega arith) ∙ ap (λ k. get_or ys k 0) place))
      (cases_lt i n),
)

range_read : (xs : List ℕ) (at n i : ℕ) → i < n → get_or (slice_range xs at (at + n)) i 0 ≡ get_or xs (at + i) 0
range_read xs at n i below = search (rules, places)

range_long : (xs : List ℕ) (at n : ℕ) → at + n ≤ length xs → length (slice_range xs at (at + n)) ≡ n
range_long xs at n within = search (rules, places)

-- the lanes before the first that differs
pub lanes_alike : (xs ys : List ℕ) (at n k : ℕ) → at + n ≤ length xs → k ≡ first_difference (slice_range xs at (at + n)) (slice_range ys at (at + n)) → AreAlike xs ys at k
lanes_alike xs ys at n k within is i below =
    let f : ℕ → ℕ = λ j. get_or (slice_range xs at (at + n)) j 0 in
    let g : ℕ → ℕ = λ j. get_or (slice_range ys at (at + n)) j 0 in
    let short : i < n = omega (arith, is, first_le (length (slice_range xs at (at + n))) (unequal f g), range_long xs at n within) in
    sym (range_read xs at n i short)
    ∙ (equal_before (length (slice_range xs at (at + n))) f g i (omega (arith, is)) ∙ range_read ys at n i short)

pub lane_stops : (xs ys : List ℕ) (at n k : ℕ) → at + n ≤ length xs → AlikeBelow xs ys at → k ≡ first_difference (slice_range xs at (at + n)) (slice_range ys at (at + n)) → k < n → at + k ≡ first_difference xs ys
lane_stops xs ys at n k within before is below =
    let f : ℕ → ℕ = λ j. get_or (slice_range xs at (at + n)) j 0 in
    let g : ℕ → ℕ = λ j. get_or (slice_range ys at (at + n)) j 0 in
    let long = range_long xs at n within in
    let differ : (f k == g k) ≡ false = ap (λ j. f j == g j) is ∙ unequal_here (length (slice_range xs at (at + n))) f g (omega (arith, is, long)) in
    slices_differ xs ys (at + k) (omega arith) (alike_more xs ys at k before (lanes_alike xs ys at n k within is)) (λ same.
    eqb-false (f k) (g k) differ (range_read xs at n k below ∙ (same ∙ sym (range_read ys at n k below))))

-- The walk over a slice and a pattern, whose repeated bytes stand in a block.
abbrev pub RepeatsBelow : List ℕ → ℕ → ℕ → ℕ → Type 0
RepeatsBelow xs pattern from at = (i : ℕ) → i < at → get_or xs i 0 ≡ pattern_byte pattern (from + i)

abbrev pub Repeats : List ℕ → ℕ → ℕ → Type 0
Repeats block pattern from = (i : ℕ) → i < 32 → get_or block i 0 ≡ pattern_byte pattern (from + i)

pub block_byte : (block : List ℕ) (pattern from i : ℕ) → Repeats block pattern from → get_or block (i % 32) 0 ≡ pattern_byte pattern (from + i)
block_byte block pattern from i repeats =
    let same : (from + i % 32) % 8 ≡ (from + i) % 8 = omega arith in
    repeats (i % 32) (omega arith) ∙ ap (λ k. get_or (to_le_bytes w64 pattern) k 0) same

pub repeats_more : (xs block : List ℕ) (pattern from at n : ℕ) → at % 32 ≡ 0 → Repeats block pattern from → RepeatsBelow xs pattern from at → AreRepeated xs block at n → RepeatsBelow xs pattern from (at + n)
repeats_more xs block pattern from at n whole repeats before more i below =
    ⊎_elim (λ low. before i low) (λ high.
    let place : at + (i - at) ≡ i = omega arith in
    let lane : (i - at) % 32 ≡ i % 32 = omega arith in
    sym (ap (λ k. get_or xs k 0) place)
    ∙ (more (i - at) (omega arith) ∙ (ap (λ k. get_or block k 0) lane ∙ block_byte block pattern from i repeats)))
    (cases_lt i at)

pub lanes_repeat : (xs block : List ℕ) (at k : ℕ) → at + 32 ≤ length xs → k ≡ first_difference (slice_range xs at (at + 32)) block → AreRepeated xs block at k
lanes_repeat xs block at k within is i below =
    let f : ℕ → ℕ = λ j. get_or (slice_range xs at (at + 32)) j 0 in
    let g : ℕ → ℕ = λ j. get_or block j 0 in
    let short : i < 32 = omega (arith, is, first_le (length (slice_range xs at (at + 32))) (unequal f g), range_long xs at 32 within) in
    let lane : i ≡ i % 32 = omega (arith, short) in
    sym (range_read xs at 32 i short)
    ∙ (equal_before (length (slice_range xs at (at + 32))) f g i (omega (arith, is)) ∙ ap (λ j. get_or block j 0) lane)

pub lane_unlike : (xs block : List ℕ) (pattern from at k : ℕ) → at % 32 ≡ 0 → at + 32 ≤ length xs → Repeats block pattern from → RepeatsBelow xs pattern from at → k ≡ first_difference (slice_range xs at (at + 32)) block → k < 32 → at + k ≡ first_unlike xs pattern from
lane_unlike xs block pattern from at k whole within repeats before is below =
    let f : ℕ → ℕ = λ j. get_or (slice_range xs at (at + 32)) j 0 in
    let g : ℕ → ℕ = λ j. get_or block j 0 in
    let long = range_long xs at 32 within in
    let lane : (at + k) % 32 ≡ k = omega (arith, whole, below) in
    let differ : (f k == g k) ≡ false = ap (λ j. f j == g j) is ∙ unequal_here (length (slice_range xs at (at + 32))) f g (omega (arith, is, long)) in
    pattern_differs xs pattern from (at + k) (omega arith) (repeats_more xs block pattern from at k whole repeats before (lanes_repeat xs block at k within is)) (λ same.
    eqb-false (f k) (g k) differ
    (range_read xs at 32 k below
    ∙ (same ∙ (sym (block_byte block pattern from (at + k) repeats) ∙ ap (λ j. get_or block j 0) lane))))

-- the first place in what is behind a part that repeats the pattern
rest_byte : (xs : List ℕ) (n i : ℕ) → get_or (drop n xs) i 0 ≡ get_or xs (n + i) 0
rest_byte xs n i = search (rules, places)

pub unlike_in_rest : (xs : List ℕ) (pattern from n k : ℕ) → n % 8 ≡ 0 → n ≤ length xs → RepeatsBelow xs pattern from n → k ≡ first_unlike (drop n xs) pattern from → n + k ≡ first_unlike xs pattern from
unlike_in_rest xs pattern from n k whole within before is =
    let f : ℕ → ℕ = λ j. get_or (drop n xs) j 0 in
    let g : ℕ → ℕ = λ j. pattern_byte pattern (from + j) in
    let long : length (drop n xs) ≡ length xs - n = length-drop n xs in
    let most : k ≤ length (drop n xs) = omega (arith, is, first_le (length (drop n xs)) (unequal f g)) in
    let turned : (j : ℕ) → g j ≡ pattern_byte pattern (from + (n + j)) =
    λ j. (let same : (from + j) % 8 ≡ (from + (n + j)) % 8 = omega (arith, whole) in ap (λ b. get_or (to_le_bytes w64 pattern) b 0) same) in
    let all : RepeatsBelow xs pattern from (n + k) =
    λ i below.
    ⊎_elim (λ low. before i low) (λ high.
    let place : n + (i - n) ≡ i = omega arith in
    ap (λ b. get_or xs b 0) (sym place) ∙ (sym (rest_byte xs n (i - n)) ∙ (equal_before (length (drop n xs)) f g (i - n) (omega (arith, is)) ∙ (turned (i - n) ∙ ap (λ b. pattern_byte pattern (from + b)) place))))
    (cases_lt i n) in
    ⊎_elim (λ short.
    let differ : (f k == g k) ≡ false = ap (λ j. f j == g j) is ∙ unequal_here (length (drop n xs)) f g (omega (arith, is, short)) in
    pattern_differs xs pattern from (n + k) (omega (arith, short, long)) all (λ same.
    eqb-false (f k) (g k) differ (rest_byte xs n k ∙ (same ∙ sym (turned k)))))
    (λ past. pattern_repeats xs pattern from (n + k) (omega (arith, past, most, long, within)) all)
    (cases_lt k (length (drop n xs)))

-- two stretches side by side
pub both_repeated : (xs block : List ℕ) (at n m : ℕ) → n % 32 ≡ 0 → AreRepeated xs block at (n + m) ↔ (AreRepeated xs block at n × AreRepeated xs block (at + n) m)
both_repeated xs block at n m turn = (
  λ whole. (
    λ i below. whole i (omega arith),
    λ i below. (let place : at + (n + i) ≡ at + n + i = omega arith in
        let lane : (n + i) % 32 ≡ i % 32 = omega arith in
        sym (ap (λ k. get_or xs k 0) place) ∙ (whole (n + i) (omega arith) ∙ ap (λ k. get_or block k 0) lane)),
  ),
  λ parts i below.
      ⊎_elim (λ low. parts.0 i low) (λ high.
      let place : at + n + (i - n) ≡ at + i = omega arith in
      let lane : (i - n) % 32 ≡ i % 32 = omega arith in
      sym (ap (λ k. get_or xs k 0) place) ∙ (parts.1 (i - n) (omega arith) ∙ ap (λ k. get_or block k 0) lane))
      (cases_lt i n),
)
