-- The vector operations, lane by lane.
use Rattle.std.specs.Prelude.{slice_range}
use Rattle.std.proofs.Common.{◌≡◌, ℕ, zero, suc, ◌+◌, ◌-◌, ◌*◌, ◌%◌, ◌<◌, ◌≤◌, ◌↔◌, Bool, true, false, not, cond, eqb, List, [], ◌∷◌, map, length, get_or, replicate, bit_and, refl, sym, ap, ap₂, subst, ◌∙◌, inl, inr, arith, rules, w8, eqb-true, eq-eqb}
use Rattle.std.proofs.lemmas.Bool.{cases_lt, false≢true, ne_eqb, cond-true, cond-false, not-true, not-false}
use Rattle.std.proofs.lemmas.List.{places, same_lists, ext_get_or}
use Rattle.std.proofs.lemmas.List.Sums.{prefix_len-le-length, prefix_len_passes, prefix_len_stops}
use Rattle.std.proofs.lemmas.Nat.{and_le_l, and_le_r}
use Rattle.std.proofs.lemmas.Simd.{first_set_mask_l, get_or-zip2, length-zip2, mask_l-mod, tops_compared}
use Rattle.std.specs.List.{prefix_len}
use lib.Count.{count_trailing_zeros}
use lib.Lanes.{Each1, zip2, mask_l, sel_l, top}
use mir.Val.{Fits}
use Rattle.dml_scan.specs.Lanes.{AreAlike, AreRepeated, first_difference}
use Rattle.dml_scan.proofs.LaneLemmas.{unequal_is, equal_before}

abbrev rest : List ℕ → List ℕ
rest [] = []
rest (x ∷ xs) = xs

-- both
and_full : (a b : ℕ) → a < 256 → b < 256 → (bit_and a b ≡ 255) ↔ ((a ≡ 255) × (b ≡ 255))
and_full a b low small = (λ e. omega (arith, e, and_le_l a b, and_le_r a b, low, small), λ h. rw (h.0, h.1))

pub both_full : (n : ℕ) (xs ys : List ℕ) → length xs ≡ n → length ys ≡ n → Each1 (Fits w8) xs → Each1 (Fits w8) ys → (zip2 bit_and xs ys ≡ replicate n 255) ↔ ((xs ≡ replicate n 255) × (ys ≡ replicate n 255))
both_full zero [] [] p q f g = (λ e. (refl, refl), λ h. refl)
both_full zero [] (y ∷ ys) p q f g = absurd (omega arith)
both_full zero (x ∷ xs) ys p q f g = absurd (omega arith)
both_full (suc n) [] ys p q f g = absurd (omega arith)
both_full (suc n) (x ∷ xs) [] p q f g = absurd (omega arith)
both_full (suc n) (x ∷ xs) (y ∷ ys) p q f g =
    let more = both_full n xs ys (omega arith) (omega arith) f.1 g.1 in
    let here = and_full x y f.0.fits g.0.fits in (
      λ e. (let head = here.0 (ap (λ l. get_or l 0 0) e) in
          let tail = more.0 (ap rest e) in
          (ap₂ (λ (a : ℕ) (l : List ℕ). a ∷ l) head.0 tail.0, ap₂ (λ (a : ℕ) (l : List ℕ). a ∷ l) head.1 tail.1)),
      λ h. ap₂ (λ (a : ℕ) (l : List ℕ). a ∷ l) (here.1 (ap (λ l. get_or l 0 0) h.0, ap (λ l. get_or l 0 0) h.1)) (more.1 (ap rest h.0, ap rest h.1)),
    )

-- the lanes that are alike
full_where : (b : Bool) → let full : ℕ = 255 in (cond b full 0 ≡ full) ↔ (b ≡ true)
full_where true = (λ e. refl, λ e. refl)
full_where false = (λ e. absurd (omega (arith, e)), λ e. absurd (false≢true e))

pub alike_full : (n : ℕ) (xs ys : List ℕ) → length xs ≡ n → length ys ≡ n → let full : ℕ = 255 in let none : ℕ = 0 in (sel_l (zip2 eqb xs ys) (replicate n full) (replicate n none) ≡ replicate n full) ↔ (xs ≡ ys)
alike_full zero [] [] p q = (λ e. refl, λ e. refl)
alike_full zero [] (y ∷ ys) p q = absurd (omega arith)
alike_full zero (x ∷ xs) ys p q = absurd (omega arith)
alike_full (suc n) [] ys p q = absurd (omega arith)
alike_full (suc n) (x ∷ xs) [] p q = absurd (omega arith)
alike_full (suc n) (x ∷ xs) (y ∷ ys) p q =
    let more = alike_full n xs ys (omega arith) (omega arith) in
    let here = full_where (eqb x y) in (
      λ e. ap₂ (λ (a : ℕ) (l : List ℕ). a ∷ l) (eqb-true x y (here.0 (ap (λ l. get_or l 0 0) e))) (more.0 (ap rest e)),
      λ same. ap₂ (λ (a : ℕ) (l : List ℕ). a ∷ l) (here.1 (eq-eqb x y (ap (λ l. get_or l 0 0) same))) (more.1 (ap rest same)),
    )

-- the mask of the lanes that differ
abbrev pub differs : ℕ → ℕ → ℕ
differs a b = cond (not (eqb a b)) 255 0

abbrev pub mask_of : List ℕ → List ℕ → ℕ
mask_of xs ys = mask_l (map (top 7) (zip2 differs xs ys)) % 18446744073709551616

bits_of_mask : (xs ys : List ℕ) → length xs ≡ 32 → length ys ≡ 32 → mask_of xs ys ≡ mask_l (zip2 (λ a b. not (eqb a b)) xs ys)
bits_of_mask xs ys p q =
    let bits = zip2 (λ a b. not (eqb a b)) xs ys in
    ap (λ l. mask_l l % 18446744073709551616) (tops_compared w8 (λ a b. not (eqb a b)) xs ys)
    ∙ mask_l-mod bits 64 (omega (arith, length-zip2 (λ a b. not (eqb a b)) xs ys (p ∙ sym q)))

map_same : (bits : List Bool) → map (λ b. b) bits ≡ bits
map_same [] = refl
map_same (b ∷ bits) = ap (λ r. b ∷ r) (map_same bits)

-- how many lanes come before the first that differs
prefix_is : (xs ys : List ℕ) → length xs ≡ length ys → prefix_len (λ b. not b) (zip2 (λ a b. not (eqb a b)) xs ys) ≡ first_difference xs ys
prefix_is xs ys e =
    let ne : ℕ → ℕ → Bool = λ a b. not (eqb a b) in
    let bits = zip2 ne xs ys in
    let k = prefix_len (λ b. not b) bits in
    let long : length bits ≡ length xs = length-zip2 ne xs ys e in
    let within : k ≤ length xs = omega (arith, long, prefix_len-le-length (λ b. not b) bits) in
    unequal_is (length xs) (λ i. get_or xs i 0) (λ i. get_or ys i 0) k within
    (λ i below.
    let at : get_or bits i false ≡ ne (get_or xs i 0) (get_or ys i 0) = get_or-zip2 ne xs ys i 0 0 false (omega arith) (omega arith) in
    eqb-true _ _ (not-false _ (sym at ∙ not-true _ (prefix_len_passes (λ b. not b) bits i false below))))
    (λ below same.
    let at : get_or bits k false ≡ ne (get_or xs k 0) (get_or ys k 0) = get_or-zip2 ne xs ys k 0 0 false below (omega arith) in
    let set : get_or bits k false ≡ true = not-false _ (prefix_len_stops (λ b. not b) bits false (omega (arith, long))) in
    false≢true (sym (ap not (eq-eqb _ _ same)) ∙ (sym at ∙ set)))

first_bit : (xs ys : List ℕ) → length xs ≡ 32 → length ys ≡ 32 → cond (eqb (mask_of xs ys) 0) 32 (count_trailing_zeros 64 (mask_of xs ys)) ≡ first_difference xs ys
first_bit xs ys p q =
    let bits = zip2 (λ a b. not (eqb a b)) xs ys in
    let is : mask_of xs ys ≡ mask_l (map (λ b. b) bits) = bits_of_mask xs ys p q ∙ ap mask_l (sym (map_same bits)) in
    let long : length bits ≡ 32 = length-zip2 (λ a b. not (eqb a b)) xs ys (p ∙ sym q) ∙ p in
    ap (λ m. cond (eqb m 0) 32 (count_trailing_zeros 64 m)) is
    ∙ (first_set_mask_l (λ b. b) bits 32 long (omega arith) ∙ prefix_is xs ys (p ∙ sym q))

pub no_lane : (xs ys : List ℕ) → length xs ≡ 32 → length ys ≡ 32 → mask_of xs ys ≡ 0 → 32 ≡ first_difference xs ys
no_lane xs ys p q none = sym (cond-true _ _ _ (eq-eqb _ _ none)) ∙ first_bit xs ys p q

pub some_lane : (xs ys : List ℕ) → length xs ≡ 32 → length ys ≡ 32 → (mask_of xs ys ≡ 0 → ⊥) → count_trailing_zeros 64 (mask_of xs ys) ≡ first_difference xs ys
some_lane xs ys p q some = sym (cond-false _ _ _ (ne_eqb _ _ some)) ∙ first_bit xs ys p q

-- two vectors are the same where the mask of the lanes that differ is 0
pub mask_same : (xs ys : List ℕ) → length xs ≡ 32 → length ys ≡ 32 → (mask_of xs ys ≡ 0) ↔ (xs ≡ ys)
mask_same xs ys p q = (
  λ none. ext_get_or 0 xs ys (p ∙ sym q) (λ i below. equal_before (length xs) (λ j. get_or xs j 0) (λ j. get_or ys j 0) i (omega (arith, no_lane xs ys p q none, p, below))),
  λ same. subst (λ zs. mask_of xs zs ≡ 0) same (bits_of_mask xs xs p p ∙ no_bits xs),
)
  where
    no_bits : (zs : List ℕ) → mask_l (zip2 (λ a b. not (eqb a b)) zs zs) ≡ 0
    no_bits [] = refl
    no_bits (z ∷ zs) =
        let here : not (eqb z z) ≡ false = ap not (eq-eqb z z refl) in
        ap (λ b. cond b 1 0 + 2 * mask_l (zip2 (λ a b. not (eqb a b)) zs zs)) here
        ∙ omega (arith, no_bits zs)

-- loads
range_alike : (xs ys : List ℕ) (at n : ℕ) → slice_range xs at (at + n) ≡ slice_range ys at (at + n) → AreAlike xs ys at n
range_alike xs ys at n same i below =
    sym (read xs) ∙ (ap (λ l. get_or l i 0) same ∙ read ys)
  where
    read : (zs : List ℕ) → get_or (slice_range zs at (at + n)) i 0 ≡ get_or zs (at + i) 0
    read zs = search (rules, places)

alike_range : (xs ys : List ℕ) (at n : ℕ) → at + n ≤ length xs → at + n ≤ length ys → AreAlike xs ys at n → slice_range xs at (at + n) ≡ slice_range ys at (at + n)
alike_range xs ys at n one other alike =
    same_lists _ _ (search (rules, places)) (λ k d h.
    let below : k < n = search (rules, places) in
    grind (arith, places, alike k below))

-- four loads side by side
pub step_alike : (xs ys : List ℕ) (at : ℕ) → at + 128 ≤ length xs → at + 128 ≤ length ys → ((slice_range xs at (at + 32) ≡ slice_range ys at (at + 32)) × (slice_range xs (at + 32) (at + 32 + 32) ≡ slice_range ys (at + 32) (at + 32 + 32)) × (slice_range xs (at + 64) (at + 64 + 32) ≡ slice_range ys (at + 64) (at + 64 + 32)) × (slice_range xs (at + 96) (at + 96 + 32) ≡ slice_range ys (at + 96) (at + 96 + 32))) ↔ AreAlike xs ys at 128
step_alike xs ys at one other = (
  λ h i below. elim (cases_lt i 32) [
    | inl a ↦ range_alike xs ys at 32 h.0 i a
    | inr a ↦ elim (cases_lt i 64) [
      | inl b ↦ (let place : at + 32 + (i - 32) ≡ at + i = omega arith in sym (ap (λ k. get_or xs k 0) place) ∙ (range_alike xs ys (at + 32) 32 h.1 (i - 32) (omega arith) ∙ ap (λ k. get_or ys k 0) place))
      | inr b ↦ elim (cases_lt i 96) [
        | inl c ↦ (let place : at + 64 + (i - 64) ≡ at + i = omega arith in sym (ap (λ k. get_or xs k 0) place) ∙ (range_alike xs ys (at + 64) 32 h.2 (i - 64) (omega arith) ∙ ap (λ k. get_or ys k 0) place))
        | inr c ↦ (let place : at + 96 + (i - 96) ≡ at + i = omega arith in sym (ap (λ k. get_or xs k 0) place) ∙ (range_alike xs ys (at + 96) 32 h.3 (i - 96) (omega arith) ∙ ap (λ k. get_or ys k 0) place))
      ]
    ]
  ],
  λ alike. (
    alike_range xs ys at 32 (omega arith) (omega arith) (λ i below. alike i (omega arith)),
    part 32 alike (omega arith),
    part 64 alike (omega arith),
    part 96 alike (omega arith),
  ),
)
  where
    part : (k : ℕ) → AreAlike xs ys at 128 → k ≤ 96 → slice_range xs (at + k) (at + k + 32) ≡ slice_range ys (at + k) (at + k + 32)
    part k alike within =
        alike_range xs ys (at + k) 32 (omega arith) (omega arith) (λ i below.
        let place : at + (k + i) ≡ at + k + i = omega arith in
        sym (ap (λ j. get_or xs j 0) place) ∙ (alike (k + i) (omega arith) ∙ ap (λ j. get_or ys j 0) place))

-- the same against a vector that is repeated
range_block : (xs block : List ℕ) (at : ℕ) → slice_range xs at (at + 32) ≡ block → (i : ℕ) → i < 32 → get_or xs (at + i) 0 ≡ get_or block i 0
range_block xs block at same i below = sym read ∙ ap (λ l. get_or l i 0) same
  where
    read : get_or (slice_range xs at (at + 32)) i 0 ≡ get_or xs (at + i) 0
    read = search (rules, places)

block_range : (xs block : List ℕ) (at : ℕ) → at + 32 ≤ length xs → length block ≡ 32 → ((i : ℕ) → i < 32 → get_or xs (at + i) 0 ≡ get_or block i 0) → slice_range xs at (at + 32) ≡ block
block_range xs block at within long alike =
    same_lists _ _ (search (rules, places)) (λ k d h.
    let below : k < 32 = search (rules, places) in
    grind (arith, places, alike k below))

pub step_repeated : (xs block : List ℕ) (at : ℕ) → at + 128 ≤ length xs → length block ≡ 32 → ((slice_range xs at (at + 32) ≡ block) × (slice_range xs (at + 32) (at + 32 + 32) ≡ block) × (slice_range xs (at + 64) (at + 64 + 32) ≡ block) × (slice_range xs (at + 96) (at + 96 + 32) ≡ block)) ↔ AreRepeated xs block at 128
step_repeated xs block at within long = (
  λ h i below. elim (cases_lt i 32) [
    | inl a ↦ (let lane : i ≡ i % 32 = omega arith in range_block xs block at h.0 i a ∙ ap (λ j. get_or block j 0) lane)
    | inr a ↦ elim (cases_lt i 64) [
      | inl b ↦ turned 32 i (omega arith) (omega arith) (omega arith) h.1
      | inr b ↦ elim (cases_lt i 96) [ inl c ↦ turned 64 i (omega arith) (omega arith) (omega arith) h.2 | inr c ↦ turned 96 i (omega arith) (omega arith) (omega arith) h.3 ]
    ]
  ],
  λ alike. (block_range xs block at (omega arith) long (λ i below. (let lane : i % 32 ≡ i = omega arith in alike i (omega arith) ∙ ap (λ j. get_or block j 0) lane)), part 32 alike (omega arith) (omega arith), part 64 alike (omega arith) (omega arith), part 96 alike (omega arith) (omega arith)),
)
  where
    turned : (k i : ℕ) → k ≤ i → i < k + 32 → k % 32 ≡ 0 → slice_range xs (at + k) (at + k + 32) ≡ block → get_or xs (at + i) 0 ≡ get_or block (i % 32) 0
    turned k i low high whole same =
        let place : at + k + (i - k) ≡ at + i = omega arith in
        let lane : i - k ≡ i % 32 = omega arith in
        sym (ap (λ j. get_or xs j 0) place) ∙ (range_block xs block (at + k) same (i - k) (omega arith) ∙ ap (λ j. get_or block j 0) lane)

    part : (k : ℕ) → AreRepeated xs block at 128 → k ≤ 96 → k % 32 ≡ 0 → slice_range xs (at + k) (at + k + 32) ≡ block
    part k alike short whole =
        block_range xs block (at + k) (omega arith) long (λ i below.
        let place : at + (k + i) ≡ at + k + i = omega arith in
        let lane : (k + i) % 32 ≡ i = omega arith in
        sym (ap (λ j. get_or xs j 0) place) ∙ (alike (k + i) (omega arith) ∙ ap (λ j. get_or block j 0) lane))

-- two vectors that were loaded
pub loaded : (x y s t : List ℕ) → x ≡ s → y ≡ t → (x ≡ y) ↔ (s ≡ t)
loaded x y s t at_x at_y = (λ e. sym at_x ∙ (e ∙ at_y), λ e. at_x ∙ (e ∙ sym at_y))
