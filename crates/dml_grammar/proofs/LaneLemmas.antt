-- Laws of lanes: from the bits of a comparison to a test of each byte, and operations lane by lane.
use Rattle.std.proofs.Common.{◌≡◌, ℕ, zero, suc, ◌+◌, ◌-◌, ◌*◌, ◌/◌, ◌%◌, ◌^◌, ◌<◌, ◌≤◌, List, [], ◌∷◌, length, drop, get_or, map, eqb, nat_eq, refl, sym, ◌∙◌, ap, ap₂, arith, Bool, true, false, not, ◌&&◌, ◌||◌, cond, inl, inr, Fits, w8}
use Rattle.std.specs.List.{list_all, prefix_len}
use Rattle.std.specs.Char.{is_digit}
use Rattle.std.proofs.lemmas.Bool.{agree_below, agree_below_at, ne_eqb, and_parts, both_ways, cases_Bool, cases_lt, eqb-true}
use Rattle.std.proofs.lemmas.List.{length-map}
use Rattle.std.proofs.lemmas.List.Elements.{All-drop, All-from_get_or, All-take}
use Rattle.std.proofs.lemmas.List.Sums.{AllPass-from_list_all, list_all-from_AllPass}
use Rattle.std.proofs.lemmas.Simd.{first_set_mask_l, get_or-chunk, length-chunk, map-map, mask_l-mod}
use lib.Lanes.{Each1, chunk, mask_l, sel_l, top}
use Rattle.dml_grammar.specs.Digits.{worth}
use Rattle.dml_grammar.specs.Lanes.{lowest_or}

halves : (n : ℕ) → eqb (0 + 2 * n) 0 ≡ eqb n 0
halves zero = refl
halves (suc n) = ne_eqb _ _ (λ e. omega arith) ∙ sym (ne_eqb _ _ (λ e. omega arith))

-- no bit is set where no lane passes
mask_none : (p : ℕ → Bool) (v : List ℕ) → eqb (mask_l (map p v)) 0 ≡ list_all (λ x. not (p x)) v
mask_none p [] = refl
mask_none p (x ∷ v) = elim (p x) as (λ b. eqb (cond b 1 0 + 2 * mask_l (map p v)) 0 ≡ (not b && list_all (λ x. not (p x)) v)) [
  | true ↦ ne_eqb _ _ (λ e. omega arith)
  | false ↦ halves (mask_l (map p v)) ∙ mask_none p v
]

list_all_same : (s p : ℕ → Bool) (v : List ℕ) → Each1 (Fits w8) v → ((x : ℕ) → x < 256 → s x ≡ p x) → list_all s v ≡ list_all p v
list_all_same s p [] fits same = refl
list_all_same s p (x ∷ v) fits same = rw (same x (fits.0).fits, list_all_same s p v fits.1 same) refl

-- the bits of a comparison that was made lane by lane are all 0 where each byte passes a test, which holds just where
-- the comparison fails
pub none_set : (f : ℕ → ℕ) (p : ℕ → Bool) (v z : List ℕ) → length v ≤ 64 → Each1 (Fits w8) v → z ≡ map f v
    → agree_below (λ x. not (top 7 (f x))) p 256 ≡ true → eqb (mask_l (map (top 7) z) % 2 ^ 64) 0 ≡ list_all p v
none_set f p v z few fits lanes all =
    let mask : mask_l (map (top 7) z) % 2 ^ 64 ≡ mask_l (map (λ x. top 7 (f x)) v) =
    ap (λ l. mask_l (map (top 7) l) % 2 ^ 64) lanes ∙ ap (λ l. mask_l l % 2 ^ 64) (map-map (top 7) f v)
    ∙ mask_l-mod (map (λ x. top 7 (f x)) v) 64 (omega (arith, length-map v (λ x. top 7 (f x)))) in
    ap (λ n. eqb n 0) mask ∙ mask_none (λ x. top 7 (f x)) v
    ∙ list_all_same (λ x. not (top 7 (f x))) p v fits (λ x low. agree_below_at (λ x. not (top 7 (f x))) p 256 x all low)

-- a choice lane by lane
sel_maps : (m g h : ℕ → ℕ) (v : List ℕ) → sel_l (map (top 7) (map m v)) (map g v) (map h v) ≡ map (λ x. cond (top 7 (m x)) (g x) (h x)) v
sel_maps m g h [] = refl
sel_maps m g h (x ∷ v) = ap (λ r. cond (top 7 (m x)) (g x) (h x) ∷ r) (sel_maps m g h v)

pub chosen : (m g h : ℕ → ℕ) (v : List ℕ) {ms xs ys : List ℕ} → ms ≡ map m v → xs ≡ map g v → ys ≡ map h v
    → sel_l (map (top 7) ms) xs ys ≡ map (λ x. cond (top 7 (m x)) (g x) (h x)) v
chosen m g h v is left right = rw (is, left, right) (sel_maps m g h v)

on_digits : (a b : Bool) → a ≡ true → (not a || b) ≡ true → b ≡ true
on_digits true b is all = all
on_digits false b is all = cc

-- what digits are worth, where a function of each lane agrees with that on digits
pub worth_of_digits : (f : ℕ → ℕ) (v : List ℕ) → Each1 (Fits w8) v → list_all (λ c. is_digit c 16) v ≡ true
    → agree_below (λ x. not (is_digit x 16) || nat_eq (f x) (worth x)) (λ _. true) 256 ≡ true → map f v ≡ map worth v
worth_of_digits f [] fits digits all = refl
worth_of_digits f (x ∷ v) fits digits all =
    let parts = and_parts (is_digit x 16) (list_all (λ c. is_digit c 16) v) digits in
    let here : (not (is_digit x 16) || nat_eq (f x) (worth x)) ≡ true =
    agree_below_at (λ x. not (is_digit x 16) || nat_eq (f x) (worth x)) (λ _. true) 256 x all (fits.0).fits in
    let same : nat_eq (f x) (worth x) ≡ true = on_digits (is_digit x 16) (nat_eq (f x) (worth x)) parts.0 here in
    ap₂ (λ (y : ℕ) (ys : List ℕ). y ∷ ys) (eqb-true (f x) (worth x) same) (worth_of_digits f v fits.1 parts.1 all)

-- a part whose bytes do not all pass a test
pub part_fails : (p : ℕ → Bool) (xs : List ℕ) (i n : ℕ) → list_all p (chunk i n xs) ≡ false → list_all p xs ≡ false
part_fails p xs i n fails =
    elim (cases_Bool (list_all p xs)) [
      | inl all ↦
          absurd (both_ways _ fails (list_all-from_AllPass p (chunk i n xs)
          (All-take (λ x. p x ≡ true) n (drop i xs) (All-drop (λ x. p x ≡ true) i xs (AllPass-from_list_all p xs all)))))
      | inr not_all ↦ not_all
    ]

-- a place of a part whose bytes all pass a test
part_passes : (p : ℕ → Bool) (xs : List ℕ) (i n k : ℕ) → i + n ≤ length xs → list_all p (chunk i n xs) ≡ true → i ≤ k → k < i + n
    → p (get_or xs k 0) ≡ true
part_passes p xs i n k room all from to =
    let long : length (chunk i n xs) ≡ n = length-chunk i n xs room in
    let back : i + (k - i) ≡ k = omega arith in
    let at : get_or (chunk i n xs) (k - i) 0 ≡ get_or xs k 0 = get_or-chunk i n xs (k - i) 0 (omega arith) ∙ ap (λ j. get_or xs j 0) back in
    rw at at (AllPass-from_list_all p (chunk i n xs) all (k - i) 0 (omega arith))

-- one step more of a test of all bytes
pub passes_more : (p : ℕ → Bool) (xs : List ℕ) (step : ℕ) → 16 * step + 16 ≤ length xs → list_all p (chunk (16 * step) 16 xs) ≡ true
    → ((k : ℕ) → k < 16 * step → p (get_or xs k 0) ≡ true) → (k : ℕ) → k < 16 * (step + 1) → p (get_or xs k 0) ≡ true
passes_more p xs step room all before = λ k low.
    elim (cases_lt k (16 * step)) [
      | inl early ↦ before k early
      | inr late ↦ part_passes p xs (16 * step) 16 k room all late (omega arith)
    ]

-- the last 16 bytes decide, behind the whole steps
pub last_decides : (p : ℕ → Bool) (xs : List ℕ) (step : ℕ) → 16 ≤ length xs → length xs / 16 ≤ step
    → ((k : ℕ) → k < 16 * step → p (get_or xs k 0) ≡ true) → list_all p (chunk (length xs - 16) 16 xs) ≡ list_all p xs
last_decides p xs step some past before =
    elim (cases_Bool (list_all p (chunk (length xs - 16) 16 xs))) [
      | inl all ↦
          all ∙ sym (list_all-from_AllPass p xs (All-from_get_or (λ x. p x ≡ true) xs 0 (λ k within.
          elim (cases_lt k (16 * step)) [
            | inl early ↦ before k early
            | inr late ↦ part_passes p xs (length xs - 16) 16 k (omega arith) all (omega arith) (omega arith)
          ])))
      | inr not_all ↦ not_all ∙ sym (part_fails p xs (length xs - 16) 16 not_all)
    ]

map_agrees : (s p : ℕ → Bool) (v : List ℕ) → Each1 (Fits w8) v → ((x : ℕ) → x < 256 → s x ≡ p x) → map s v ≡ map p v
map_agrees s p [] fits same = refl
map_agrees s p (x ∷ v) fits same = ap₂ (λ (b : Bool) (bs : List Bool). b ∷ bs) (same x (fits.0).fits) (map_agrees s p v fits.1 same)

-- the lowest bit of a comparison that was made lane by lane counts the bytes before the first that passes a test
pub first_lane : (f : ℕ → ℕ) (p : ℕ → Bool) (v z : List ℕ) (r n : ℕ) → length v ≡ n → n ≤ 64 → Each1 (Fits w8) v → z ≡ map f v
    → agree_below (λ x. top 7 (f x)) p 256 ≡ true → r ≡ lowest_or n (mask_l (map (top 7) z) % 2 ^ 64) → r ≡ prefix_len (λ x. not (p x)) v
first_lane f p v z r n long few fits lanes all is =
    let bits : map (top 7) z ≡ map p v =
    ap (map (top 7)) lanes ∙ map-map (top 7) f v ∙ map_agrees (λ x. top 7 (f x)) p v fits (λ x low. agree_below_at (λ x. top 7 (f x)) p 256 x all low) in
    let mask : mask_l (map (top 7) z) % 2 ^ 64 ≡ mask_l (map p v) =
    ap (λ l. mask_l l % 2 ^ 64) bits ∙ mask_l-mod (map p v) 64 (omega (arith, length-map v p)) in
    is ∙ ap (lowest_or n) mask ∙ first_set_mask_l p v n long few
