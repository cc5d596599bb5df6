-- Laws of hexadecimal text: pairs of digits, and the bytes that they write.
use Rattle.std.proofs.Common.{◌≡◌, ℕ, zero, suc, ◌+◌, ◌-◌, ◌*◌, ◌%◌, ◌<◌, ◌≤◌, List, [], ◌∷◌, ◌++◌, length, map, get_or, set, refl, sym, ◌∙◌, ap, ap₂, subst, arith, Bool, true, false, Some, None, Result, Ok, Err, inl, inr}
use Rattle.std.specs.Char.{is_digit}
use Rattle.std.specs.List.{list_all}
use Rattle.std.specs.Result.{result_ok}
use Rattle.std.proofs.lemmas.Bool.{cases_lt, cases_eq, both_ways, and_parts, ltb-true}
use Rattle.std.proofs.lemmas.Bool.Decides.{nat_tests}
use Rattle.std.proofs.lemmas.List.{get_or_append_left, get_or-map, get_or-set_same, get_or-set_other}
use Rattle.std.proofs.lemmas.List.Folds.{list_all_at}
use Rattle.std.proofs.lemmas.List.Sums.{AllPass-from_list_all, list_all-from_AllPass}
use Rattle.std.proofs.lemmas.Simd.{length-chunk, get_or-chunk, get_or-put_chunk_below, get_or-put_chunk_at}
use lib.Lanes.{chunk, put_chunk}
use Rattle.hex.specs.Hex.{decode_of, decode_pairs, hex_digit_value, is_hex_digit, pair_value}
use Rattle.hex.proofs.HexLemmas.{decode_of-even, decode_of-ok}
use Rattle.hex.proofs.Pairs.{cons_byte, decode_pairs-ok_pair}
use Rattle.hex.specs.declared.error.FromHexError.{FromHexError}
use Rattle.dml_grammar.specs.Digits.{worth, IsPairAt, HasPairs}
use Rattle.dml_grammar.proofs.DigitLemmas.{digit_from_worth, no_digit_from_worth}

abbrev is_hexadecimal : ℕ → Bool
is_hexadecimal c = is_digit c 16

same_digits : (c : ℕ) → is_hex_digit c ≡ is_hexadecimal c
same_digits c = grind (arith, nat_tests)

value_of_digit : (c : ℕ) → is_hexadecimal c ≡ true → hex_digit_value c ≡ Some (worth c)
value_of_digit c digit = grind (arith, nat_tests)

-- one of eight elements
pub one_of_eight : (g : ℕ → ℕ) (j : ℕ) → j < 8 → get_or (g 0 ∷ g 1 ∷ g 2 ∷ g 3 ∷ g 4 ∷ g 5 ∷ g 6 ∷ g 7 ∷ []) j 0 ≡ g j
one_of_eight g zero low = refl
one_of_eight g (suc zero) low = refl
one_of_eight g (suc (suc zero)) low = refl
one_of_eight g (suc (suc (suc zero))) low = refl
one_of_eight g (suc (suc (suc (suc zero)))) low = refl
one_of_eight g (suc (suc (suc (suc (suc zero))))) low = refl
one_of_eight g (suc (suc (suc (suc (suc (suc zero)))))) low = refl
one_of_eight g (suc (suc (suc (suc (suc (suc (suc zero))))))) low = refl
one_of_eight g (suc (suc (suc (suc (suc (suc (suc (suc j)))))))) low = absurd (omega arith)

-- the byte of two values of a list that stands twice in a row
pub pair_of_values : (v : List ℕ) (k : ℕ) → k + 1 < length v → ((i : ℕ) → get_or v i 0 < 16)
    → (get_or (v ++ v) k 0 * 16 % 256 + get_or (v ++ v) (k + 1) 0) % 256 ≡ get_or v k 0 * 16 + get_or v (k + 1) 0
pair_of_values v k within small =
    let first = get_or_append_left v v 0 k (omega arith) in
    let second = get_or_append_left v v 0 (k + 1) within in
    let high = small k in
    let low = small (k + 1) in
    rw (first, second) (omega (arith, high, low))

pub values_are_small : (v : List ℕ) → list_all is_hexadecimal v ≡ true → (k : ℕ) → get_or (map worth v) k 0 < 16
values_are_small [] all k = omega arith
values_are_small (x ∷ v) all zero =
    let parts = and_parts (is_hexadecimal x) (list_all is_hexadecimal v) all in
    rw parts.0 (ltb-true _ _ parts.0)
values_are_small (x ∷ v) all (suc k) = values_are_small v (and_parts (is_hexadecimal x) (list_all is_hexadecimal v) all).1 k

-- a text of digits has one at each place
digit_at : (xs : List ℕ) (k : ℕ) → list_all is_hexadecimal xs ≡ true → k < length xs → is_hexadecimal (get_or xs k 0) ≡ true
digit_at xs k all within = AllPass-from_list_all is_hexadecimal xs all k 0 within

-- the place of a digit in a word, and in a step of it
place_in_step : (word : List ℕ) (step m k : ℕ) → 16 * step + 16 ≤ length word → k < 16
    → list_all is_hexadecimal (chunk (16 * step) 16 word) ≡ true
    → (is_hexadecimal (get_or word (16 * step + k) 0) ≡ true)
    × (get_or (map worth (chunk (16 * step) 16 word)) k 0 ≡ worth (get_or word (16 * step + k) 0))
place_in_step word step m k room low all =
    let long : length (chunk (16 * step) 16 word) ≡ 16 = length-chunk (16 * step) 16 word room in
    let at : get_or (chunk (16 * step) 16 word) k 0 ≡ get_or word (16 * step + k) 0 = get_or-chunk (16 * step) 16 word k 0 low in (
      rw at at (digit_at (chunk (16 * step) 16 word) k all (omega arith)),
      get_or-map worth (chunk (16 * step) 16 word) k 0 0 (omega arith) ∙ ap worth at,
    )

-- the pair of a byte that a step makes
pair_in_step : (word bytes out : List ℕ) (step m : ℕ) → length word ≡ 2 * length bytes → 16 * step + 16 ≤ length word → m < 8 → length out ≡ 8
    → list_all is_hexadecimal (chunk (16 * step) 16 word) ≡ true
    → get_or out m 0 ≡ get_or (map worth (chunk (16 * step) 16 word)) (2 * m) 0 * 16 + get_or (map worth (chunk (16 * step) 16 word)) (2 * m + 1) 0
    → IsPairAt word (put_chunk (8 * step) bytes out) (8 * step + m)
pair_in_step word bytes out step m twice room low long all is =
    let first = place_in_step word step m (2 * m) room (omega arith) all in
    let second = place_in_step word step m (2 * m + 1) room (omega arith) all in
    let here : 2 * (8 * step + m) ≡ 16 * step + 2 * m = omega arith in
    let next : 2 * (8 * step + m) + 1 ≡ 16 * step + (2 * m + 1) = omega arith in
    let put : get_or (put_chunk (8 * step) bytes out) (8 * step + m) 0 ≡ get_or out m 0 = get_or-put_chunk_at (8 * step) bytes out m 0 (omega arith) (omega arith) in (
      subst (λ (k : ℕ). is_hexadecimal (get_or word k 0) ≡ true) (sym here) first.0,
      subst (λ (k : ℕ). is_hexadecimal (get_or word k 0) ≡ true) (sym next) second.0,
      put ∙ is ∙ ap₂ (λ (a : ℕ) (b : ℕ). a * 16 + b) (first.1 ∙ ap (λ (k : ℕ). worth (get_or word k 0)) (sym here))
          (second.1 ∙ ap (λ (k : ℕ). worth (get_or word k 0)) (sym next)),
    )

-- one step more
pub step_more : (word bytes out : List ℕ) (step : ℕ) → length word ≡ 2 * length bytes → 16 * step + 16 ≤ length word → length out ≡ 8
    → list_all is_hexadecimal (chunk (16 * step) 16 word) ≡ true
    → ((m : ℕ) → m < 8
    → get_or out m 0 ≡ get_or (map worth (chunk (16 * step) 16 word)) (2 * m) 0 * 16 + get_or (map worth (chunk (16 * step) 16 word)) (2 * m + 1) 0)
    → HasPairs word bytes (8 * step) → HasPairs word (put_chunk (8 * step) bytes out) (8 * (step + 1))
step_more word bytes out step twice room long all made before = λ j low.
    elim (cases_lt j (8 * step)) [
      | inl early ↦
          let same : get_or (put_chunk (8 * step) bytes out) j 0 ≡ get_or bytes j 0 = get_or-put_chunk_below (8 * step) bytes out j 0 early in
          let was = before j early in (was.0, was.1, same ∙ was.2)
      | inr late ↦
          let at : 8 * step + (j - 8 * step) ≡ j = omega arith in
          subst (IsPairAt word (put_chunk (8 * step) bytes out)) at
          (pair_in_step word bytes out step (j - 8 * step) twice room (omega arith) long all (made (j - 8 * step) (omega arith)))
    ]

-- one pair more
pub pair_more : (word bytes : List ℕ) (i : ℕ) → length word ≡ 2 * length bytes → i < length bytes → worth (get_or word (2 * i) 0) ≤ 15
    → worth (get_or word (2 * i + 1) 0) ≤ 15 → HasPairs word bytes i
    → HasPairs word (set bytes i (worth (get_or word (2 * i) 0) * 16 + worth (get_or word (2 * i + 1) 0))) (i + 1)
pair_more word bytes i twice within high low before = λ j below.
    elim (cases_eq j i) [
      | inl here ↦
          subst (IsPairAt word (set bytes i (worth (get_or word (2 * i) 0) * 16 + worth (get_or word (2 * i + 1) 0)))) (sym here) (
            (digit_from_worth 16 (get_or word (2 * i) 0) (omega arith) (omega (arith, high))).0,
            (digit_from_worth 16 (get_or word (2 * i + 1) 0) (omega arith) (omega (arith, low))).0,
            get_or-set_same bytes i _ 0 within,
          )
      | inr other ↦
          let was = before j (omega arith) in (was.0, was.1, get_or-set_other bytes i j _ 0 other ∙ was.2)
    ]

pub digit_fails : (word : List ℕ) (k : ℕ) → k < length word → 15 < worth (get_or word k 0) → list_all is_hexadecimal word ≡ false
digit_fails word k within high = list_all_at is_hexadecimal word k 0 within (no_digit_from_worth 16 (get_or word k 0) (omega arith) (omega (arith, high)))

-- pairs of digits decode to their bytes
by_pairs : (i : ℕ) (s out : List ℕ) → length s ≡ 2 * length out → HasPairs s out (length out) → decode_pairs i s ≡ Ok out
unfolding decode_pairs
by_pairs i [] [] twice pairs = refl
by_pairs i [] (v ∷ out) twice pairs = absurd (omega arith)
by_pairs i (a ∷ s) [] twice pairs = absurd (omega arith)
by_pairs i (a ∷ []) (v ∷ out) twice pairs = absurd (omega arith)
by_pairs i (a ∷ b ∷ s) (v ∷ out) twice pairs =
    let here = pairs 0 (omega arith) in
    let pair : pair_value a b i ≡ Ok (worth a * 16 + worth b) = rw (value_of_digit a here.0, value_of_digit b here.1) refl in
    let rest : HasPairs s out (length out) = λ j low.
    let double : 2 * suc j ≡ suc (suc (2 * j)) = omega arith in
    let more : 2 * suc j + 1 ≡ suc (suc (2 * j + 1)) = omega arith in
    let there = pairs (suc j) (omega arith) in (
      subst (λ (k : ℕ). is_hexadecimal (get_or (a ∷ b ∷ s) k 0) ≡ true) double there.0,
      subst (λ (k : ℕ). is_hexadecimal (get_or (a ∷ b ∷ s) k 0) ≡ true) more there.1,
      there.2 ∙ ap₂ (λ (x : ℕ) (y : ℕ). worth (get_or (a ∷ b ∷ s) x 0) * 16 + worth (get_or (a ∷ b ∷ s) y 0)) double more,
    ) in
    decode_pairs-ok_pair i a b (worth a * 16 + worth b) s pair ∙ ap (cons_byte (worth a * 16 + worth b)) (by_pairs (i + 2) s out (omega arith) rest)
    ∙ ap (λ (w : ℕ). Ok (w ∷ out)) (sym here.2)

pub decoded_by_pairs : (s out : List ℕ) (n : ℕ) → length s ≡ 2 * length out → length out ≤ n → HasPairs s out n → result_ok (decode_of s) ≡ Some out
decoded_by_pairs s out n twice past pairs =
    ap result_ok (decode_of-even s (omega arith) ∙ by_pairs 0 s out twice (λ j low. pairs j (omega arith)))

-- a text with a byte that is no digit does not decode
refused : (s : List ℕ) → list_all is_hexadecimal s ≡ false → (r : Result (List ℕ) FromHexError) → decode_of s ≡ r → result_ok r ≡ None
refused s fails (Err e) is = refl
refused s fails (Ok bytes) is =
    absurd (both_ways _ fails (list_all-from_AllPass is_hexadecimal s (λ k d low. sym (same_digits (get_or s k d)) ∙ (decode_of-ok s bytes is).1 k d low)))

pub not_decoded : (s : List ℕ) → list_all is_hexadecimal s ≡ false → result_ok (decode_of s) ≡ None
not_decoded s fails = refused s fails (decode_of s) refl
