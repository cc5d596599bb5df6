-- Laws of numbers: that of 20 digits, and numbers up to a largest.
use Rattle.std.proofs.Common.{◌≡◌, ℕ, ◌+◌, ◌*◌, ◌<◌, ◌≤◌, ◌^◌, List, [], ◌∷◌, length, get_or, take, drop, refl, sym, ◌∙◌, ap, ap₂, arith, Bool, true, false, ◌&&◌, if◌then◌else◌, Option, Some, None, inl, inr}
use Rattle.std.specs.List.{list_all}
use Rattle.std.specs.Char.{is_digit, digit_value}
use Rattle.std.specs.Option.{option_map, option_and_then, SomeIff}
use Rattle.std.specs.Str.Parse.{digits_value}
use Rattle.std.proofs.lemmas.Bool.{lt-leb, le-leb, cases_lt, cases_Bool}
use Rattle.std.proofs.lemmas.Int.Digits.{digits_value_more}
use Rattle.std.proofs.lemmas.List.{take_all, drop_all, drop_more}
use Rattle.std.proofs.lemmas.List.Folds.{list_all_more}
use Rattle.dml_grammar.specs.Digits.{number_of}
use Rattle.dml_grammar.specs.Number.{at_most}

abbrev greatest : ℕ
greatest = 0xffff_ffff_ffff_ffff

one_digit : (c : ℕ) → number_of 10 (c ∷ []) ≡ (if is_digit c 10 then Some (digit_value c) else None)
one_digit c =
    let value : digits_value 10 (c ∷ []) ≡ digit_value c = omega arith in
    elim (cases_Bool (is_digit c 10)) [
      | inl is ↦ rw is (ap Some value)
      | inr other ↦ rw other refl
    ]

both_parts : (a b : Bool) (front last : ℕ)
    → (if a && b then Some (front * 10 + last) else None)
    ≡ option_and_then (λ f. option_map (λ l. f * 10 + l) (if b then Some last else None)) (if a then Some front else None)
both_parts true true front last = refl
both_parts true false front last = refl
both_parts false b front last = refl

above : (front last : ℕ) → ¬ (front * 10 + last < 2 ^ 64) → greatest < front * 10 + last
above front last big =
    elim (cases_lt (front * 10 + last) (2 ^ 64)) [ inl low ↦ absurd (big low) | inr high ↦ omega arith ]

-- 20 digits are 19 and one more
pub long_number_is : (ds : List ℕ) → length ds ≡ 20
    → number_of 10 ds ≡ option_and_then (λ front. option_map (λ last. front * 10 + last) (number_of 10 (drop 19 ds))) (number_of 10 (take 19 ds))
long_number_is ds long =
    let whole : take (19 + 1) ds ≡ ds = take_all (19 + 1) ds (omega arith) in
    let one : drop 19 ds ≡ get_or ds 19 0 ∷ [] = drop_more ds 19 0 (omega arith) ∙ ap (λ rest. get_or ds 19 0 ∷ rest) (drop_all (19 + 1) ds (omega arith)) in
    let all : list_all (λ c. is_digit c 10) ds ≡ (list_all (λ c. is_digit c 10) (take 19 ds) && is_digit (get_or ds 19 0) 10) =
    ap (list_all (λ c. is_digit c 10)) (sym whole) ∙ list_all_more (λ c. is_digit c 10) ds 19 0 (omega arith) in
    let value : digits_value 10 ds ≡ digits_value 10 (take 19 ds) * 10 + digit_value (get_or ds 19 0) =
    ap (digits_value 10) (sym whole) ∙ digits_value_more 10 ds 19 (omega arith) in
    let last : number_of 10 (drop 19 ds) ≡ (if is_digit (get_or ds 19 0) 10 then Some (digit_value (get_or ds 19 0)) else None) =
    ap (number_of 10) one ∙ one_digit (get_or ds 19 0) in
    ap₂ (λ (b : Bool) (v : ℕ). if b then Some v else None) all value
    ∙ both_parts (list_all (λ c. is_digit c 10) (take 19 ds)) (is_digit (get_or ds 19 0) 10) (digits_value 10 (take 19 ds)) (digit_value (get_or ds 19 0))
    ∙ ap (λ (o : Option ℕ). option_and_then (λ front. option_map (λ last. front * 10 + last) o) (number_of 10 (take 19 ds))) (sym last)

whole_is : (ds : List ℕ) (front last : ℕ) → length ds ≡ 20 → Some front ≡ number_of 10 (take 19 ds) → Some last ≡ number_of 10 (drop 19 ds)
    → number_of 10 ds ≡ Some (front * 10 + last)
whole_is ds front last long first second = long_number_is ds long ∙ rw (← first, ← second) refl

-- a product or a sum that does not fit is that of no number of 64 bits
pub long_product : (ds : List ℕ) (front last : ℕ) → length ds ≡ 20 → Some front ≡ number_of 10 (take 19 ds) → Some last ≡ number_of 10 (drop 19 ds)
    → ¬ (front * 10 < 2 ^ 64) → None ≡ at_most greatest (number_of 10 ds)
long_product ds front last long first second big =
    rw (whole_is ds front last long first second)
    (rw (lt-leb (front * 10 + last) greatest (above front last (λ low. big (omega arith)))) refl)

pub long_sum : (ds : List ℕ) (front last product : ℕ) (sum : Option ℕ) → length ds ≡ 20 → Some front ≡ number_of 10 (take 19 ds)
    → Some last ≡ number_of 10 (drop 19 ds) → product ≡ front * 10 → SomeIff sum (product + last < 2 ^ 64) (product + last)
    → sum ≡ at_most greatest (number_of 10 ds)
long_sum ds front last product None long first second is big =
    rw (whole_is ds front last long first second)
    (rw (lt-leb (front * 10 + last) greatest (above front last (λ low. big (omega arith)))) refl)
long_sum ds front last product (Some s) long first second is fits =
    let low : front * 10 + last ≤ greatest = omega (arith, fits.0) in
    rw (whole_is ds front last long first second)
    (rw (le-leb (front * 10 + last) greatest low) (ap Some (let e : s ≡ front * 10 + last = omega (arith, fits.1) in e)))

pub at_most_again : (largest : ℕ) (number : Option ℕ) → largest ≤ greatest → at_most largest (at_most greatest number) ≡ at_most largest number
at_most_again largest None small = refl
at_most_again largest (Some n) small =
    elim (cases_lt greatest n) as (λ _. at_most largest (at_most greatest (Some n)) ≡ at_most largest (Some n)) [
      | inl high ↦ rw (lt-leb n greatest high, lt-leb n largest (omega arith)) refl
      | inr low ↦ rw (le-leb n greatest low) refl
    ]
