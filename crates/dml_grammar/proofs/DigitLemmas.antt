-- Laws of digits: what bytes are worth, and numbers digit by digit.
use Rattle.std.proofs.Common.{◌≡◌, ℕ, ◌+◌, ◌*◌, ◌<◌, ◌≤◌, ◌^◌, List, [], ◌∷◌, length, get_or, take, refl, sym, ◌∙◌, ap₂, arith, true, false, nat_eq, inl, inr}
use Rattle.std.specs.List.{list_all}
use Rattle.std.specs.Char.{is_digit, digit_value}
use Rattle.std.specs.Str.Parse.{digits_value, AllDigits}
use Rattle.std.proofs.Math.Nat.{mul-le-mul_left, pow-le-pow_right}
use Rattle.std.proofs.lemmas.Bool.{agree_below, agree_below_at, eqb-true, ltb-true, lt-ltb, le-ltb, and_parts, cases_lt}
use Rattle.std.proofs.lemmas.Grind.{pow_more}
use Rattle.std.proofs.lemmas.Int.Digits.{digits_value-lt, digits_value_more}
use Rattle.std.proofs.lemmas.List.{length-take}
use Rattle.std.proofs.lemmas.List.Folds.{list_all_more}
use Rattle.dml_grammar.specs.Digits.{worth}

-- a table that was held against the definition at each of the 256 bytes, by computing
pub worth_in_table : (table : List ℕ) (b : ℕ) → b < 256 → agree_below (λ k. nat_eq (get_or table k 0) (worth k)) (λ _. true) 256 ≡ true
    → get_or table b 0 ≡ worth b
worth_in_table table b low all = eqb-true _ _ (agree_below_at (λ k. nat_eq (get_or table k 0) (worth k)) (λ _. true) 256 b all low)

-- a byte that is worth less than the radix is a digit of it
pub digit_from_worth : (radix c : ℕ) → radix ≤ 16 → worth c < radix → (is_digit c radix ≡ true) × (digit_value c ≡ worth c)
digit_from_worth radix c most low =
    elim (cases_lt (digit_value c) 16) [
      | inl small ↦ let e : worth c ≡ digit_value c = rw (lt-ltb _ _ small) refl in (lt-ltb _ _ (omega arith), sym e)
      | inr large ↦ absurd (let e : worth c ≡ 255 = rw (le-ltb _ _ large) refl in omega arith)
    ]

pub no_digit_from_worth : (radix c : ℕ) → radix ≤ 16 → radix ≤ worth c → is_digit c radix ≡ false
no_digit_from_worth radix c most high =
    elim (cases_lt (digit_value c) 16) [
      | inl small ↦ let e : worth c ≡ digit_value c = rw (lt-ltb _ _ small) refl in le-ltb _ _ (omega arith)
      | inr large ↦ le-ltb _ _ (omega arith)
    ]

pub all_digits : (radix : ℕ) (ds : List ℕ) → list_all (λ c. is_digit c radix) ds ≡ true → AllDigits radix ds
all_digits radix [] all = tt
all_digits radix (c ∷ cs) all =
    let parts = and_parts (is_digit c radix) (list_all (λ c. is_digit c radix) cs) all in
    (ltb-true _ _ parts.0, all_digits radix cs parts.1)

-- the number of digits so far is below the power of their number
pub below_power : (radix : ℕ) (ds : List ℕ) (i : ℕ) → 2 ≤ radix → i < length ds → radix ^ length ds ≤ 2 ^ 64
    → list_all (λ c. is_digit c radix) (take i ds) ≡ true → digits_value radix (take i ds) * radix + radix ≤ 2 ^ 64
below_power radix ds i least within few all =
    let below = digits_value-lt radix (take i ds) (all_digits radix (take i ds) all) in
    let long : length (take i ds) ≡ i = omega (arith, length-take i ds) in
    let more : radix ^ (i + 1) ≤ radix ^ length ds = pow-le-pow_right (omega arith) (omega arith) in
    let next : radix ^ (i + 1) ≡ radix ^ i * radix = pow_more radix i in
    let here : digits_value radix (take i ds) < radix ^ i = rw long at below in
    let up : radix * (digits_value radix (take i ds) + 1) ≤ radix * radix ^ i = mul-le-mul_left radix (omega arith) in
    omega (arith, up)

pub few_digits : (radix most : ℕ) (ds : List ℕ) → 0 < radix → length ds ≤ most → radix ^ most ≤ 2 ^ 64 → radix ^ length ds ≤ 2 ^ 64
few_digits radix most ds some few fits =
    let up : radix ^ length ds ≤ radix ^ most = pow-le-pow_right some few in
    omega arith

-- the same of few digits at the head of a text
pub few_below : (radix most : ℕ) (ds : List ℕ) (i : ℕ) → 2 ≤ radix → i ≤ length ds → i < most → radix ^ most ≤ 2 ^ 64
    → list_all (λ c. is_digit c radix) (take i ds) ≡ true → digits_value radix (take i ds) * radix + radix ≤ 2 ^ 64
few_below radix most ds i least within few fits all =
    let below = digits_value-lt radix (take i ds) (all_digits radix (take i ds) all) in
    let long : length (take i ds) ≡ i = omega (arith, length-take i ds) in
    let some : 0 < radix = omega arith in
    let next : i + 1 ≤ most = omega arith in
    let more : radix ^ (i + 1) ≤ radix ^ most = pow-le-pow_right some next in
    let power : radix ^ (i + 1) ≡ radix ^ i * radix = pow_more radix i in
    let here : digits_value radix (take i ds) < radix ^ i = rw long at below in
    let up : radix * (digits_value radix (take i ds) + 1) ≤ radix * radix ^ i = mul-le-mul_left radix (omega arith) in
    omega (arith, more, power, up, fits)

-- one digit more
pub number_more : (radix : ℕ) (ds : List ℕ) (i n : ℕ) → radix ≤ 16 → i < length ds → worth (get_or ds i 0) < radix
    → list_all (λ c. is_digit c radix) (take i ds) ≡ true → n ≡ digits_value radix (take i ds)
    → (list_all (λ c. is_digit c radix) (take (i + 1) ds) ≡ true) × (n * radix + worth (get_or ds i 0) ≡ digits_value radix (take (i + 1) ds))
number_more radix ds i n most within low all is =
    let digit = digit_from_worth radix (get_or ds i 0) most low in (
      list_all_more (λ c. is_digit c radix) ds i 0 within ∙ rw (all, digit.0) refl,
      ap₂ (λ (a : ℕ) (b : ℕ). a * radix + b) is (sym digit.1) ∙ sym (digits_value_more radix ds i within),
    )

-- Decimal digits alone.

pub decimal_more : (ds : List ℕ) (i n value : ℕ) → i < length ds → is_digit (get_or ds i 0) 10 ≡ true → digit_value (get_or ds i 0) ≡ value
    → list_all (λ c. is_digit c 10) (take i ds) ≡ true → n ≡ digits_value 10 (take i ds)
    → (list_all (λ c. is_digit c 10) (take (i + 1) ds) ≡ true) × (n * 10 + value ≡ digits_value 10 (take (i + 1) ds))
decimal_more ds i n value within digit worth all is = (
  list_all_more (λ c. is_digit c 10) ds i 0 within ∙ rw (all, digit) refl,
  ap₂ (λ (a : ℕ) (b : ℕ). a * 10 + b) is (sym worth) ∙ sym (digits_value_more 10 ds i within),
)
