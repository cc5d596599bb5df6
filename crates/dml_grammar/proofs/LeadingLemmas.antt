-- Laws of numbers at the head of a line.
use Rattle.std.proofs.Common.{◌≡◌, ℕ, Bool, zero, suc, inl, inr, ◌<◌, ◌≤◌, List, [], ◌∷◌, length, get_or, take, drop, refl, sym, ◌∙◌, ap, arith, true, false, nat_eq, bytes_eq, codes, Some}
use Rattle.std.specs.Char.{is_digit}
use Rattle.std.specs.Int.{IsInRange}
use Rattle.std.specs.List.{list_all, prefix_len}
use Rattle.std.specs.Str.Parse.{AllDigits, digits_value}
use Rattle.std.proofs.Math.Bool.{and-false}
use Rattle.std.proofs.lemmas.Bool.{both_ways, cases_Bool, le-leb, lt-ltb, ne_eqb}
use Rattle.std.proofs.lemmas.List.Folds.{list_all_at}
use Rattle.std.proofs.lemmas.List.{get_or-drop, get_or-take, length-take}
use Rattle.std.proofs.lemmas.Str.Parse.{digit_at}
use Rattle.dml_grammar.specs.Leading.{BeginsWith}
use Rattle.dml_grammar.specs.Number.{word_number}
use Rattle.dml_grammar.specs.Text.{is_blank}
use Rattle.dml_grammar.proofs.DigitLemmas.{all_digits}
use Rattle.dml_grammar.proofs.WordLemmas.{position_or_len_at, prefix_len_at, words_split}

-- a digit is no blank
no_blank : (c : ℕ) → IsInRange 48 57 c → is_blank c ≡ false
no_blank c range =
    let least : 48 ≤ c = range.0 in
    rw (ne_eqb c 32 (λ e. omega arith), ne_eqb c 9 (λ e. omega arith)) refl

-- digits do not begin with `0x`
no_prefix : (ds : List ℕ) → 0 < length ds → AllDigits 10 ds → bytes_eq (take 2 ds) (codes "0x") ≡ false
no_prefix [] some all = absurd (omega arith)
no_prefix (c ∷ []) some all = and-false (nat_eq c 48)
no_prefix (c ∷ d ∷ ds) some all =
    let range : IsInRange 48 57 d = digit_at (c ∷ d ∷ ds) 1 all (omega arith) in
    let most : d ≤ 57 = range.1 in
    rw (ne_eqb d 120 (λ e. omega arith)) (and-false (nat_eq c 48))

number_word : (ds : List ℕ) (number : ℕ) → 0 < length ds → length ds ≤ 19 → list_all (λ c. is_digit c 10) ds ≡ true → number ≡ digits_value 10 ds
    → word_number ds ≡ Some number
number_word ds number some few digits is =
    rw (no_prefix ds some (all_digits 10 ds digits), lt-ltb 0 (length ds) some, le-leb (length ds) 20 (omega arith), digits) (ap Some (sym is))

-- a word of few digits, with a blank or nothing behind it
begins_with : (line : List ℕ) (skip n number : ℕ) → skip ≡ prefix_len is_blank line → n ≤ length (drop skip line) → 0 < n → n ≤ 19
    → list_all (λ c. is_digit c 10) (take n (drop skip line)) ≡ true → number ≡ digits_value 10 (take n (drop skip line))
    → (n < length (drop skip line) → is_blank (get_or (drop skip line) n 0) ≡ true) → BeginsWith number (drop n (drop skip line)) line
begins_with line skip n number at within some few digits is here =
    let ds = take n (drop skip line) in
    let long : length ds ≡ n = omega (arith, length-take n (drop skip line)) in
    let all = all_digits 10 ds digits in
    let before : (k : ℕ) → k < n → is_blank (get_or (drop skip line) k 0) ≡ false =
    λ k low. rw (get_or-take n (drop skip line) k 0 low) at (no_blank (get_or ds k 0) (digit_at ds k all (omega arith))) in
    let place = position_or_len_at is_blank (drop skip line) n within before here in
    (ds, words_split line skip n at (omega arith) place, number_word ds number (omega arith) (omega arith) digits is)

-- the same behind one space
pub begins_behind : (line : List ℕ) (n number : ℕ) → 0 < length line → get_or line 0 0 ≡ 32 → n ≤ length (drop 1 line) → 0 < n → n ≤ 19
    → list_all (λ c. is_digit c 10) (take n (drop 1 line)) ≡ true → number ≡ digits_value 10 (take n (drop 1 line))
    → (n < length (drop 1 line) → is_blank (get_or (drop 1 line) n 0) ≡ true) → BeginsWith number (drop n (drop 1 line)) line
begins_behind line n number long space within some few digits is here =
    let ds = take n (drop 1 line) in
    let count : length ds ≡ n = omega (arith, length-take n (drop 1 line)) in
    let first : get_or line 1 0 ≡ get_or ds 0 0 = sym (get_or-take n (drop 1 line) 0 0 some ∙ get_or-drop 1 line 0 0) in
    let no : is_blank (get_or line 1 0) ≡ false = rw first (no_blank (get_or ds 0 0) (digit_at ds 0 (all_digits 10 ds digits) (omega arith))) in
    let yes : (k : ℕ) → k < 1 → is_blank (get_or line k 0) ≡ true =
    λ k low. let none : k ≡ 0 = omega arith in rw (none, space) refl in
    begins_with line 1 n number (prefix_len_at is_blank line 1 (omega arith) yes (λ _. no)) within some few digits is here

-- Hexadecimal digits behind `0x`.

all_at : (p : ℕ → Bool) (xs : List ℕ) (k : ℕ) → k < length xs → list_all p xs ≡ true → p (get_or xs k 0) ≡ true
all_at p xs k low all =
    elim (cases_Bool (p (get_or xs k 0))) as (λ _. p (get_or xs k 0) ≡ true) [ inl holds ↦ holds | inr fails ↦ absurd (both_ways _ (list_all_at p xs k 0 low fails) all) ]

hexadecimal_no_blank : (c : ℕ) → is_digit c 16 ≡ true → is_blank c ≡ false
hexadecimal_no_blank c digit =
    let no_space : nat_eq c 32 ≡ false = ne_eqb c 32 (λ e. both_ways (is_digit 32 16) refl (rw e at digit)) in
    let no_tab : nat_eq c 9 ≡ false = ne_eqb c 9 (λ e. both_ways (is_digit 9 16) refl (rw e at digit)) in
    rw (no_space, no_tab) refl

prefix_no_blank : (text : List ℕ) (b c n : ℕ) → b ≡ 48 → c ≡ 120 → ((k : ℕ) → k < n → is_blank (get_or text k 0) ≡ false)
    → (k : ℕ) → k < suc (suc n) → is_blank (get_or (b ∷ c ∷ text) k 0) ≡ false
prefix_no_blank text b c n b_is c_is before zero low = rw b_is refl
prefix_no_blank text b c n b_is c_is before (suc zero) low = rw c_is refl
prefix_no_blank text b c n b_is c_is before (suc (suc k)) low = before k (omega arith)

hexadecimal_word : (ds : List ℕ) (b c number : ℕ) → b ≡ 48 → c ≡ 120 → 0 < length ds → length ds ≤ 16
    → list_all (λ c. is_digit c 16) ds ≡ true → number ≡ digits_value 16 ds → word_number (b ∷ c ∷ ds) ≡ Some number
hexadecimal_word ds b c number b_is c_is some few digits is =
    rw (b_is, c_is, lt-ltb 0 (length ds) some, le-leb (length ds) 16 few, digits) (ap Some (sym is))

pub begins_with_prefix : (line : List ℕ) (n number : ℕ) → 3 ≤ length line → get_or line 0 0 ≡ 32 → get_or line 1 0 ≡ 48 → get_or line 2 0 ≡ 120
    → n ≤ length (drop 3 line) → 0 < n → n ≤ 16 → list_all (λ c. is_digit c 16) (take n (drop 3 line)) ≡ true
    → number ≡ digits_value 16 (take n (drop 3 line))
    → (n < length (drop 3 line) → is_blank (get_or (drop 3 line) n 0) ≡ true) → BeginsWith number (drop n (drop 3 line)) line
begins_with_prefix [] n number long space b_is c_is within some few digits is here = absurd (omega arith)
begins_with_prefix (a ∷ []) n number long space b_is c_is within some few digits is here = absurd (omega arith)
begins_with_prefix (a ∷ b ∷ []) n number long space b_is c_is within some few digits is here = absurd (omega arith)
begins_with_prefix (a ∷ b ∷ c ∷ text) n number long space b_is c_is within some few digits is here =
    let count : length (take n text) ≡ n = omega (arith, length-take n text) in
    let yes : (k : ℕ) → k < 1 → is_blank (get_or (a ∷ b ∷ c ∷ text) k 0) ≡ true =
    λ k low. let none : k ≡ 0 = omega arith in rw (none, space) refl in
    let no : is_blank b ≡ false = rw b_is refl in
    let skip = prefix_len_at is_blank (a ∷ b ∷ c ∷ text) 1 (omega arith) yes (λ _. no) in
    let before : (k : ℕ) → k < n → is_blank (get_or text k 0) ≡ false =
    λ k low. rw (get_or-take n text k 0 low) at (hexadecimal_no_blank (get_or (take n text) k 0) (all_at (λ c. is_digit c 16) (take n text) k (omega arith) digits)) in
    let place = position_or_len_at is_blank (b ∷ c ∷ text) (suc (suc n)) (omega arith) (prefix_no_blank text b c n b_is c_is before)
    (λ low. here (omega arith)) in
    (b ∷ c ∷ take n text, words_split (a ∷ b ∷ c ∷ text) 1 (suc (suc n)) skip (omega arith) place, hexadecimal_word (take n text) b c number b_is c_is (omega arith) (omega arith) digits is)
