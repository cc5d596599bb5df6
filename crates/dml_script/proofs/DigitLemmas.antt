-- Decimal digits in places of a buffer.
use Rattle.std.proofs.Common.{◌≡◌, ◌≢◌, ℕ, zero, suc, ◌+◌, ◌-◌, ◌*◌, ◌/◌, ◌%◌, ◌^◌, ◌<◌, ◌≤◌, Bool, true, false, T, eqb, List, [], ◌∷◌, ◌++◌, length, get_or, set, drop, sym, ap, ap₂, ◌∙◌, arith, append_assoc, length-append, length-set, ⊎_elim, eqb→eq}
use Rattle.std.proofs.lemmas.Bool.{cases_lt}
use Rattle.std.proofs.lemmas.Fmt.{decimal_digit, decimal_step, decimal_nonempty, length-decimal-le}
use Rattle.std.proofs.lemmas.List.{drop-set, set_comm}
use Rattle.std.specs.Fmt.{decimal}
use Rattle.std.specs.Prelude.{◌&&◌}
use Rattle.dml_script.specs.Lines.{pair_text}
use Rattle.dml_script.specs.declared.digits.TheConstants.{PAIRS}

-- whether the table has the digits of each number below n
abbrev are_pairs : ℕ → Bool
are_pairs zero = true
are_pairs (suc n) = (eqb (get_or PAIRS (2 * n) 0) (48 + n / 10) && eqb (get_or PAIRS (2 * n + 1) 0) (48 + n % 10)) && are_pairs n

both : (a b : Bool) → T (a && b) → T a × T b
both true b holds = (tt, holds)
both false b holds = absurd holds

pairs_below : (n p : ℕ) → T (are_pairs n) → p < n → (get_or PAIRS (2 * p) 0 ≡ 48 + p / 10) × (get_or PAIRS (2 * p + 1) 0 ≡ 48 + p % 10)
pairs_below zero p all low = absurd (omega arith)
pairs_below (suc n) p all low =
    let here = both _ (are_pairs n) all in
    let own = both (eqb (get_or PAIRS (2 * n) 0) (48 + n / 10)) _ here.0 in
    ⊎_elim (λ below. pairs_below n p here.1 below)
    (λ above.
    let last : p ≡ n = omega arith in
    rw last (eqb→eq _ _ own.0, eqb→eq _ _ own.1))
    (cases_lt p n)

pub pair_at : (p : ℕ) → p < 100 → (get_or PAIRS (2 * p) 0 ≡ 48 + p / 10) × (get_or PAIRS (2 * p + 1) 0 ≡ 48 + p % 10)
pair_at p low = pairs_below 100 p tt low

-- The text of a number, two digits at a time.

pub length_digits : (n : ℕ) → n < 2 ^ 64 → (0 < length (decimal n)) × (length (decimal n) ≤ 20)
length_digits n fits = (decimal_nonempty n fits, length-decimal-le 20 n (omega arith) (omega arith) fits)

pub last_digit : (n : ℕ) → n < 10 → decimal n ≡ (48 + n) ∷ []
last_digit n low = decimal_digit n low

pub last_pair : (n : ℕ) → 10 ≤ n → n < 100 → decimal n ≡ pair_text n
last_pair n low high = rw (decimal_step n low (omega arith), decimal_digit (n / 10) (omega arith))

pub next_pair : (n : ℕ) → 100 ≤ n → n < 2 ^ 64 → decimal n ≡ decimal (n / 100) ++ pair_text (n % 100)
next_pair n low fits =
    let hundreds : n / 10 / 10 ≡ n / 100 = omega arith in
    let tens : n / 10 % 10 ≡ n % 100 / 10 = omega arith in
    let ones : n % 10 ≡ n % 100 % 10 = omega arith in
    rw (decimal_step n (omega arith) fits, decimal_step (n / 10) (omega arith) (omega arith), append_assoc, hundreds, tens, ← ones)

pub next_length : (n : ℕ) → 100 ≤ n → n < 2 ^ 64 → length (decimal n) ≡ length (decimal (n / 100)) + 2
next_length n low fits = ap length (next_pair n low fits) ∙ length-append (decimal (n / 100)) (pair_text (n % 100))

-- what stands behind two writes side by side
pub two_set : (xs : List ℕ) (at a b : ℕ) → at + 2 ≤ length xs → drop at (set (set xs at a) (at + 1) b) ≡ a ∷ b ∷ drop (at + 2) xs
two_set xs at a b within =
    let apart : at ≢ at + 1 = omega arith in
    let next : at + 1 + 1 ≡ at + 2 = omega arith in
    ap (drop at) (set_comm xs at (at + 1) a b apart) ∙ drop-set (set xs (at + 1) b) at a (omega (arith, length-set xs (at + 1) b))
    ∙ ap (λ l. a ∷ l) (drop-set xs (at + 1) b (omega arith)) ∙ ap (λ n. a ∷ b ∷ drop n xs) next

pub pair_put : (xs : List ℕ) (end n a b : ℕ) → 2 ≤ end → end ≤ length xs → a ≡ 48 + n / 10 → b ≡ 48 + n % 10
    → drop (end - 2) (set (set xs (end - 2) a) (end - 1) b) ≡ pair_text n ++ drop end xs
pair_put xs end n a b room within tens ones =
    let behind : end - 1 ≡ end - 2 + 1 = omega arith in
    let last : end - 2 + 2 ≡ end = omega arith in
    ap (λ k. drop (end - 2) (set (set xs (end - 2) a) k b)) behind ∙ two_set xs (end - 2) a b (omega arith)
    ∙ ap (λ k. a ∷ b ∷ drop k xs) last ∙ ap₂ (λ (a b : ℕ). a ∷ b ∷ drop end xs) tens ones

pub digit_put : (xs : List ℕ) (end n : ℕ) → n < 10 → 1 ≤ end → end ≤ length xs → drop (end - 1) (set xs (end - 1) (48 + n)) ≡ decimal n ++ drop end xs
digit_put xs end n low room within =
    let last : end - 1 + 1 ≡ end = omega arith in
    drop-set xs (end - 1) (48 + n) (omega arith) ∙ ap (λ k. (48 + n) ∷ drop k xs) last ∙ ap (λ l. l ++ drop end xs) (sym (decimal_digit n low))

-- The parts of a line, as they are written and as its definition has them.

pub regrouped : (a b c d e : List ℕ) → a ++ (b ++ (c ++ (d ++ e))) ≡ (a ++ b ++ c ++ d) ++ e
regrouped a b c d e = simp append_assoc

pub batch_regrouped : (a b c d e : List ℕ) → a ++ (b ++ (c ++ (d ++ e))) ≡ (a ++ b) ++ (c ++ d ++ e)
batch_regrouped a b c d e = simp append_assoc
