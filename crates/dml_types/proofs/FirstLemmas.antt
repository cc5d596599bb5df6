-- The laws of the first index: with these nobody needs to open `first`.
use Rattle.std.proofs.Common.{◌≡◌, ℕ, ◌+◌, ◌-◌, ◌<◌, ◌≤◌, Bool, true, false, not, get_or, sym, ◌∙◌, ap, arith, ⊎_elim}
use Rattle.std.specs.List.{range_with_len}
use Rattle.std.proofs.lemmas.List.Sums.{position_or_len_is, fails_before_first, passes_at_first, prefix_len-le-length}
use Rattle.std.proofs.lemmas.List.FromFn.{get_or-range_with_len, length-range_with_len}
use Rattle.std.proofs.lemmas.Bool.{cases_lt}
use Rattle.dml_types.specs.Memory.{first}

pub first_le : (n : ℕ) (test : ℕ → Bool) → first n test ≤ n
unfolding first
first_le n test =
    let within = prefix_len-le-length (λ (i : ℕ). not (test i)) (range_with_len 0 n) in
    omega (arith, within, length-range_with_len 0 n)

pub fails_before : (n : ℕ) (test : ℕ → Bool) (i : ℕ) → i < first n test → test i ≡ false
unfolding first
fails_before n test i before =
    let below : i < n = omega (arith, first_le n test) in
    let at : get_or (range_with_len 0 n) i 0 ≡ i = get_or-range_with_len 0 n i 0 below ∙ omega arith in
    ap test (sym at) ∙ fails_before_first test (range_with_len 0 n) i 0 before

pub passes_at : (n : ℕ) (test : ℕ → Bool) → first n test < n → test (first n test) ≡ true
unfolding first
passes_at n test below =
    let at : get_or (range_with_len 0 n) (first n test) 0 ≡ first n test = get_or-range_with_len 0 n _ 0 below ∙ omega arith in
    ap test (sym at) ∙ passes_at_first test (range_with_len 0 n) 0 (omega (arith, length-range_with_len 0 n))

-- what is the first index: nothing before it passes, and it passes where it is below n
pub first_is : (n : ℕ) (test : ℕ → Bool) (k : ℕ) → k ≤ n → ((i : ℕ) → i < k → test i ≡ false) → (k < n → test k ≡ true) → first n test ≡ k
unfolding first
first_is n test k within before here =
    position_or_len_is test (range_with_len 0 n) k 0 (omega (arith, length-range_with_len 0 n))
    (λ i low. let below : i < n = omega arith in ap test (get_or-range_with_len 0 n i 0 below ∙ omega arith) ∙ before i low)
    (λ low.
    let below : k < n = omega (arith, length-range_with_len 0 n) in
    ap test (get_or-range_with_len 0 n k 0 below ∙ omega arith) ∙ here below)

pub first_agree : (n : ℕ) (one other : ℕ → Bool) → ((i : ℕ) → i < n → one i ≡ other i) → first n one ≡ first n other
first_agree n one other same =
    first_is n one (first n other) (first_le n other)
    (λ i before. same i (omega (arith, first_le n other)) ∙ fails_before n other i before)
    (λ below. same (first n other) below ∙ passes_at n other below)

-- a range cut in two: the first index of the front where it has one, else that of the rest behind it
pub first_left : (m n : ℕ) (test : ℕ → Bool) → first m test < m → first (m + n) test ≡ first m test
first_left m n test inside =
    first_is (m + n) test (first m test) (omega arith) (λ i before. fails_before m test i before) (λ _. passes_at m test inside)

pub first_right : (m n : ℕ) (test : ℕ → Bool) → first m test ≡ m → first (m + n) test ≡ m + first n (λ i. test (m + i))
first_right m n test none =
    let rest : ℕ → Bool = λ i. test (m + i) in
    first_is (m + n) test (m + first n rest) (omega (arith, first_le n rest))
    (λ i before.
    ⊎_elim (λ low. fails_before m test i (omega (arith, none))) (λ high.
    let at : m + (i - m) ≡ i = omega arith in
    ap test (sym at) ∙ fails_before n rest (i - m) (omega arith))
    (cases_lt i m))
    (λ below. passes_at n rest (omega arith))

-- no index passes where the first is n, and conversely
pub none_pass : (n : ℕ) (test : ℕ → Bool) → first n test ≡ n → (i : ℕ) → i < n → test i ≡ false
none_pass n test none i below = fails_before n test i (omega arith)

pub first_none : (n : ℕ) (test : ℕ → Bool) → ((i : ℕ) → i < n → test i ≡ false) → first n test ≡ n
first_none n test fails = first_is n test n (omega arith) fails (λ below. absurd (omega arith))
