-- How often numbers stand in lists, and how long a list is where each number below a bound stands in it once.
use Rattle.std.proofs.Common.{◌≡◌, ℕ, zero, suc, ◌+◌, ◌≤◌, List, [], ◌∷◌, ◌++◌, length, arith}
use Rattle.std.proofs.lemmas.Bool.Decides.{nat_tests}
use Rattle.dml_pool.specs.Numbers.{times, once_below}

pub times_append : (x : ℕ) (xs ys : List ℕ) → times x (xs ++ ys) ≡ times x xs + times x ys
times_append x [] ys = omega arith
times_append x (y ∷ xs) ys = let rest = times_append x xs ys in omega (arith, rest)

pub once_more : (x n : ℕ) → once_below x (n + 1) ≡ once_below x n + times x (n ∷ [])
once_more x n = grind (arith, nat_tests)

-- how many of a list are the numbers below n
abbrev counted : ℕ → List ℕ → ℕ
counted zero xs = 0
counted (suc n) xs = counted n xs + times n xs

counted_more : (n y : ℕ) (ys : List ℕ) → counted n (y ∷ ys) ≡ once_below y n + counted n ys
counted_more zero y ys = grind (arith, nat_tests)
counted_more (suc n) y ys =
    let rest = counted_more n y ys in
    let more : once_below y (suc n) ≡ once_below y n + times n (y ∷ []) = grind (arith, nat_tests) in
    omega (arith, rest, more)

counted_most : (n : ℕ) (xs : List ℕ) → ((x : ℕ) → times x xs ≤ 1) → counted n xs ≤ n
counted_most zero xs once = omega arith
counted_most (suc n) xs once = let rest = counted_most n xs once in omega (arith, rest, once n)

all_counted : (n : ℕ) (xs : List ℕ) → ((x : ℕ) → times x xs ≤ once_below x n) → length xs ≤ counted n xs
all_counted n [] few = omega arith
all_counted n (y ∷ ys) few =
    let more = counted_more n y ys in
    let here : times y (y ∷ ys) ≡ 1 + times y ys = grind (arith, nat_tests) in
    let rest = all_counted n ys (λ x. let one = few x in omega (arith, one)) in
    omega (arith, more, here, few y, rest)

pub few_below : (n : ℕ) (xs : List ℕ) → ((x : ℕ) → times x xs ≤ once_below x n) → length xs ≤ n
few_below n xs few =
    let most = counted_most n xs (λ x. let one = few x in grind (arith, nat_tests, one)) in
    omega (arith, most, all_counted n xs few)
