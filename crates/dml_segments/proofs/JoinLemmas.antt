-- Lists of bytes behind one another: what a write or a read of one of them is in both.
use Rattle.std.proofs.Common.{◌≡◌, ℕ, ◌+◌, ◌≤◌, List, ◌++◌, length, take, drop, rules, arith}
use Rattle.std.proofs.lemmas.List.{places, same_lists}
use Rattle.dml_types.specs.Memory.{overwrite}

-- a write in the front or the back of two lists
pub overwrite_front : (xs ys new : List ℕ) (s : ℕ) → s + length new ≤ length xs → overwrite xs s new ++ ys ≡ overwrite (xs ++ ys) s new
unfolding overwrite
overwrite_front xs ys new s within = same_lists _ _ (search (rules, places)) (λ k d h. grind (arith, places))

pub overwrite_back : (xs ys new : List ℕ) (m s : ℕ) → length xs ≡ m → s + length new ≤ length ys → xs ++ overwrite ys s new ≡ overwrite (xs ++ ys) (m + s) new
unfolding overwrite
overwrite_back xs ys new m s long within = same_lists _ _ (search (rules, places)) (λ k d h. grind (arith, places))

pub same_front : (xs ys : List ℕ) (a s n : ℕ) → a ≡ s → s + n ≤ length xs → take n (drop a (xs ++ ys)) ≡ take n (drop s xs)
same_front xs ys a s n is within = same_lists _ _ (search (rules, places)) (λ k d h. grind (arith, places))

pub same_back : (xs ys : List ℕ) (m a b n : ℕ) → length xs ≡ m → a ≡ m + b → take n (drop a (xs ++ ys)) ≡ take n (drop b ys)
same_back xs ys m a b n long is = same_lists _ _ (search (rules, places, long)) (λ k d h. grind (arith, places, long))
