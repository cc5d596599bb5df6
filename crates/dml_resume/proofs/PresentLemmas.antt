-- Reads and puts over present bytes, none of them perhaps: an empty range may stand anywhere.
use Rattle.std.proofs.Common.{◌≡◌, ℕ, ◌+◌, ◌≤◌, ◌⊎◌, true, List, [], ◌∷◌, length, sym, ◌∙◌, ap, subst, arith, ⊎_elim}
use Rattle.std.proofs.lemmas.Bool.{cases_lt}
use Rattle.dml_types.specs.Memory.{Memory, IsWhole, has_all, bytes_at, put}
use Rattle.dml_types.proofs.MemoryLemmas.{has_all_within, bytes_at_none, length_bytes_at, read_beside, put_nil, put_comm, put_whole}

-- two ranges that share no byte, empty or not
abbrev pub Apart : ℕ → ℕ → ℕ → ℕ → Type 0
Apart a n b m = (a + n ≤ b) ⊎ (b + m ≤ a)

pub length_present : (memory : Memory) (address n : ℕ) → IsWhole memory → has_all memory address n ≡ true → length (bytes_at memory address n) ≡ n
length_present memory address n whole all =
    ⊎_elim (λ some. length_bytes_at memory address n (has_all_within memory address n whole all some))
    (λ none. let nothing : n ≡ 0 = omega arith in ap length (bytes_at_none memory address n nothing) ∙ sym nothing)
    (cases_lt 0 n)

pub read_beside_put : (memory : Memory) (address : ℕ) (xs : List ℕ) (from n : ℕ) → IsWhole memory → has_all memory address (length xs) ≡ true → Apart from n address (length xs) → bytes_at (put memory address xs) from n ≡ bytes_at memory from n
read_beside_put memory address [] from n whole all apart = ap (λ m. bytes_at m from n) (put_nil memory address)
read_beside_put memory address (x ∷ xs) from n whole all apart =
    read_beside memory address (x ∷ xs) from n (has_all_within memory address (length (x ∷ xs)) whole all (omega arith)) apart

pub puts_commute : (memory : Memory) (a : ℕ) (xs : List ℕ) (b : ℕ) (ys : List ℕ) → IsWhole memory → has_all memory a (length xs) ≡ true → has_all memory b (length ys) ≡ true → Apart a (length xs) b (length ys) → put (put memory a xs) b ys ≡ put (put memory b ys) a xs
puts_commute memory a [] b ys whole first second apart =
    ap (λ m. put m b ys) (put_nil memory a) ∙ sym (put_nil (put memory b ys) a)
puts_commute memory a (x ∷ xs) b [] whole first second apart =
    put_nil (put memory a (x ∷ xs)) b ∙ ap (λ m. put m a (x ∷ xs)) (sym (put_nil memory b))
puts_commute memory a (x ∷ xs) b (y ∷ ys) whole first second apart =
    let in_first = has_all_within memory a (length (x ∷ xs)) whole first (omega arith) in
    let in_second = has_all_within memory b (length (y ∷ ys)) whole second (omega arith) in
    ⊎_elim (λ before. put_comm memory a (x ∷ xs) b (y ∷ ys) before in_second)
    (λ later. sym (put_comm memory b (y ∷ ys) a (x ∷ xs) later in_first)) apart

pub whole_after_put : (memory : Memory) (a : ℕ) (xs : List ℕ) → IsWhole memory → has_all memory a (length xs) ≡ true → IsWhole (put memory a xs)
whole_after_put memory a [] whole all = subst IsWhole (sym (put_nil memory a)) whole
whole_after_put memory a (x ∷ xs) whole all =
    put_whole memory a (x ∷ xs) whole (has_all_within memory a (length (x ∷ xs)) whole all (omega arith))
