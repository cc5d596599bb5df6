-- How far two lists of bytes, or a list and a repeated pattern, are alike from the front.
use Rattle.std.specs.Prelude.{◌≡◌, ℕ, ◌+◌, ◌%◌, ◌<◌, not, List, length, replicate, slice_index, ◌==◌}
use Rattle.dml_types.specs.Memory.{first}
use Rattle.dml_types.specs.Bytewise.{pattern_byte}

-- the first place of xs at which ys has another byte; the length of xs where there is none
abbrev pub first_difference : List ℕ → List ℕ → ℕ
first_difference xs ys = first (length xs) (λ i. not (slice_index xs i == slice_index ys i))

-- the same of a pattern that is repeated from its byte `from` on
abbrev pub first_unlike : List ℕ → ℕ → ℕ → ℕ
first_unlike xs pattern from =
    first (length xs) (λ i. not (slice_index xs i == pattern_byte pattern (from + i)))

-- n bytes from a place on are the same in both
abbrev pub AreAlike : List ℕ → List ℕ → ℕ → ℕ → Type 0
AreAlike xs ys at n = (i : ℕ) → i < n → slice_index xs (at + i) ≡ slice_index ys (at + i)

-- n bytes from a place on repeat the bytes of a list of 32
abbrev pub AreRepeated : List ℕ → List ℕ → ℕ → ℕ → Type 0
AreRepeated xs block at n = (i : ℕ) → i < n → slice_index xs (at + i) ≡ slice_index block (i % 32)

-- each of 32 lanes has all its bits
abbrev pub AreFull : List ℕ → Type 0
AreFull lanes = lanes ≡ replicate 32 255
