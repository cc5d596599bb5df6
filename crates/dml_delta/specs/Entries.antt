-- Entries for blocks in lists of bytes, and lists made of those of a range of numbers that pass a test.
use Rattle.std.specs.Prelude.{ℕ, ◌+◌, ◌*◌, Bool, not, List, ◌++◌, ◌==◌, bytes_eq, filter, flat_map, slice_range}
use Rattle.std.specs.Int.{bit_at, to_le_bytes, w16}
use Rattle.std.specs.List.{range_with_len}

-- what f gives for those of n numbers from a on that pass, one after another
abbrev pub gathered : (ℕ → List ℕ) → (ℕ → Bool) → ℕ → ℕ → List ℕ
gathered f passes a n = flat_map f (filter passes (range_with_len a n))

-- block i of a list, and whether block i of one list differs from that of another
abbrev pub nth_block : List ℕ → ℕ → List ℕ
nth_block bytes i = slice_range bytes (8 * i) (8 * i + 8)

abbrev pub nth_differs : List ℕ → List ℕ → ℕ → Bool
nth_differs one other i = not (bytes_eq (nth_block one i) (nth_block other i))

-- the entry for block i of a list whose first block has a number
abbrev pub nth_entry : ℕ → List ℕ → ℕ → List ℕ
nth_entry number bytes i = to_le_bytes w16 (number + i) ++ nth_block bytes i

-- whether bit i of a mask is set
abbrev pub is_marked : ℕ → ℕ → Bool
is_marked mask i = bit_at mask i == 1
