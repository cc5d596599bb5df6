-- The entries of a delta record in a list of bytes as puts, and puts into the bytes that stand from an address on.
use Rattle.std.specs.Prelude.{ℕ, ◌+◌, ◌-◌, ◌*◌, ◌/◌, ◌≤◌, Bool, List, [], ◌∷◌, map, length, slice_range, ⊤}
use Rattle.std.specs.List.{list_all, range_with_len}
use Rattle.dml_types.specs.Memory.{Memory, Put, put_of, has_all, overwrite}
use Rattle.dml_types.specs.Delta.{block_number}

-- entry x as a put: its 8 bytes, at the block that it numbers
abbrev pub block_put : ℕ → List ℕ → ℕ → Put
block_put target entries x =
    put_of (target + 8 * block_number entries x) (slice_range entries (10 * x + 2) (10 * x + 10))

-- those of n entries from entry x on, and of all
abbrev pub block_puts_from : ℕ → List ℕ → ℕ → ℕ → List Put
block_puts_from target entries x n = map (block_put target entries) (range_with_len x n)

abbrev pub block_puts : ℕ → List ℕ → List Put
block_puts target entries = block_puts_from target entries 0 (length entries / 10)

-- each byte that is put is present
abbrev pub are_present : Memory → List Put → Bool
are_present memory puts = list_all (λ p. has_all memory p.address (length p.bytes)) puts

-- n bytes from an address on are among m bytes that begin at another
abbrev pub IsInside : ℕ → ℕ → ℕ → ℕ → Type 0
IsInside begin m address n = (begin ≤ address) × (address + n ≤ begin + m)

abbrev pub AreInside : ℕ → ℕ → List Put → Type 0
AreInside begin m [] = ⊤
AreInside begin m (p ∷ puts) = IsInside begin m p.address (length p.bytes) × AreInside begin m puts

-- the bytes that begin at an address, after puts
abbrev pub after_puts : ℕ → List ℕ → List Put → List ℕ
after_puts begin bytes [] = bytes
after_puts begin bytes (p ∷ puts) = after_puts begin (overwrite bytes (p.address - begin) p.bytes) puts
