-- Entries of a delta record in a list of bytes as puts, and what two neighbouring chunks of an apply say of one
-- another.
use Rattle.std.specs.Prelude.{ℕ, ◌+◌, ◌*◌, ◌/◌, Bool, false, List, map, length, Option, None, Some, nat_le, slice_range}
use Rattle.std.specs.List.{range_with_len}
use Rattle.dml_types.specs.declared.records.Record.{Record}
use Rattle.dml_types.specs.Memory.{Put, put_of}
use Rattle.dml_types.specs.Effect.{Fault}
use Rattle.dml_types.specs.Delta.{apply_answer, block_number}

-- entry x as a put: its 8 bytes, at the block that it numbers
abbrev pub block_put : ℕ → List ℕ → ℕ → Put
block_put target entries x =
    put_of (target + 8 * block_number entries x) (slice_range entries (10 * x + 2) (10 * x + 10))

-- all of them, in their order
abbrev pub block_puts : ℕ → List ℕ → List Put
block_puts target entries = map (block_put target entries) (range_with_len 0 (length entries / 10))

-- whether the first offset of a chunk does not rise above the last good one before it, where there are both
abbrev pub falls : Option ℕ → Option ℕ → Bool
falls None first = false
falls (Some last) None = false
falls (Some last) (Some first) = nat_le first last

-- the record of an apply of n entries, by its first bad one
abbrev pub applied_record : ℕ → Option (ℕ × Fault) → Record
applied_record n None = apply_answer n None
applied_record n (Some bad) = apply_answer bad.0 (Some bad.1)
