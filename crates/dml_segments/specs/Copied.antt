-- Which bytes are copied at once, from one address on to another, and what a copy makes of a memory.
use Rattle.std.specs.Prelude.{◌≤◌, ◌+◌, ◌⊎◌, ℕ}
use Rattle.dml_types.specs.Memory.{Memory, bytes_at, put}

-- two ranges of n bytes share none, or are short
abbrev pub IsOneCopy : ℕ → ℕ → ℕ → Type 0
IsOneCopy from to n = (n ≤ 256) ⊎ ((from + n ≤ to) ⊎ (to + n ≤ from))

-- the memory after n bytes are copied from one address on to another
abbrev pub copied : Memory → ℕ → ℕ → ℕ → Memory
copied memory from to n = put memory to (bytes_at memory from n)
