-- The bits that stand for lanes.
use Rattle.std.specs.Prelude.{ℕ, ◌==◌, if◌then◌else◌}
use Rattle.std.specs.Int.{w64, trailing_zeros}

-- the place of the lowest bit that is set; n where none is
abbrev pub lowest_or : ℕ → ℕ → ℕ
lowest_or n bits = if bits == 0 then n else trailing_zeros w64 bits
