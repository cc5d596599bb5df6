-- The limits of an engine's settings.
use Rattle.std.specs.Prelude.{◌≡◌, ℕ, ◌≤◌, ◌%◌}
use Rattle.dml_types.specs.Types.{Settings}

-- a chunk size within its limits
pub record IsChunk (chunk : ℕ) : Type 0 where
  pub least : 8 ≤ chunk
  pub most : chunk ≤ 1048576
  pub whole_words : chunk % 8 ≡ 0

pub record IsValid (settings : Settings) : Type 0 where
  pub staging : settings.staging ≤ 16777216
  pub chunk : IsChunk settings.chunk
  pub least_workers : 1 ≤ settings.workers
  pub most_workers : settings.workers ≤ 16
