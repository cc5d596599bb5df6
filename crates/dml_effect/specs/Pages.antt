-- Memory that a caller lends: whole pages, all present.
use Rattle.std.specs.Prelude.{◌≡◌, ℕ, ◌*◌, ◌/◌, ◌%◌, ◌≤◌, true, List, length, replicate, None}
use Rattle.dml_types.specs.Memory.{Memory, memory_of, page_size}

-- 1 to 4,096 whole pages
pub record IsPages (content : List ℕ) : Type 0 where
  pub whole : length content % page_size ≡ 0
  pub least : page_size ≤ length content
  pub most : length content ≤ 4096 * page_size

-- 1 to 2^32 - 1 whole pages
pub record IsWholePages (content : List ℕ) : Type 0 where
  pub whole : length content % page_size ≡ 0
  pub least : page_size ≤ length content
  pub most : length content ≤ 4294967295 * page_size

-- the memory of these bytes, with each page present
abbrev pub all_present : List ℕ → Memory
all_present content = memory_of (replicate (length content / page_size) true) content None
