-- Bytes of a page that is present.
use Rattle.std.specs.Prelude.{◌≡◌, ℕ, ◌-◌, ◌%◌, true, List, length, min}
use Rattle.dml_types.specs.Memory.{Memory, bytes_at, has}

-- the bytes from an address on, n of them or as many as there are up to the end of the page, where it is present
pub record IsPartOfPage (memory : Memory) (address n : ℕ) (bytes : List ℕ) : Type 0 where
  pub present : has memory address ≡ true
  pub content : bytes ≡ bytes_at memory address (length bytes)
  pub size : length bytes ≡ min n (4096 - address % 4096)
