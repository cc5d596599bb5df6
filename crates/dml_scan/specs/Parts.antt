-- Parts of pages that a scan reads.
use Rattle.std.specs.Prelude.{ℕ, ◌<◌, ◌≤◌, List, length}
use Rattle.dml_types.specs.Memory.{Memory}
use Rattle.dml_buffers.specs.Holds.{Holds}

-- the memory holds the bytes, and there is some such byte, and at most n
pub record IsPartWithin (memory : Memory) (address n : ℕ) (bytes : List ℕ) : Type 0 where
  pub part : Holds memory address bytes
  pub some : 0 < length bytes
  pub within : length bytes ≤ n
