-- Buffers: bytes that a memory has from an address on.
use Rattle.std.specs.Prelude.{◌≡◌, ℕ, ◌+◌, ◌*◌, ◌≤◌, None, true, false, All, AllPairs, List, length, replicate, IsTrue}
use Rattle.dml_types.specs.declared.spans.Span.{Span}
use Rattle.dml_types.specs.Job.{shares, span}
use Rattle.dml_types.specs.Memory.{Memory, Put, has_all, bytes_at, memory_of, page_size}

-- a memory has these bytes from an address on, and all are present
pub record Holds (memory : Memory) (address : ℕ) (bytes : List ℕ) : Type 0 where
  pub present : IsTrue (has_all memory address (length bytes))
  pub content : bytes_at memory address (length bytes) ≡ bytes

-- a memory of so many pages, all present, of zeros
abbrev pub blank : ℕ → Memory
blank pages = memory_of (replicate pages true) (replicate (page_size * pages) 0) None

-- Some buffers, each with its address: its range, whether no two share a byte, whether all lie in so many pages, and
-- whether a memory holds each
abbrev pub range_of : Put → Span
range_of buffer = span buffer.address (length buffer.bytes)

abbrev pub ShareNoByte : List Put → Type 0
ShareNoByte buffers = AllPairs (λ one other. shares (range_of one) (range_of other) ≡ false) buffers

abbrev pub LieWithin : ℕ → List Put → Type 0
LieWithin pages buffers = All (λ buffer. buffer.address + length buffer.bytes ≤ page_size * pages) buffers

abbrev pub HoldsEach : Memory → List Put → Type 0
HoldsEach memory buffers = All (λ buffer. Holds memory buffer.address buffer.bytes) buffers
