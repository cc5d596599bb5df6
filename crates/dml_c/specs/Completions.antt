-- The completion address of a descriptor.
use Rattle.std.specs.Prelude.{ℕ, Bool, ◌==◌, List, bit_and}
use Rattle.dml_desc.specs.Descriptor.{decoded, u64_at}

-- the address, and whether the descriptor says that it has one
abbrev pub completion_address : List ℕ → ℕ
completion_address descriptor = u64_at descriptor 8

abbrev pub has_completion : List ℕ → Bool
has_completion descriptor = bit_and (decoded descriptor).flags 0x04 == 0x04
