-- What the bytes of descriptors and completion records mean, field by field.
use Rattle.std.specs.Prelude.{◌≡◌, ℕ, ◌+◌, ◌^◌, ◌<◌, ◌≤◌, ◌&&◌, Bool, true, List, [], ◌∷◌, ◌++◌, Option, Some, length, slice_index, nat_le, nat_lt}
use Rattle.std.specs.List.{list_any}
use Rattle.dml_types.specs.declared.operations.Op.{Op}
use Rattle.dml_types.specs.declared.records.Record.{Record}
use Rattle.dml_types.specs.declared.records.BatchRecord.{BatchRecord}
use Rattle.dml_types.specs.declared.operations.Op.TheVariants.{Compare, ComparePattern, CreateDelta, ApplyDelta, Dualcast}
use Rattle.dml_desc.specs.Descriptor.{u8_at, u32_at, u64_at, decoded, bytes_of_record, bytes_of_batch}
use Rattle.dml_types.specs.Job.{op_of}
use Rattle.dml_types.specs.Effect.{code_of}

-- a record's bytes have each field where the header has it, and all else 0
pub record HoldsRecord (outcome : Record) (bytes : List ℕ) : Type 0 where
  pub size : length bytes ≡ 32
  pub status : u8_at bytes 0 ≡ code_of outcome.status
  pub result : u8_at bytes 1 ≡ outcome.result
  pub completed : u32_at bytes 4 ≡ outcome.completed
  pub fault : u64_at bytes 8 ≡ outcome.fault
  pub delta_size : u32_at bytes 16 ≡ outcome.delta_size
  pub zeros_before : (place : ℕ) → 2 ≤ place → place < 4 → slice_index bytes place ≡ 0
  pub zeros_after : (place : ℕ) → 20 ≤ place → place < 32 → slice_index bytes place ≡ 0

pub record HoldsBatch (outcome : BatchRecord) (bytes : List ℕ) : Type 0 where
  pub size : length bytes ≡ 32
  pub status : u8_at bytes 0 ≡ code_of outcome.status
  pub completed : u32_at bytes 4 ≡ outcome.completed
  pub zeros_before : (place : ℕ) → 1 ≤ place → place < 4 → slice_index bytes place ≡ 0
  pub zeros_after : (place : ℕ) → 8 ≤ place → place < 32 → slice_index bytes place ≡ 0

abbrev pub RecordHasItsFields : Type 0
RecordHasItsFields =
    (outcome : Record) → outcome.completed < 2 ^ 32 → outcome.fault < 2 ^ 64 → outcome.delta_size < 2 ^ 32
    → HoldsRecord outcome (bytes_of_record outcome)

abbrev pub BatchHasItsFields : Type 0
BatchHasItsFields =
    (outcome : BatchRecord) → outcome.completed < 2 ^ 32 → HoldsBatch outcome (bytes_of_batch outcome)

-- the fields of every descriptor, each as its first byte and its length: flags and opcode, source, target,
-- size
abbrev pub common : List (ℕ × ℕ)
common = (4, 4) ∷ (16, 8) ∷ (24, 8) ∷ (32, 4) ∷ []

-- those that an operation adds
abbrev pub own : Option Op → List (ℕ × ℕ)
own (Some Compare) = (40, 1) ∷ []
own (Some ComparePattern) = (40, 1) ∷ []
own (Some CreateDelta) = (40, 8) ∷ (48, 4) ∷ (56, 1) ∷ []
own (Some ApplyDelta) = (40, 4) ∷ []
own (Some Dualcast) = (40, 8) ∷ []
own _ = []

-- whether the byte at a place has a meaning
abbrev pub has_meaning : Option Op → ℕ → Bool
has_meaning o place =
    list_any (λ field. nat_le field.0 place && nat_lt place (field.0 + field.1)) (common ++ own o)

-- decoding reads past the bytes without meaning: descriptors that agree on all others are the same job
abbrev pub DecodedByMeaning : Type 0
DecodedByMeaning =
    (a b : List ℕ) → length a ≡ 64 → length b ≡ 64
    → ((place : ℕ) → has_meaning (op_of (decoded a)) place ≡ true → slice_index a place ≡ slice_index b place)
    → decoded a ≡ decoded b
