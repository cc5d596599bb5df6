-- The 64 bytes of a descriptor and the 32 of a completion record, with the layout of `linux/idxd.h`. All
-- numbers are little-endian.
use Rattle.std.specs.Prelude.{ℕ, ◌+◌, ◌%◌, ◌^◌, List, ◌∷◌, ◌++◌, Option, Some, replicate, slice_index, slice_range}
use Rattle.std.specs.Int.{from_le_bytes, to_le_bytes, w32, w64}
use Rattle.dml_types.specs.declared.jobs.Job.{Job}
use Rattle.dml_types.specs.declared.operations.Op.{Op}
use Rattle.dml_types.specs.declared.operations.Op.TheVariants.{Compare, ComparePattern, CreateDelta, ApplyDelta, Dualcast}
use Rattle.dml_types.specs.declared.records.BatchRecord.{BatchRecord}
use Rattle.dml_types.specs.declared.records.Record.{Record}
use Rattle.dml_types.specs.Job.{plain, op_of}
use Rattle.dml_types.specs.Effect.{code_of}

-- the fields at a byte of a descriptor: 1, 4 and 8 bytes
abbrev pub u8_at : List ℕ → ℕ → ℕ
u8_at bytes place = slice_index bytes place

abbrev pub u32_at : List ℕ → ℕ → ℕ
u32_at bytes place = from_le_bytes w32 (slice_range bytes place (place + 4))

abbrev pub u64_at : List ℕ → ℕ → ℕ
u64_at bytes place = from_le_bytes w64 (slice_range bytes place (place + 8))

-- the fields that stand in every descriptor
abbrev pub common_fields : List ℕ → Job
common_fields bytes =
    record (plain (u8_at bytes 7)) {
      flags = u32_at bytes 4 % 2 ^ 24;
      source = u64_at bytes 16;
      target = u64_at bytes 24;
      size = u32_at bytes 32;
    }

-- those that an operation adds; elsewhere its descriptor is read past
abbrev pub with_own_fields : Option Op → List ℕ → Job → Job
with_own_fields (Some Compare) bytes job = record job { expected = u8_at bytes 40 }
with_own_fields (Some ComparePattern) bytes job = record job { expected = u8_at bytes 40 }
with_own_fields (Some CreateDelta) bytes job =
    record job { extra = u64_at bytes 40; delta_size = u32_at bytes 48; expected = u8_at bytes 56 }
with_own_fields (Some ApplyDelta) bytes job = record job { delta_size = u32_at bytes 40 }
with_own_fields (Some Dualcast) bytes job = record job { extra = u64_at bytes 40 }
with_own_fields _ bytes job = job

-- the job of a descriptor
unfoldable pub decoded : List ℕ → Job
decoded bytes = let job = common_fields bytes in with_own_fields (op_of job) bytes job

-- the bytes of a job's completion record, and of a batch's
abbrev pub bytes_of_record : Record → List ℕ
bytes_of_record outcome =
    code_of outcome.status ∷ outcome.result ∷ 0 ∷ 0 ∷ to_le_bytes w32 outcome.completed
    ++ to_le_bytes w64 outcome.fault ++ to_le_bytes w32 outcome.delta_size ++ replicate 12 0

abbrev pub bytes_of_batch : BatchRecord → List ℕ
bytes_of_batch outcome =
    code_of outcome.status ∷ 0 ∷ 0 ∷ 0 ∷ to_le_bytes w32 outcome.completed ++ replicate 24 0
