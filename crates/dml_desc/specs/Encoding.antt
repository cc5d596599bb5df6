-- The other way round: a job's descriptor, and the record of a completion record's bytes.
use Rattle.std.specs.Prelude.{◌≡◌, ℕ, ◌^◌, ◌<◌, List, ◌∷◌, ◌++◌, Option, None, Some, option_map, if◌then◌else◌, nat_lt, replicate, take, length}
use Rattle.std.specs.Int.{to_le_bytes, w32, w64}
use Rattle.dml_types.specs.declared.jobs.Job.{Job}
use Rattle.dml_types.specs.declared.operations.Op.{Op}
use Rattle.dml_types.specs.declared.operations.Op.TheVariants.{Compare, ComparePattern, CreateDelta, ApplyDelta, Dualcast}
use Rattle.dml_types.specs.declared.records.Record.{Record}
use Rattle.dml_types.specs.declared.statuses.Status.{Status}
use Rattle.dml_types.specs.Job.{op_of}
use Rattle.dml_types.specs.Effect.{status_with}
use Rattle.dml_desc.specs.Descriptor.{u8_at, u32_at, u64_at, decoded, bytes_of_record}

-- the first 40 bytes of a descriptor, with the fields that stand in every one
abbrev pub common_bytes : Job → List ℕ
common_bytes job =
    replicate 4 0 ++ take 3 (to_le_bytes w32 job.flags) ++ job.opcode ∷ replicate 8 0
    ++ to_le_bytes w64 job.source ++ to_le_bytes w64 job.target ++ to_le_bytes w32 job.size ++ replicate 4 0

-- the last 24, with the fields that an operation adds
abbrev pub own_bytes : Option Op → Job → List ℕ
own_bytes (Some Compare) job = job.expected ∷ replicate 23 0
own_bytes (Some ComparePattern) job = job.expected ∷ replicate 23 0
own_bytes (Some CreateDelta) job =
    to_le_bytes w64 job.extra ++ to_le_bytes w32 job.delta_size ++ replicate 4 0
    ++ job.expected ∷ replicate 7 0
own_bytes (Some ApplyDelta) job = to_le_bytes w32 job.delta_size ++ replicate 20 0
own_bytes (Some Dualcast) job = to_le_bytes w64 job.extra ++ replicate 16 0
own_bytes _ job = replicate 24 0

-- a job's descriptor: the bytes without a meaning are 0
abbrev pub descriptor_of : Job → List ℕ
descriptor_of job = common_bytes job ++ own_bytes (op_of job) job

-- there is none where the flags do not fit 24 bits
abbrev pub encoded : Job → Option (List ℕ)
encoded job = if nat_lt job.flags (2 ^ 24) then Some (descriptor_of job) else None

-- a job with 0 in the fields that have no place in its operation's descriptor
abbrev pub with_meaning : Option Op → Job → Job
with_meaning (Some Compare) job = record job { extra = 0; delta_size = 0 }
with_meaning (Some ComparePattern) job = record job { extra = 0; delta_size = 0 }
with_meaning (Some CreateDelta) job = job
with_meaning (Some ApplyDelta) job = record job { extra = 0; expected = 0 }
with_meaning (Some Dualcast) job = record job { delta_size = 0; expected = 0 }
with_meaning _ job = record job { extra = 0; delta_size = 0; expected = 0 }

-- the record of 32 bytes with a status
abbrev pub record_fields : List ℕ → Status → Record
record_fields bytes status =
    record {
      status = status;
      result = u8_at bytes 1;
      completed = u32_at bytes 4;
      fault = u64_at bytes 8;
      delta_size = u32_at bytes 16;
    }

-- that of 32 bytes, if the first is the code of a status
abbrev pub recorded : List ℕ → Option Record
recorded bytes = option_map (record_fields bytes) (status_with (u8_at bytes 0))

-- a job's fields fit their types, and its flags 24 bits
pub record HasFields (job : Job) : Type 0 where
  pub flags : job.flags < 2 ^ 24
  pub source : job.source < 2 ^ 64
  pub target : job.target < 2 ^ 64
  pub size : job.size < 2 ^ 32
  pub extra : job.extra < 2 ^ 64
  pub delta_size : job.delta_size < 2 ^ 32

-- a descriptor has 64 bytes, and decoding it gives the job back, but for fields without meaning
abbrev pub DescriptorIsWhole : Type 0
DescriptorIsWhole = (job : Job) → length (descriptor_of job) ≡ 64

abbrev pub DecodedBack : Type 0
DecodedBack = (job : Job) → HasFields job → decoded (descriptor_of job) ≡ with_meaning (op_of job) job

-- the bytes of a record give the record back
abbrev pub RecordReadBack : Type 0
RecordReadBack =
    (outcome : Record) → outcome.completed < 2 ^ 32 → outcome.fault < 2 ^ 64 → outcome.delta_size < 2 ^ 32
    → recorded (bytes_of_record outcome) ≡ Some outcome
