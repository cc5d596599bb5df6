-- What was encoded is decoded again.
use Rattle.std.proofs.Common.{◌≡◌, ℕ, ◌%◌, ◌^◌, List, ◌++◌, length, Option, None, Some, option_map, refl, ◌∙◌, ap, ap₂, arith}
use Rattle.std.proofs.lemmas.Nat.{from_le_bytes-to_le_bytes_4, from_le_bytes-to_le_bytes_8}
use Rattle.dml_types.specs.declared.jobs.Job.{Job}
use Rattle.dml_types.specs.declared.operations.Op.{Op}
use Rattle.dml_types.specs.declared.operations.Op.TheVariants.{NoOp, Move, Fill, Compare, ComparePattern, CreateDelta, ApplyDelta, Dualcast}
use Rattle.dml_types.specs.declared.records.Record.{Record}
use Rattle.dml_types.specs.declared.statuses.Status.{Status}
use Rattle.dml_types.specs.declared.statuses.Status.TheVariants.{Success}
use Rattle.dml_types.specs.Job.{plain, op_of}
use Rattle.dml_types.specs.Effect.{code_of, status_with}
use Rattle.dml_desc.specs.Descriptor.{u8_at, u32_at, u64_at, common_fields, with_own_fields, decoded, bytes_of_record}
use Rattle.dml_desc.specs.Encoding.{common_bytes, own_bytes, descriptor_of, with_meaning, record_fields, HasFields, DescriptorIsWhole, DecodedBack, RecordReadBack}

long_by : (o : Option Op) (job : Job) → length (common_bytes job ++ own_bytes o job) ≡ 64
long_by None job = refl
long_by (Some NoOp) job = refl
long_by (Some Move) job = refl
long_by (Some Fill) job = refl
long_by (Some Compare) job = refl
long_by (Some ComparePattern) job = refl
long_by (Some CreateDelta) job = refl
long_by (Some ApplyDelta) job = refl
long_by (Some Dualcast) job = refl

pub descriptor_is_whole : DescriptorIsWhole
descriptor_is_whole job = long_by (op_of job) job

-- the fields that stand in every descriptor
abbrev shared_fields : Job → Job
shared_fields job = record (plain job.opcode) { flags = job.flags; source = job.source; target = job.target; size = job.size }

shared_back : (job : Job) (own : List ℕ) → HasFields job → common_fields (common_bytes job ++ own) ≡ shared_fields job
shared_back job own fits =
    let bytes = common_bytes job ++ own in
    let flags : u32_at bytes 4 % 2 ^ 24 ≡ job.flags = omega (arith, fits.flags) in
    let source : u64_at bytes 16 ≡ job.source = from_le_bytes-to_le_bytes_8 job.source fits.source in
    let target : u64_at bytes 24 ≡ job.target = from_le_bytes-to_le_bytes_8 job.target fits.target in
    let size : u32_at bytes 32 ≡ job.size = from_le_bytes-to_le_bytes_4 job.size fits.size in
    ap₂ (λ (f s : ℕ). record (plain job.opcode) { flags = f; source = s; target = u64_at bytes 24; size = u32_at bytes 32 }) flags source
    ∙ ap₂ (λ (t n : ℕ). record (plain job.opcode) { flags = job.flags; source = job.source; target = t; size = n }) target size

-- and those that an operation adds
own_back : (o : Option Op) (job : Job) → HasFields job → with_own_fields o (common_bytes job ++ own_bytes o job) (shared_fields job) ≡ with_meaning o job
own_back None job fits = refl
own_back (Some NoOp) job fits = refl
own_back (Some Move) job fits = refl
own_back (Some Fill) job fits = refl
own_back (Some Compare) job fits = refl
own_back (Some ComparePattern) job fits = refl
own_back (Some CreateDelta) job fits =
    ap₂ (λ (e d : ℕ). record job { extra = e; delta_size = d }) (from_le_bytes-to_le_bytes_8 job.extra fits.extra) (from_le_bytes-to_le_bytes_4 job.delta_size fits.delta_size)
own_back (Some ApplyDelta) job fits =
    ap (λ (d : ℕ). record job { extra = 0; delta_size = d; expected = 0 }) (from_le_bytes-to_le_bytes_4 job.delta_size fits.delta_size)
own_back (Some Dualcast) job fits =
    ap (λ (e : ℕ). record job { extra = e; delta_size = 0; expected = 0 }) (from_le_bytes-to_le_bytes_8 job.extra fits.extra)

pub decoded_back : DecodedBack
unfolding decoded
decoded_back job fits =
    ap (λ (read : Job). with_own_fields (op_of read) (descriptor_of job) read) (shared_back job (own_bytes (op_of job) job) fits)
    ∙ own_back (op_of job) job fits

-- each status is that of its code
status_back : (status : Status) → status_with (code_of status) ≡ Some status
status_back Success = refl
status_back _ = refl

pub record_read_back : RecordReadBack
record_read_back outcome completed fault delta_size =
    let bytes = bytes_of_record outcome in
    let done : u32_at bytes 4 ≡ outcome.completed = from_le_bytes-to_le_bytes_4 outcome.completed completed in
    let place : u64_at bytes 8 ≡ outcome.fault = from_le_bytes-to_le_bytes_8 outcome.fault fault in
    let delta : u32_at bytes 16 ≡ outcome.delta_size = from_le_bytes-to_le_bytes_4 outcome.delta_size delta_size in
    ap (option_map (record_fields bytes)) (status_back outcome.status)
    ∙ (ap₂ (λ (c f : ℕ). Some (record outcome { completed = c; fault = f; delta_size = u32_at bytes 16 })) done place
    ∙ ap (λ (d : ℕ). Some (record outcome { delta_size = d })) delta)
