-- Worked rows of the order of refusals.
use Rattle.std.specs.Prelude.{◌≡◌, None, Some}
use Rattle.dml_types.specs.declared.jobs.Job.{Job}
use Rattle.dml_types.specs.declared.statuses.Status.{Status}
use Rattle.dml_types.specs.declared.statuses.Status.TheVariants.{BadOpcode, BadSize, BadDeltaSize, Overlap, DualcastBits, Misaligned}
use Rattle.dml_types.specs.Job.{plain, no_op_job, create_job, apply_job, dualcast_job}
use Rattle.dml_types.specs.Refusal.{refusal}
use Rattle.dml_plain.specs.Row.{flagged, usual_staging}

-- a job is refused with a status; or it is accepted
abbrev pub IsRefused : Job → Status → Type 0
IsRefused job status = refusal job usual_staging ≡ Some status

abbrev pub IsAccepted : Job → Type 0
IsAccepted job = refusal job usual_staging ≡ None

unfoldable pub dualcast_bits_refused : Type 0
dualcast_bits_refused = IsRefused (dualcast_job 0 8 16 100) DualcastBits

unfoldable pub create_size_refused : Type 0
create_size_refused = IsRefused (create_job 4 64 12 128 15) BadSize

unfoldable pub create_delta_size_refused : Type 0
create_delta_size_refused =
    IsRefused (create_job 4 64 16 128 15) BadDeltaSize × IsRefused (create_job 4 64 16 128 20) Misaligned

unfoldable pub apply_overlap_refused : Type 0
apply_overlap_refused = IsRefused (apply_job 0 20 16 32) Overlap × IsAccepted (apply_job 0 0 0 32)

unfoldable pub create_overlap_refused : Type 0
create_overlap_refused = IsRefused (create_job 0 64 16 70 20) Overlap

unfoldable pub opcode_before_flags : Type 0
opcode_before_flags =
    IsRefused (flagged (plain 0x10) 0x10) BadOpcode × IsAccepted (record no_op_job { size = 4294967295 })
