-- A list of jobs that is carried out wave by wave.
use Rattle.std.specs.Prelude.{◌≡◌, ℕ, ◌<◌, false, List, length, slice_index_or, unwrap_or}
use Rattle.std.specs.List.{All}
use Rattle.dml_types.specs.declared.jobs.Job.{Job}
use Rattle.dml_types.specs.declared.records.Record.{Record}
use Rattle.dml_types.specs.declared.statuses.Status.TheVariants.{Success}
use Rattle.dml_types.specs.Effect.{ended}
use Rattle.dml_types.specs.Job.{unfenced}
use Rattle.dml_types.specs.Refusal.{refusal}
use Rattle.dml_desc.specs.Checked.{operation_of}
use Rattle.dml_levels.specs.Laws.{unless_refused}
use Rattle.dml_levels.specs.Pieces.{fenced_unless_refused}
use Rattle.dml_levels.specs.Waves.{IsSmall, job_at}
use Rattle.dml_wave.specs.Waves.{AreApart, is_busy}
use Rattle.dml_engine.specs.declared.opening.Fences.{Fences}
use Rattle.dml_engine.specs.declared.opening.Fences.TheVariants.{Refused, Accepted}

-- the job that is judged and carried out: in a batch without its fence
abbrev pub judged : Fences → Job → Job
judged Refused = λ job. job
judged Accepted = unfenced

-- a job as far as it does anything; in a batch it has its fence
abbrev pub opened : Fences → ℕ → Job → Job
opened Refused = unless_refused
opened Accepted = fenced_unless_refused

-- the record of a no-op
abbrev pub no_op_record : Record
no_op_record = ended Success 0 0 0

-- the record of a job that does nothing: its refusal, or that of a no-op
abbrev pub idle_record : ℕ → Job → Record
idle_record staging job = ended (unwrap_or (refusal job staging) Success) 0 0 0

-- whether a job does nothing: it is refused, or a no-op
abbrev pub IsIdle : ℕ → Job → Type 0
IsIdle staging job = is_busy (operation_of (unless_refused staging job)) ≡ false

-- there is a record for each job, and each job that does nothing has its own already
pub record AreOpened (jobs : List Job) (staging : ℕ) (records : List Record) : Type 0 where
  pub size : length records ≡ length jobs
  pub idle :
      (i : ℕ) → i < length jobs → IsIdle staging (job_at jobs i)
      → slice_index_or records i no_op_record ≡ idle_record staging (job_at jobs i)

-- a wave that workers may carry out: places of the list whose jobs do not conflict, within the limits of a
-- wave
pub record IsReady (jobs : List Job) (staging chunk : ℕ) (wave : List ℕ) : Type 0 where
  pub places : All (λ i. i < length jobs) wave
  pub apart : AreApart jobs wave
  pub small : IsSmall jobs staging chunk wave
