-- What fits into a wave.
use Rattle.std.specs.Prelude.{◌≡◌, ℕ, ◌≤◌, Bool, ◌&&◌, List, [], nat_le, slice_index_or}
use Rattle.std.specs.List.{sum_by}
use Rattle.dml_types.specs.declared.jobs.Job.{Job}
use Rattle.dml_types.specs.Job.{no_op_job}
use Rattle.dml_types.specs.Refusal.{need}
use Rattle.dml_order.specs.Waves.{waves_of}
use Rattle.dml_levels.specs.declared.filling.Filling.{Filling}
use Rattle.dml_levels.specs.Tasks.{task_count}

abbrev pub job_at : List Job → ℕ → Job
job_at jobs i = slice_index_or jobs i no_op_job

abbrev pub most_tasks : ℕ
most_tasks = 131072

-- the staging that jobs at these places need together, and their chunks
abbrev pub needs_of : List Job → List ℕ → ℕ
needs_of jobs places = sum_by (λ i. need (job_at jobs i)) places

abbrev pub tasks_of : List Job → ℕ → List ℕ → ℕ
tasks_of jobs chunk places = sum_by (λ i. task_count (job_at jobs i) chunk) places

abbrev pub fits_wave : List Job → ℕ → ℕ → List ℕ → Bool
fits_wave jobs staging chunk places =
    nat_le (needs_of jobs places) staging && nat_le (tasks_of jobs chunk places) most_tasks

-- the same as two bounds
pub record IsSmall (jobs : List Job) (staging chunk : ℕ) (places : List ℕ) : Type 0 where
  pub needs : needs_of jobs places ≤ staging
  pub tasks : tasks_of jobs chunk places ≤ most_tasks

-- the waves of a list of jobs, by their levels
abbrev pub waves : List Job → List ℕ → ℕ → ℕ → List (List ℕ)
waves jobs levels staging chunk = waves_of (fits_wave jobs staging chunk) levels

-- a wave that is being filled: the sums are those of its jobs, and it fits
pub record IsFilling (jobs : List Job) (staging chunk : ℕ) (filling : Filling) : Type 0 where
  pub needs : filling.needs ≡ needs_of jobs filling.room.wave
  pub tasks : filling.tasks ≡ tasks_of jobs chunk filling.room.wave
  pub within_staging : filling.needs ≤ staging
  pub within_tasks : filling.tasks ≤ most_tasks

-- no job yet
pub record IsUnfilled (filling : Filling) : Type 0 where
  pub wave : filling.room.wave ≡ []
  pub needs : filling.needs ≡ 0
  pub tasks : filling.tasks ≡ 0
