-- The tasks of a wave's jobs, job after job.
use Rattle.std.specs.Prelude.{◌≡◌, ℕ, ◌+◌, ◌≤◌, min, List, [], ◌∷◌, ◌++◌, length}
use Rattle.std.specs.List.{All}
use Rattle.dml_types.specs.declared.jobs.Job.{Job}
use Rattle.dml_types.specs.Chunk.{chunk_units}
use Rattle.dml_desc.specs.Checked.{operation_of}
use Rattle.dml_effect.specs.Chunks.{AreChunksFrom}
use Rattle.dml_levels.specs.Tasks.{task_count}
use Rattle.dml_levels.specs.Waves.{job_at}
use Rattle.dml_pool.specs.declared.tasks.Task.{Task}
use Rattle.dml_pool.specs.Tasks.{units, IsRunnable}

-- the task is a chunk of the job from an offset on, in the units that its operation is cut by: of as many as a
-- chunk of so many bytes has, or of what is left
pub record IsTaskFrom (job : Job) (chunk from : ℕ) (task : Task) : Type 0 where
  pub of : task.job ≡ job
  pub begins : task.from ≡ from
  pub order : from ≤ task.to
  pub ends : task.to ≡ min (units (operation_of job) job) (from + chunk_units (operation_of job) chunk)

-- the tasks of a job: all its chunks upwards, each region right behind the one before
abbrev pub AreJobTasks : Job → ℕ → List Task → Type 0
AreJobTasks job chunk tasks =
    AreChunksFrom (IsTaskFrom job chunk) (λ task. task.to) (λ task. task.room)
    (units (operation_of job) job) 0 tasks

-- those of the jobs at these places, one after another
abbrev pub AreWaveTasks : List Job → ℕ → List ℕ → List Task → Type 0
AreWaveTasks jobs chunk [] tasks = tasks ≡ []
AreWaveTasks jobs chunk (i ∷ places) tasks =
    (mine others : List Task)
    × (tasks ≡ mine ++ others)
    × (length mine ≡ task_count (job_at jobs i) chunk)
    × AreJobTasks (job_at jobs i) chunk mine
    × AreWaveTasks jobs chunk places others

-- the tasks of one more job stand behind those of a list
pub record AddsTasks (job : Job) (chunk : ℕ) (old new : List Task) : Type 0 where
  pub mine : List Task
  pub list : new ≡ old ++ mine
  pub count : length mine ≡ task_count job chunk
  pub tasks : AreJobTasks job chunk mine
  pub runnable : All IsRunnable mine
