-- The values of a wave's tasks, the effects that they are joined to, and their commit.
use Rattle.std.specs.Prelude.{◌≡◌, ℕ, ◌≤◌, List, [], ◌∷◌, Option, None, Some, IsTrue, length, take, drop, slice_set}
use Rattle.std.specs.Global.{Vec}
use Rattle.std.specs.List.{AllZip}
use Rattle.dml_types.specs.declared.jobs.Job.{Job}
use Rattle.dml_types.specs.Memory.{Memory, puts_made}
use Rattle.dml_types.specs.Effect.{Effect}
use Rattle.dml_desc.specs.Checked.{checked_effect, checked_step, IsChecked}
use Rattle.dml_effect.specs.Effects.{are_present, some_puts}
use Rattle.dml_levels.specs.Laws.{Progress}
use Rattle.dml_levels.specs.Tasks.{task_count}
use Rattle.dml_levels.specs.Waves.{job_at}
use Rattle.dml_pool.specs.declared.tasks.Outcome.{Outcome}
use Rattle.dml_pool.specs.declared.tasks.Piece.{Piece}
use Rattle.dml_pool.specs.declared.tasks.Piece.TheVariants.{Scan, Create, Apply}
use Rattle.dml_pool.specs.declared.tasks.Task.{Task}
use Rattle.dml_pool.specs.Slots.{HoldAll}
use Rattle.dml_pool.specs.Tasks.{IsTaskValue}
use Rattle.dml_scan.specs.declared.scans.ScanPiece.{ScanPiece}
use Rattle.dml_delta.specs.declared.applies.ApplyPiece.{ApplyPiece}
use Rattle.dml_delta.specs.declared.creates.CreatePiece.{CreatePiece}
use Rattle.dml_wave.specs.declared.effects.JobEffect.{JobEffect}
use Rattle.dml_wave.specs.Tasks.{AreJobTasks, AreWaveTasks}

-- what a slot refers to is the value of the task
abbrev pub IsValueIn : Memory → Task → Option Outcome → Type 0
IsValueIn memory task None = ⊥
IsValueIn memory task (Some outcome) = IsTaskValue memory task outcome.piece

-- what slots refer to are the values of a job's tasks, in order, whatever its chunks are
abbrev pub HoldJob : Memory → Job → List (Option Outcome) → Type 0
HoldJob memory job slots =
    (chunk : ℕ) × (tasks : List Task) × AreJobTasks job chunk tasks × AllZip (IsValueIn memory) tasks slots

-- those of the jobs at these places, one after another
abbrev pub HoldWave : Memory → List Job → ℕ → List ℕ → List (Option Outcome) → Type 0
HoldWave memory jobs chunk [] slots = slots ≡ []
HoldWave memory jobs chunk (i ∷ places) slots =
    (task_count (job_at jobs i) chunk ≤ length slots)
    × HoldJob memory (job_at jobs i) (take (task_count (job_at jobs i) chunk) slots)
    × HoldWave memory jobs chunk places (drop (task_count (job_at jobs i) chunk) slots)

-- lists hold the outcomes of the tasks of the jobs at these places, of which there are so many
pub record HoldOutcomes (memory : Memory) (jobs : List Job) (chunk : ℕ) (places : List ℕ) (count : ℕ)
    (lists : List (Vec (Option Outcome))) : Type 0 where
  pub tasks : List Task
  pub are : AreWaveTasks jobs chunk places tasks
  pub all : HoldAll memory tasks lists
  pub long : count ≡ length tasks

-- a piece, by its kind
abbrev pub scan_of : Piece → Option ScanPiece
scan_of (Scan piece) = Some piece
scan_of _ = None

abbrev pub create_of : Piece → Option CreatePiece
create_of (Create piece) = Some piece
create_of _ = None

abbrev pub apply_of : Piece → Option ApplyPiece
apply_of (Apply piece) = Some piece
apply_of _ = None

-- that of the outcome that a slot refers to
abbrev pub slot_scan : Option Outcome → Option ScanPiece
slot_scan None = None
slot_scan (Some outcome) = scan_of outcome.piece

abbrev pub slot_create : Option Outcome → Option CreatePiece
slot_create None = None
slot_create (Some outcome) = create_of outcome.piece

abbrev pub slot_apply : Option Outcome → Option ApplyPiece
slot_apply None = None
slot_apply (Some outcome) = apply_of outcome.piece

-- what a job does on an image; its puts lie in pages that are present
pub record IsEffectOf (memory : Memory) (job : Job) (done : Effect) : Type 0 where
  pub checked : IsChecked job
  pub answer : done.answer ≡ (checked_step memory job).1
  pub puts : done.puts ≡ some_puts (checked_effect memory job).puts
  pub present : IsTrue (are_present memory done.puts)

-- that of the job at a place
pub record IsEffectAt (memory : Memory) (jobs : List Job) (i : ℕ) (done : JobEffect) : Type 0 where
  pub place : done.place ≡ i
  pub effect : IsEffectOf memory (job_at jobs i) done.effect

-- a job's puts made, and its record written at its place
abbrev pub committed : Progress → JobEffect → Progress
committed now done =
    record {
      image = puts_made now.image done.effect.puts;
      records = slice_set now.records done.place done.effect.answer;
    }
