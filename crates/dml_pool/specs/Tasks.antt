-- A task, which is one chunk of a job, and what its worker gives for it.
use Rattle.std.specs.Prelude.{◌≡◌, ◌≢◌, ℕ, ◌-◌, ◌*◌, ◌≤◌, [], option_map}
use Rattle.dml_types.specs.declared.jobs.Job.{Job}
use Rattle.dml_types.specs.declared.operations.Op.{Op}
use Rattle.dml_types.specs.declared.operations.Op.TheVariants.{NoOp, Move, CreateDelta, ApplyDelta, Dualcast}
use Rattle.dml_types.specs.Memory.{Memory}
pub use Rattle.dml_types.specs.Chunk.{units}
use Rattle.dml_types.specs.Chunk.{scan_found, scan_staged, create_staged, create_fault, apply_staged, apply_bad, apply_first, apply_last}
use Rattle.dml_desc.specs.Checked.{operation_of}
use Rattle.dml_arena.specs.Piece.{SamePlace}
use Rattle.dml_arena.specs.Piece as region
use Rattle.dml_scan.specs.declared.scans.ScanPiece.{ScanPiece}
use Rattle.dml_delta.specs.declared.applies.ApplyPiece.{ApplyPiece}
use Rattle.dml_delta.specs.declared.creates.CreatePiece.{CreatePiece}
use Rattle.dml_delta.specs.Bad.{bad_of}
use Rattle.dml_pool.specs.declared.tasks.Task.{Task}
use Rattle.dml_pool.specs.declared.tasks.Piece.{Piece}
use Rattle.dml_pool.specs.declared.tasks.Piece.TheVariants.{Scan, Create, Apply}

-- the task that has this job, these offsets and this region
abbrev pub task_with : Job → ℕ → ℕ → region.Piece → Task
task_with job from to room = record { job = job; from = from; to = to; room = room }

-- how many bytes a chunk of n of these may stage
abbrev pub room_for : Op → ℕ → ℕ
room_for Move n = n
room_for Dualcast n = n
room_for CreateDelta n = 10 * n
room_for ApplyDelta n = 10 * n
room_for _ n = 0

-- what its kernel asks of a task: a chunk of a job that has chunks, and an empty region with room for it
pub record IsRunnable (task : Task) : Type 0 where
  pub operation : operation_of task.job ≢ NoOp
  pub order : task.from ≤ task.to
  pub within : task.to ≤ units (operation_of task.job) task.job
  pub empty : task.room.bytes ≡ []
  pub fits : room_for (operation_of task.job) (task.to - task.from) ≤ task.room.room

-- the piece is the value of the task's chunk, in the task's region: of a scan, a create and an apply
pub record IsScanned (op : Op) (memory : Memory) (task : Task) (piece : ScanPiece) : Type 0 where
  pub chunk : (piece.from ≡ task.from) × (piece.to ≡ task.to)
  pub found : piece.found ≡ scan_found op memory task.job task.from task.to
  pub staged : piece.staged.bytes ≡ scan_staged op memory task.job task.from task.to
  pub place : SamePlace task.room piece.staged

pub record IsCreated (memory : Memory) (task : Task) (piece : CreatePiece) : Type 0 where
  pub chunk : (piece.from ≡ task.from) × (piece.to ≡ task.to)
  pub fault : piece.fault ≡ create_fault memory task.job task.from task.to
  pub staged : piece.staged.bytes ≡ create_staged memory task.job task.from task.to
  pub place : SamePlace task.room piece.staged

pub record IsApplied (memory : Memory) (task : Task) (piece : ApplyPiece) : Type 0 where
  pub chunk : (piece.from ≡ task.from) × (piece.to ≡ task.to)
  pub bad : option_map bad_of piece.bad ≡ apply_bad memory task.job task.from task.to
  pub first : piece.first ≡ apply_first memory task.job task.from task.to
  pub last : piece.last ≡ apply_last memory task.job task.from task.to
  pub staged : piece.staged.bytes ≡ apply_staged memory task.job task.from task.to
  pub place : SamePlace task.room piece.staged

abbrev pub IsOperationValue : Op → Memory → Task → Piece → Type 0
IsOperationValue NoOp memory task piece = ⊥
IsOperationValue CreateDelta memory task (Create piece) = IsCreated memory task piece
IsOperationValue CreateDelta memory task piece = ⊥
IsOperationValue ApplyDelta memory task (Apply piece) = IsApplied memory task piece
IsOperationValue ApplyDelta memory task piece = ⊥
IsOperationValue op memory task (Scan piece) = IsScanned op memory task piece
IsOperationValue op memory task piece = ⊥

-- the same by the job's operation
abbrev pub IsTaskValue : Memory → Task → Piece → Type 0
IsTaskValue memory task piece = IsOperationValue (operation_of task.job) memory task piece
