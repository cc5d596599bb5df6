-- The pieces of a job: the values of its chunks on an image, upwards, each in its own region of one opening.
use Rattle.std.specs.Prelude.{◌≡◌, ◌≢◌, ℕ, ◌+◌, ◌/◌, ◌≤◌, List, [], ◌∷◌, Option, Some, ⊤, MatchOption, option_map}
use Rattle.std.specs.Iterator.{AlwaysYields}
use Rattle.dml_types.specs.declared.jobs.Job.{Job}
use Rattle.dml_types.specs.declared.operations.Op.{Op}
use Rattle.dml_types.specs.declared.operations.Op.TheVariants.{CreateDelta, ApplyDelta}
use Rattle.dml_types.specs.Job.{op_of}
use Rattle.dml_types.specs.Memory.{Memory}
pub use Rattle.dml_types.specs.Chunk.{scan_size}
use Rattle.dml_types.specs.Chunk.{scan_found, scan_staged, create_fault, create_staged}
use Rattle.dml_types.specs.Chunk.{apply_bad, apply_first, apply_last, apply_staged}
use Rattle.dml_arena.specs.Piece.{Piece}
use Rattle.dml_scan.specs.declared.scans.ScanPiece.{ScanPiece}
use Rattle.dml_delta.specs.declared.applies.ApplyPiece.{ApplyPiece}
use Rattle.dml_delta.specs.declared.creates.CreatePiece.{CreatePiece}
use Rattle.dml_delta.specs.Bad.{bad_of}

-- Pieces of any kind, by what it means to be the value of the chunk from an offset on, the end of that chunk,
-- and the region.
-- a region lies right behind another one's room
abbrev pub IsBehind : Piece → Piece → Type 0
IsBehind before next = (next.opening ≡ before.opening) × (next.start ≡ before.start + before.room)

abbrev pub FirstIsBehind : {P : Type 0} → (P → Piece) → Piece → List P → Type 0
FirstIsBehind region before [] = ⊤
FirstIsBehind region before (next ∷ pieces) = IsBehind before (region next)

-- the values of all chunks from an offset up to the job's last
abbrev pub AreChunksFrom : {P : Type 0} → (ℕ → P → Type 0) → (P → ℕ) → (P → Piece) → ℕ → ℕ → List P → Type 0
AreChunksFrom IsValueFrom end region last from [] = from ≡ last
AreChunksFrom IsValueFrom end region last from (piece ∷ pieces) =
    IsValueFrom from piece × FirstIsBehind region (region piece) pieces
    × AreChunksFrom IsValueFrom end region last (end piece) pieces

-- Scans, by offsets. A job that goes offset by offset, or a no-op; create goes by blocks and apply by entries
abbrev pub GoesByOffsets : Job → Type 0
GoesByOffsets job = (op_of job ≢ Some CreateDelta) × (op_of job ≢ Some ApplyDelta)

-- the piece is the value of the chunk from an offset up to its own end
pub record IsScanFrom (op : Op) (memory : Memory) (job : Job) (from : ℕ) (piece : ScanPiece) : Type 0 where
  pub begins : piece.from ≡ from
  pub order : from ≤ piece.to
  pub found : piece.found ≡ scan_found op memory job from piece.to
  pub staged : piece.staged.bytes ≡ scan_staged op memory job from piece.to

abbrev pub AreScans : Op → Memory → Job → List ScanPiece → Type 0
AreScans op memory job =
    AreChunksFrom (IsScanFrom op memory job) (λ piece. piece.to) (λ piece. piece.staged) (scan_size op job) 0

-- an iterator, by what its calls of `next` give, yields the values of all chunks of a job that is scanned
pub record YieldsScans {S : Type 0} (steps : S → Option ScanPiece → S → Type 0) (memory : Memory) (job : Job)
    (pieces : S) : Type 0 where
  pub op : Op
  pub operation : op_of job ≡ Some op
  pub chunks : List ScanPiece
  pub yields : AlwaysYields steps (λ piece. piece) pieces chunks
  pub values : AreScans op memory job chunks

-- a piece is the value of the whole job; where there is nothing to scan there may be none
pub record IsWholeScan (memory : Memory) (job : Job) (whole : Option ScanPiece) : Type 0 where
  pub op : Op
  pub operation : op_of job ≡ Some op
  pub value :
      MatchOption whole (scan_size op job ≡ 0)
      (λ piece. IsScanFrom op memory job 0 piece × (piece.to ≡ scan_size op job))

-- Creates, by blocks
pub record IsCreateFrom (memory : Memory) (job : Job) (from : ℕ) (piece : CreatePiece) : Type 0 where
  pub begins : piece.from ≡ from
  pub order : from ≤ piece.to
  pub fault : piece.fault ≡ create_fault memory job from piece.to
  pub staged : piece.staged.bytes ≡ create_staged memory job from piece.to

pub record YieldsCreates {S : Type 0} (steps : S → Option CreatePiece → S → Type 0) (memory : Memory)
    (job : Job) (pieces : S) : Type 0 where
  pub chunks : List CreatePiece
  pub yields : AlwaysYields steps (λ piece. piece) pieces chunks
  pub values :
      AreChunksFrom (IsCreateFrom memory job) (λ piece. piece.to) (λ piece. piece.staged) (job.size / 8) 0 chunks

abbrev pub IsWholeCreate : Memory → Job → Option CreatePiece → Type 0
IsWholeCreate memory job whole =
    MatchOption whole (job.size / 8 ≡ 0)
    (λ piece. IsCreateFrom memory job 0 piece × (piece.to ≡ job.size / 8))

-- Applies, by entries
pub record IsApplyFrom (memory : Memory) (job : Job) (from : ℕ) (piece : ApplyPiece) : Type 0 where
  pub begins : piece.from ≡ from
  pub order : from ≤ piece.to
  pub bad : option_map bad_of piece.bad ≡ apply_bad memory job from piece.to
  pub first : piece.first ≡ apply_first memory job from piece.to
  pub last : piece.last ≡ apply_last memory job from piece.to
  pub staged : piece.staged.bytes ≡ apply_staged memory job from piece.to

pub record YieldsApplies {S : Type 0} (steps : S → Option ApplyPiece → S → Type 0) (memory : Memory)
    (job : Job) (pieces : S) : Type 0 where
  pub chunks : List ApplyPiece
  pub yields : AlwaysYields steps (λ piece. piece) pieces chunks
  pub values :
      AreChunksFrom (IsApplyFrom memory job) (λ piece. piece.to) (λ piece. piece.staged)
      (job.delta_size / 10) 0 chunks

abbrev pub IsWholeApply : Memory → Job → Option ApplyPiece → Type 0
IsWholeApply memory job whole =
    MatchOption whole (job.delta_size / 10 ≡ 0)
    (λ piece. IsApplyFrom memory job 0 piece × (piece.to ≡ job.delta_size / 10))
