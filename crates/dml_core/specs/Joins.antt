-- At a commit the kept values of a job are what the joins of effects ask for: pieces that carry them, each in
-- its own region right behind the one before, are the values of all chunks of the job, so their join is its step.
use Rattle.std.specs.Prelude.{◌≡◌, ℕ, ◌/◌, false, true, List, [], ◌∷◌, Some, option_map, ⊤}
use Rattle.std.specs.List.{AllZip}
use Rattle.dml_types.specs.Job.{op_of}
use Rattle.dml_types.specs.Limits.{IsValid}
use Rattle.dml_types.specs.Memory.{Memory, IsMemory}
use Rattle.dml_arena.specs.Piece.{Piece}
use Rattle.dml_scan.specs.declared.scans.ScanPiece.{ScanPiece}
use Rattle.dml_delta.specs.declared.applies.ApplyPiece.{ApplyPiece}
use Rattle.dml_delta.specs.declared.creates.CreatePiece.{CreatePiece}
use Rattle.dml_delta.specs.Bad.{bad_of}
use Rattle.dml_effect.specs.Chunks.{AreChunksFrom, AreScans, FirstIsBehind, GoesByOffsets, IsApplyFrom, IsCreateFrom}
use Rattle.dml_order.specs.Order.{is_in}
use Rattle.dml_core.specs.Types.{Settings, Op, CreateDelta, ApplyDelta, Task, Step, Commit}
use Rattle.dml_core.specs.Plan.{entry_at, is_refused, jobs_of}
use Rattle.dml_core.specs.World.{Value, Scanned, Created, Applied, World, new_world, wave_at, is_allowed, Reaches}
use Rattle.dml_core.specs.Laws.{job_tasks, JoinToStep, Keeps, kept_value}

-- a piece of these bounds and this value carries what was kept with a task
abbrev pub Carries : World → Task → ℕ → ℕ → Value → Type 0
Carries w task from to value = (from ≡ task.from) × (to ≡ task.to) × (kept_value w task ≡ Some value)

abbrev pub CarriesScan : World → Task → ScanPiece → Type 0
CarriesScan w task piece = Carries w task piece.from piece.to (Scanned piece.found piece.staged.bytes)

abbrev pub CarriesCreate : World → Task → CreatePiece → Type 0
CarriesCreate w task piece = Carries w task piece.from piece.to (Created piece.fault piece.staged.bytes)

abbrev pub CarriesApply : World → Task → ApplyPiece → Type 0
CarriesApply w task piece =
    Carries w task piece.from piece.to
    (Applied (option_map bad_of piece.bad) piece.first piece.last piece.staged.bytes)

-- each region lies right behind the one before
abbrev pub AreNeighbours : {P : Type 0} → (P → Piece) → List P → Type 0
AreNeighbours region [] = ⊤
AreNeighbours region (piece ∷ pieces) =
    FirstIsBehind region (region piece) pieces × AreNeighbours region pieces

-- pieces that carry what was kept with the tasks of the job at a place are the values of all its chunks, upwards:
-- of a scan, of a create and of an apply
pub record MeetsJoins (w : World) (i : ℕ) : Type 0 where
  pub scans :
      (op : Op) → op_of (entry_at w.fetched i).job ≡ Some op → GoesByOffsets (entry_at w.fetched i).job
      → (pieces : List ScanPiece) → AllZip (CarriesScan w) (job_tasks w i) pieces
      → AreNeighbours (λ piece. piece.staged) pieces
      → AreScans op w.image (entry_at w.fetched i).job pieces
  pub creates :
      op_of (entry_at w.fetched i).job ≡ Some CreateDelta
      → (pieces : List CreatePiece) → AllZip (CarriesCreate w) (job_tasks w i) pieces
      → AreNeighbours (λ piece. piece.staged) pieces
      → AreChunksFrom (IsCreateFrom w.image (entry_at w.fetched i).job) (λ piece. piece.to)
      (λ piece. piece.staged) ((entry_at w.fetched i).job.size / 8) 0 pieces
  pub applies :
      op_of (entry_at w.fetched i).job ≡ Some ApplyDelta
      → (pieces : List ApplyPiece) → AllZip (CarriesApply w) (job_tasks w i) pieces
      → AreNeighbours (λ piece. piece.staged) pieces
      → AreChunksFrom (IsApplyFrom w.image (entry_at w.fetched i).job) (λ piece. piece.to)
      (λ piece. piece.staged) ((entry_at w.fetched i).job.delta_size / 10) 0 pieces

-- so it is of each job of the first wave that is not refused
abbrev pub KeptMeetJoins : Type 0
KeptMeetJoins =
    (start : Memory) (given : Settings) (clients : ℕ) (w : World) → Keeps start given clients w → IsValid given
    → is_allowed w Commit ≡ true → (i : ℕ) → is_in i (wave_at w 0) ≡ true
    → is_refused (jobs_of w.fetched) given.staging i ≡ false → MeetsJoins w i

-- both of what is kept with the tasks of the job at a place
pub record GiveTheStep (w : World) (i : ℕ) : Type 0 where
  pub meet_joins : MeetsJoins w i
  pub joined : JoinToStep w i

-- And so after every list of allowed steps from a new world: nothing is asked of the world that they reach, but
-- that a commit is allowed there
abbrev pub CommitsAreSteps : Type 0
CommitsAreSteps =
    (start : Memory) (settings : Settings) (clients : ℕ) (steps : List Step) (w : World) → IsMemory start
    → IsValid settings → Reaches (new_world start settings clients) steps w → is_allowed w Commit ≡ true
    → (i : ℕ) → is_in i (wave_at w 0) ≡ true → is_refused (jobs_of w.fetched) settings.staging i ≡ false
    → GiveTheStep w i
