-- The pieces of a batch, each from one fence up to the next, and the waves of the batch as one list.
use Rattle.std.specs.Prelude.{◌≡◌, ℕ, ◌-◌, ◌<◌, ◌≤◌, true, false, List, [], ◌∷◌, ◌++◌, length, map, filter, take, drop, is_some, if◌then◌else◌, nat_lt, slice_range, bit_and}
use Rattle.std.specs.List.{range_with_len}
use Rattle.dml_types.specs.declared.jobs.Job.{Job}
use Rattle.dml_types.specs.declared.records.Record.{Record}
use Rattle.dml_types.specs.Job.{is_fenced, no_op_job, unfenced}
use Rattle.dml_types.specs.Memory.{Memory, IsWhole}
use Rattle.dml_types.specs.Refusal.{refusal}
use Rattle.dml_types.specs.Conflict.{fenced_levels}
use Rattle.dml_types.specs.Step.{memory_after, records_of}
use Rattle.dml_order.specs.Order.{is_in, run_all}
use Rattle.dml_order.specs.Waves.{further, joined}
use Rattle.dml_levels.specs.Fences.{EndsAtFence, IsFence}
use Rattle.dml_levels.specs.Laws.{begun, carried, in_list_order, unless_refused}
use Rattle.dml_levels.specs.Waves.{job_at, waves}

-- a job of a batch as far as it does anything: for a refused one a no-op, which keeps the fence
abbrev pub fenced_unless_refused : ℕ → Job → Job
fenced_unless_refused staging job =
    if is_some (refusal (unfenced job) staging) then record no_op_job { flags = bit_and job.flags 0x01 }
    else job

-- a batch as one list
abbrev pub one_list : ℕ → List Job → List Job
one_list staging jobs = map (fenced_unless_refused staging) jobs

-- the jobs of a batch between two places as a list by itself, without fences
abbrev pub piece_of : ℕ → List Job → ℕ → ℕ → List Job
piece_of staging jobs from to = map (unless_refused staging) (slice_range (map unfenced jobs) from to)

-- the waves of a list by its own levels
abbrev pub waves_by_levels : ℕ → ℕ → List Job → List (List ℕ)
waves_by_levels staging chunk jobs = waves jobs (fenced_levels jobs) staging chunk

-- a piece begins with the batch or at a fence, and none of its later jobs is fenced
pub record IsPiece (jobs : List Job) (from to : ℕ) : Type 0 where
  pub order : from < to
  pub within : to ≤ length jobs
  pub begins : 0 < from → is_fenced (job_at jobs from) ≡ true
  pub free : (i : ℕ) → from < i → i < to → is_fenced (job_at jobs i) ≡ false

-- the waves of the one list up to the end of a piece are those up to its beginning, and then its own, at their
-- places. So the waves of the one list are those of the pieces, one after another
abbrev pub PiecesAreWaves : Type 0
PiecesAreWaves =
    (jobs : List Job) (staging chunk from to : ℕ) → IsPiece jobs from to
    → waves_by_levels staging chunk (take to (one_list staging jobs))
    ≡ waves_by_levels staging chunk (take from (one_list staging jobs))
    ++ further from (waves_by_levels staging chunk (piece_of staging jobs from to))

-- the places of the fences behind a batch's first job: at each of them a piece begins
abbrev pub later_fences : List Job → List ℕ
later_fences jobs = filter (λ i. is_fenced (job_at jobs i)) (range_with_len 1 (length jobs - 1))

-- the waves of the pieces of a batch, one piece after another: of those from a place on, whose ends are given, and
-- then the end of the batch
abbrev pub waves_of_pieces : ℕ → ℕ → List Job → ℕ → List ℕ → List (List ℕ)
waves_of_pieces staging chunk jobs from [] =
    further from (waves_by_levels staging chunk (piece_of staging jobs from (length jobs)))
waves_of_pieces staging chunk jobs from (to ∷ fences) =
    further from (waves_by_levels staging chunk (piece_of staging jobs from to))
    ++ waves_of_pieces staging chunk jobs to fences

-- the waves of the one list are those of all its pieces
abbrev pub AllPiecesAreWaves : Type 0
AllPiecesAreWaves =
    (jobs : List Job) (staging chunk : ℕ) → 0 < length jobs
    → waves_by_levels staging chunk (one_list staging jobs)
    ≡ waves_of_pieces staging chunk jobs 0 (later_fences jobs)

-- the waves of the one list give the image and the records of the batch's jobs without their fences, where none
-- of them is abandoned
abbrev pub OneListIsFold : Type 0
OneListIsFold =
    (memory : Memory) (jobs : List Job) (staging chunk : ℕ) (blank : List Record)
    → IsWhole memory → length blank ≡ length jobs
    → run_all (carried (map unfenced jobs) staging) (begun memory blank)
    (joined (waves_by_levels staging chunk (one_list staging jobs)))
    ≡ in_list_order memory (map unfenced jobs) staging

-- waves that hold all jobs before a place and no other, and give the image and the records of these without their
-- fences; all other records stay
pub record IsFrontOfBatch (jobs : List Job) (staging place : ℕ) (front : List (List ℕ)) : Type 0 where
  pub holds : (i : ℕ) → is_in i (joined front) ≡ nat_lt i place
  pub fold :
      (memory : Memory) (blank : List Record) → IsWhole memory → length blank ≡ length jobs
      → run_all (carried (map unfenced jobs) staging) (begun memory blank) (joined front)
      ≡ begun (memory_after memory (take place (map unfenced jobs)) staging)
      (records_of memory (take place (map unfenced jobs)) staging ++ drop place blank)

-- such are the waves of the one list before the first with a job at a fence or behind it
abbrev pub WavesMeetFences : Type 0
WavesMeetFences =
    (jobs : List Job) (staging chunk fence : ℕ)
    (front : List (List ℕ)) (next : List ℕ) (behind : List (List ℕ))
    → IsFence jobs fence
    → waves_by_levels staging chunk (one_list staging jobs) ≡ front ++ next ∷ behind
    → EndsAtFence fence front next → IsFrontOfBatch jobs staging fence front
