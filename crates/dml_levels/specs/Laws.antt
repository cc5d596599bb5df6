-- The law of order: in which orders the jobs of a list may be carried out. A job that is refused does nothing,
-- as a no-op does.
use Rattle.std.specs.Prelude.{◌≡◌, ℕ, ◌<◌, Bool, false, List, ◌++◌, length, map, is_some, if◌then◌else◌, slice_set}
use Rattle.dml_types.specs.declared.jobs.Job.{Job}
use Rattle.dml_types.specs.declared.records.Record.{Record}
use Rattle.dml_types.specs.Job.{no_op_job}
use Rattle.dml_types.specs.Memory.{Memory, IsWhole}
use Rattle.dml_types.specs.Refusal.{refusal}
use Rattle.dml_types.specs.Conflict.{conflict, clash_of}
use Rattle.dml_types.specs.Step.{effect, step, memory_after, records_of}
use Rattle.dml_order.specs.Order.{run_all, IsOrder, left_in_order, taken_in_order}
use Rattle.dml_order.specs.Waves.{joined, clash_waves}
use Rattle.dml_levels.specs.Waves.{job_at}

-- a job as far as it does anything
abbrev pub unless_refused : ℕ → Job → Job
unless_refused staging job = if is_some (refusal job staging) then no_op_job else job

-- two jobs, in either order: the same image, and each the same record
pub record MayChange (memory : Memory) (a b : Job) (staging : ℕ) : Type 0 where
  pub image : (step (step memory a staging).0 b staging).0 ≡ (step (step memory b staging).0 a staging).0
  pub first : (step memory a staging).1 ≡ (step (step memory b staging).0 a staging).1
  pub second : (step (step memory a staging).0 b staging).1 ≡ (step memory b staging).1

abbrev pub JobsCommute : Type 0
JobsCommute =
    (memory : Memory) (a b : Job) (staging : ℕ) → IsWhole memory
    → conflict (unless_refused staging a) (unless_refused staging b) ≡ false → MayChange memory a b staging

-- what a job does is the same behind one with which it does not conflict
abbrev pub EffectStands : Type 0
EffectStands =
    (memory : Memory) (a b : Job) (staging : ℕ) → IsWhole memory
    → conflict (unless_refused staging a) (unless_refused staging b) ≡ false
    → effect (step memory a staging).0 b staging ≡ effect memory b staging

-- the image so far, and a record at the place of each job
pub record Progress : Type 0 where
  pub image : Memory
  pub records : List Record

-- the job at a place carried out, with its record at that place
abbrev pub carried : List Job → ℕ → Progress → ℕ → Progress
carried jobs staging now i =
    let done = step now.image (job_at jobs i) staging in
    record { image = done.0; records = slice_set now.records i done.1 }

-- before the first job: what the records are is of no account, if there are as many as jobs
abbrev pub begun : Memory → List Record → Progress
begun memory blank = record { image = memory; records = blank }

abbrev pub in_list_order : Memory → List Job → ℕ → Progress
in_list_order memory jobs staging =
    record { image = memory_after memory jobs staging; records = records_of memory jobs staging }

-- places clash, at least, where their jobs conflict
abbrev pub HoldsConflicts : (ℕ → ℕ → Bool) → List Job → ℕ → Type 0
HoldsConflicts clash jobs staging =
    (i k : ℕ) → i < k → k < length jobs → clash i k ≡ false
    → conflict (unless_refused staging (job_at jobs i)) (unless_refused staging (job_at jobs k)) ≡ false

-- the clashes of the list itself hold its conflicts, and so do those of the list with a no-op for each refused
-- job
abbrev pub OwnClashesHold : Type 0
OwnClashesHold = (jobs : List Job) (staging : ℕ) → HoldsConflicts (clash_of jobs) jobs staging

abbrev pub ClashesWithoutRefusedHold : Type 0
ClashesWithoutRefusedHold =
    (jobs : List Job) (staging : ℕ)
    → HoldsConflicts (clash_of (map (unless_refused staging) jobs)) jobs staging

-- an order in which no job goes before an earlier one that clashes with it gives what the list gives
abbrev pub AnyOrder : Type 0
AnyOrder =
    (memory : Memory) (jobs : List Job) (staging : ℕ) (blank : List Record) (clash : ℕ → ℕ → Bool)
    (order : List ℕ)
    → IsWhole memory → length blank ≡ length jobs → HoldsConflicts clash jobs staging
    → IsOrder clash (length jobs) order
    → run_all (carried jobs staging) (begun memory blank) order ≡ in_list_order memory jobs staging

-- so does the front of such an order, and then the jobs that are left, in list order
abbrev pub FrontThenLeft : Type 0
FrontThenLeft =
    (memory : Memory) (jobs : List Job) (staging : ℕ) (blank : List Record) (clash : ℕ → ℕ → Bool)
    (front behind : List ℕ)
    → IsWhole memory → length blank ≡ length jobs → HoldsConflicts clash jobs staging
    → IsOrder clash (length jobs) (front ++ behind)
    → run_all (carried jobs staging) (begun memory blank) (front ++ left_in_order (length jobs) front)
    ≡ in_list_order memory jobs staging

-- and the front by itself gives what its jobs give in list order
abbrev pub FrontByItself : Type 0
FrontByItself =
    (memory : Memory) (jobs : List Job) (staging : ℕ) (blank : List Record) (clash : ℕ → ℕ → Bool)
    (front behind : List ℕ)
    → IsWhole memory → HoldsConflicts clash jobs staging → IsOrder clash (length jobs) (front ++ behind)
    → run_all (carried jobs staging) (begun memory blank) front
    ≡ run_all (carried jobs staging) (begun memory blank) (taken_in_order (length jobs) front)

-- the waves in order give what the list gives, whatever fits into a wave
abbrev pub WavesInOrder : Type 0
WavesInOrder =
    (memory : Memory) (jobs : List Job) (staging : ℕ) (blank : List Record) (clash : ℕ → ℕ → Bool)
    (fits : List ℕ → Bool)
    → IsWhole memory → length blank ≡ length jobs → HoldsConflicts clash jobs staging
    → run_all (carried jobs staging) (begun memory blank) (joined (clash_waves fits clash (length jobs)))
    ≡ in_list_order memory jobs staging

-- and the first of the waves, and then the jobs that are left, in list order
abbrev pub WavesThenLeft : Type 0
WavesThenLeft =
    (memory : Memory) (jobs : List Job) (staging : ℕ) (blank : List Record) (clash : ℕ → ℕ → Bool)
    (fits : List ℕ → Bool)
    (front behind : List (List ℕ))
    → IsWhole memory → length blank ≡ length jobs → HoldsConflicts clash jobs staging
    → clash_waves fits clash (length jobs) ≡ front ++ behind
    → run_all (carried jobs staging) (begun memory blank)
    (joined front ++ left_in_order (length jobs) (joined front))
    ≡ in_list_order memory jobs staging
