-- A job that a page fault stopped, and what is left of it, carried out after the page was brought.
use Rattle.std.specs.Prelude.{◌≡◌, ◌⊎◌, ℕ, ◌+◌, ◌/◌, ◌^◌, ◌<◌, Bool, true, false, ◌||◌, ◌==◌, List, Some, None, IsSome, length, unwrap_or, option_map}
use Rattle.dml_types.specs.declared.jobs.Job.{Job}
use Rattle.dml_types.specs.declared.operations.Direction.{Direction}
use Rattle.dml_types.specs.declared.operations.Direction.TheVariants.{Forward, Backward}
use Rattle.dml_types.specs.declared.operations.Op.{Op}
use Rattle.dml_types.specs.declared.operations.Op.TheVariants.{Move, Fill, Compare, ComparePattern, Dualcast}
use Rattle.dml_types.specs.declared.records.Record.{Record}
use Rattle.dml_types.specs.declared.statuses.Status.{Status}
use Rattle.dml_types.specs.declared.statuses.Status.TheVariants.{Success}
use Rattle.dml_types.specs.Job.{op_of}
use Rattle.dml_types.specs.Memory.{Memory, IsWhole, page_size}
use Rattle.dml_types.specs.Refusal.{refusal}
use Rattle.dml_types.specs.Effect.{code_of}
use Rattle.dml_types.specs.Bytewise.{operation_direction}
use Rattle.dml_types.specs.Step.{step, rest}
use Rattle.dml_image.specs.Brought.{brought}

-- a page fault stopped the job at a page of the image, this job is left, and these are any bytes for the page
pub record IsStopped (memory : Memory) (job : Job) (staging page : ℕ) (bytes : List ℕ) (left : Job)
    : Type 0 where
  pub whole : IsWhole memory
  pub source : job.source < 2 ^ 64
  pub target : job.target < 2 ^ 64
  pub left_behind : rest job (step memory job staging).1 ≡ Some left
  pub in_page : (step memory job staging).1.fault / page_size ≡ page
  pub is_page : page < length memory.present
  pub page_bytes : length bytes ≡ page_size

-- what is left, on the image that the fault left, with the page
abbrev pub second_part : Memory → Job → ℕ → ℕ → List ℕ → Job → Memory × Record
second_part memory job staging page bytes left =
    step (brought (step memory job staging).0 page bytes) left staging

-- the whole job, on the image before it, with the page
abbrev pub whole_job : Memory → Job → ℕ → ℕ → List ℕ → Memory × Record
whole_job memory job staging page bytes = step (brought memory page bytes) job staging

-- which way a job goes: all but some moves go forward
abbrev pub direction_of : Job → Direction
direction_of job = unwrap_or (option_map (λ op. operation_direction op job) (op_of job)) Forward

-- the second part ends as the whole does: the images are equal, and of the records status and fault; the
-- bytes done add up
pub record EndsAsWhole (first : Record) (second all : Memory × Record) : Type 0 where
  pub image : second.0 ≡ all.0
  pub status : second.1.status ≡ all.1.status
  pub fault : second.1.fault ≡ all.1.fault
  pub completed : first.completed + second.1.completed ≡ all.1.completed

-- a stopped job's parts end as the whole, where `condition` holds of the job, of what is left and of the
-- second record
abbrev pub EndsAsWholeWhere : (Job → Job → Record → Type 0) → Type 0
EndsAsWholeWhere condition =
    (memory : Memory) (job : Job) (staging page : ℕ) (bytes : List ℕ) (left : Job)
    → IsStopped memory job staging page bytes left
    → condition job left (second_part memory job staging page bytes left).1
    → EndsAsWhole (step memory job staging).1 (second_part memory job staging page bytes left)
    (whole_job memory job staging page bytes)

-- fills, dualcasts, compares and the moves that go forward
abbrev pub ForwardResumes : Type 0
ForwardResumes = EndsAsWholeWhere (λ job left second. direction_of job ≡ Forward)

-- a move that went backward, where what is left goes backward too
abbrev pub BackwardResumes : Type 0
BackwardResumes = EndsAsWholeWhere (λ job left second. direction_of left ≡ Backward)

-- or where it ends in success
abbrev pub FinishedResumes : Type 0
FinishedResumes = EndsAsWholeWhere (λ job left second. second.status ≡ Success)

-- the results agree where the job goes forward, as compares do, and where both parts go backward
abbrev pub ResultAgrees : Type 0
ResultAgrees =
    (memory : Memory) (job : Job) (staging page : ℕ) (bytes : List ℕ) (left : Job)
    → IsStopped memory job staging page bytes left
    → (direction_of job ≡ Forward) ⊎ (direction_of left ≡ Backward)
    → (second_part memory job staging page bytes left).1.result
    ≡ (whole_job memory job staging page bytes).1.result

-- what is left is not refused
abbrev pub RestIsAccepted : Type 0
RestIsAccepted =
    (memory : Memory) (job left : Job) (staging : ℕ) → rest job (step memory job staging).1 ≡ Some left
    → refusal left staging ≡ None

-- the operations that can go on
abbrev pub can_go_on : Op → Bool
can_go_on Move = true
can_go_on Fill = true
can_go_on Compare = true
can_go_on ComparePattern = true
can_go_on Dualcast = true
can_go_on _ = false

-- a page fault, on a read or on a write
abbrev pub is_page_fault : Status → Bool
is_page_fault status = code_of status == 0x03 || code_of status == 0x83

-- a page fault of such an operation always leaves a job
abbrev pub FaultLeavesRest : Type 0
FaultLeavesRest =
    (memory : Memory) (job : Job) (staging : ℕ) (op : Op) → op_of job ≡ Some op → can_go_on op ≡ true
    → is_page_fault (step memory job staging).1.status ≡ true → IsSome (rest job (step memory job staging).1)
