-- The law on resuming, for an image, a job, a page and its bytes.
use Rattle.std.specs.Prelude.{◌≡◌, ◌⊎◌, ℕ, ◌/◌, ◌<◌, List, Some, None, IsSome, length, true}
use Rattle.dml_types.specs.declared.jobs.Job.{Job}
use Rattle.dml_types.specs.declared.operations.Direction.TheVariants.{Forward, Backward}
use Rattle.dml_types.specs.declared.operations.Op.{Op}
use Rattle.dml_types.specs.declared.records.Record.{Record}
use Rattle.dml_types.specs.declared.statuses.Status.TheVariants.{Success}
use Rattle.dml_types.specs.Job.{op_of}
use Rattle.dml_types.specs.Memory.{Memory, page_size}
use Rattle.dml_types.specs.Refusal.{refusal}
use Rattle.dml_types.specs.Step.{step, rest}
use Rattle.dml_resume.specs.Resuming.{EndsAsWhole, can_go_on, direction_of, is_page_fault, second_part, whole_job}

-- a page fault stopped the job at this page of the image, and this is left of it
pub record StopsAt (memory : Memory) (job : Job) (staging page : ℕ) (left : Job) : Type 0 where
  pub left_behind : rest job (step memory job staging).1 ≡ Some left
  pub in_page : (step memory job staging).1.fault / page_size ≡ page
  pub is_page : page < length memory.present

module _ (memory : Memory) (job : Job) (staging page : ℕ) (bytes : List ℕ) where
  -- the job and what is left of it end as the whole job with the page, where `condition` holds of the job, of what is
  -- left and of the second record
  abbrev pub ResumesWhere : (Job → Job → Record → Type 0) → Type 0
  ResumesWhere condition =
      (left : Job) → StopsAt memory job staging page left
      → condition job left (second_part memory job staging page bytes left).1
      → EndsAsWhole (step memory job staging).1 (second_part memory job staging page bytes left)
      (whole_job memory job staging page bytes)

  -- fills, dualcasts, compares and the moves that go forward; a move that went backward, where what is left goes
  -- backward too, or ends in success
  abbrev pub ResumesForward : Type 0
  ResumesForward = ResumesWhere (λ job left second. direction_of job ≡ Forward)

  abbrev pub ResumesBackward : Type 0
  ResumesBackward = ResumesWhere (λ job left second. direction_of left ≡ Backward)

  abbrev pub ResumesFinished : Type 0
  ResumesFinished = ResumesWhere (λ job left second. second.status ≡ Success)

  -- the results agree where the job goes forward, and where both parts go backward
  abbrev pub KeepsResult : Type 0
  KeepsResult =
      (left : Job) → StopsAt memory job staging page left
      → (direction_of job ≡ Forward) ⊎ (direction_of left ≡ Backward)
      → (second_part memory job staging page bytes left).1.result
      ≡ (whole_job memory job staging page bytes).1.result

-- what is left is not refused
abbrev pub IsAccepted : Memory → Job → ℕ → Type 0
IsAccepted memory job staging =
    (left : Job) → rest job (step memory job staging).1 ≡ Some left → refusal left staging ≡ None

-- a page fault of an operation that can go on leaves a job
abbrev pub LeavesJob : Memory → Job → ℕ → Type 0
LeavesJob memory job staging =
    (op : Op) → op_of job ≡ Some op → can_go_on op ≡ true
    → is_page_fault (step memory job staging).1.status ≡ true → IsSome (rest job (step memory job staging).1)
