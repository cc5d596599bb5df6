-- Jobs over the caller's own buffers, by the descriptor. Nothing is staged there: each job is judged with a mebibyte of
-- staging, which is enough for every job.
use Rattle.std.specs.Prelude.{ℕ, ◌+◌, ◌≤◌, List, Option}
use Rattle.dml_types.specs.declared.jobs.Job.{Job}
use Rattle.dml_types.specs.declared.records.Record.{Record}
use Rattle.dml_types.specs.declared.statuses.Status.{Status}
use Rattle.dml_types.specs.Memory.{Memory}
use Rattle.dml_types.specs.Refusal.{refusal}
use Rattle.dml_types.specs.Step.{step}
use Rattle.dml_desc.specs.Descriptor.{decoded}

-- the status of the first rule that a descriptor's job breaks
abbrev pub refusal_of : List ℕ → Option Status
refusal_of descriptor = refusal (decoded descriptor) 1048576

-- what its job leaves and answers on a memory
abbrev pub step_of : Memory → List ℕ → Memory × Record
step_of memory descriptor = step memory (decoded descriptor) 1048576

-- both ranges of a move lie in so many bytes from an address on
pub record LiesIn (start n : ℕ) (job : Job) : Type 0 where
  pub source_begins : start ≤ job.source
  pub source_ends : job.source + job.size ≤ start + n
  pub target_begins : start ≤ job.target
  pub target_ends : job.target + job.size ≤ start + n
