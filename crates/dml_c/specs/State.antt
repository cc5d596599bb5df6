-- What stands behind a handle, and what the calls on it leave and answer.
use Rattle.std.specs.Prelude.{ℕ, List, Option, None, Some, map}
use Rattle.dml_types.specs.declared.jobs.Job.{Job}
use Rattle.dml_types.specs.Memory.{Memory}
use Rattle.dml_types.specs.Step.{batch, memory_after, records_of, step}
use Rattle.dml_desc.specs.Descriptor.{bytes_of_batch, bytes_of_record}
use Rattle.dml_image.specs.Brought.{all_absent}

pub record State : Type 0 where
  pub image : Memory
  pub staging : ℕ

-- an engine as it is made
abbrev pub opened : ℕ → ℕ → State
opened pages staging = record { image = all_absent pages; staging = staging }

abbrev pub with_image : State → Memory → State
with_image state image = record state { image = image }

-- an engine after a job, and after a list; where there is none, there is none
abbrev pub submitted : Option State → Job → Option State
submitted None job = None
submitted (Some state) job = Some (with_image state (step state.image job state.staging).0)

abbrev pub submitted_all : Option State → List Job → Option State
submitted_all None jobs = None
submitted_all (Some state) jobs = Some (with_image state (memory_after state.image jobs state.staging))

-- the bytes of a job's record, and of a list's; where there is no engine, those that stood there
abbrev pub answered : Option State → Job → List ℕ → List ℕ
answered None job old = old
answered (Some state) job old = bytes_of_record (step state.image job state.staging).1

abbrev pub answered_all : Option State → List Job → List (List ℕ) → List (List ℕ)
answered_all None jobs old = old
answered_all (Some state) jobs old = map bytes_of_record (records_of state.image jobs state.staging)

-- an engine after a batch, and what the batch and its jobs are answered
abbrev pub batched : Option State → List Job → Option State
batched None jobs = None
batched (Some state) jobs = Some (with_image state (batch state.image jobs state.staging).0)

abbrev pub batch_answered : Option State → List Job → List ℕ → List ℕ
batch_answered None jobs old = old
batch_answered (Some state) jobs old = bytes_of_batch (batch state.image jobs state.staging).1

abbrev pub batch_records : Option State → List Job → List (List ℕ) → List (List ℕ)
batch_records None jobs old = old
batch_records (Some state) jobs old = map bytes_of_record (batch state.image jobs state.staging).2
