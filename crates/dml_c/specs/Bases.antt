-- Jobs whose addresses are the caller's own pointers: the pages begin at a base. Addresses are counted from there and
-- wrap at 2^64. Where the pages end at 2^64 at most (`ArePagesAt`), one below the base lies past their end: that is
-- `law_of_bases`.
use Rattle.std.specs.Prelude.{ℕ, ◌+◌, ◌-◌, ◌%◌, ◌^◌, ◌<◌, ◌≤◌, ◌⊎◌, ◌||◌, List, length, Option, Some, if◌then◌else◌, ◌==◌}
use Rattle.dml_types.specs.declared.jobs.Job.{Job}
use Rattle.dml_types.specs.declared.records.Record.{Record}
use Rattle.dml_types.specs.declared.operations.Op.{Op}
use Rattle.dml_types.specs.declared.operations.Op.TheVariants.{Move, Fill, Compare, ComparePattern}
use Rattle.dml_types.specs.declared.operations.Op.TheVariants.{CreateDelta, ApplyDelta, Dualcast}
use Rattle.dml_types.specs.Effect.{code_of}
use Rattle.dml_types.specs.Job.{op_of}
use Rattle.dml_effect.specs.Pages.{IsPages}

-- how far an address lies behind a base, and the address that lies so far behind it
abbrev pub distance : ℕ → ℕ → ℕ
distance base address = (address + (2 ^ 64 - base)) % 2 ^ 64

abbrev pub address_at : ℕ → ℕ → ℕ
address_at base distance = (base + distance) % 2 ^ 64

-- an operation's addresses counted from a base; patterns and fields without meaning stay
abbrev pub counted_by : Option Op → ℕ → Job → Job
counted_by (Some Move) base job = record job { source = distance base job.source; target = distance base job.target }
counted_by (Some Fill) base job = record job { target = distance base job.target }
counted_by (Some Compare) base job = record job { source = distance base job.source; target = distance base job.target }
counted_by (Some ComparePattern) base job = record job { source = distance base job.source }
counted_by (Some CreateDelta) base job =
    record job { source = distance base job.source; target = distance base job.target; extra = distance base job.extra }
counted_by (Some ApplyDelta) base job =
    record job { source = distance base job.source; target = distance base job.target }
counted_by (Some Dualcast) base job =
    record job { source = distance base job.source; target = distance base job.target; extra = distance base job.extra }
counted_by _ base job = job

abbrev pub counted : ℕ → Job → Job
counted base job = counted_by (op_of job) base job

-- a record whose fault, where it is one of pages, has the caller's address
abbrev pub answered_at : ℕ → Record → Record
answered_at base answer =
    if code_of answer.status == 0x03 || code_of answer.status == 0x83
    then record answer { fault = address_at base answer.fault } else answer

-- whole pages whose first byte has this address, and which end at 2^64 at most, as those of real memory do
pub record ArePagesAt (base : ℕ) (content : List ℕ) : Type 0 where
  pub pages : IsPages content
  pub unwrapped : base + length content ≤ 2 ^ 64

-- a range of the caller's that goes on over the base: it begins below it, or comes there again behind 2^64
abbrev pub GoesOver : ℕ → ℕ → ℕ → Type 0
GoesOver base address n =
    ((address < base) × (base < address + n)) ⊎ ((base ≤ address) × (base + 2 ^ 64 < address + n))
