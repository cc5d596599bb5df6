-- The statuses' codes, and what a job does, found on the image as it stood before: its puts and its record.
use Rattle.std.specs.Prelude.{ℕ, Bool, not, ◌||◌, List, [], ◌∷◌, Option, find, unwrap_or, if◌then◌else◌, ◌==◌, nat_eq, bit_and}
use Rattle.dml_types.specs.Types.{Job, Record, Status, Abandoned, Success, FalsePredicate, ReadFault, BatchFailed, NotRising, OffsetRange, BadOpcode, BadFlags, BadSize, BadDeltaSize, Overlap, DualcastBits, Misaligned, RangePast, StagingRefused, WriteFault, list_all}
use Rattle.dml_types.specs.Memory.{Memory, Put, has}

-- the statuses' codes in a completion record
abbrev pub code_of : Status → ℕ
code_of Abandoned = 0x00
code_of Success = 0x01
code_of FalsePredicate = 0x02
code_of ReadFault = 0x03
code_of BatchFailed = 0x05
code_of NotRising = 0x07
code_of OffsetRange = 0x08
code_of BadOpcode = 0x10
code_of BadFlags = 0x11
code_of BadSize = 0x13
code_of BadDeltaSize = 0x15
code_of Overlap = 0x16
code_of DualcastBits = 0x17
code_of Misaligned = 0x1C
code_of RangePast = 0x7D
code_of StagingRefused = 0x7E
code_of WriteFault = 0x83

-- the status with a code, if there is one
abbrev pub status_with : ℕ → Option Status
status_with code =
    find (λ status. nat_eq code (code_of status))
    (Abandoned ∷ Success ∷ FalsePredicate ∷ ReadFault ∷ BatchFailed ∷ NotRising ∷ OffsetRange ∷ BadOpcode
    ∷ BadFlags ∷ BadSize ∷ BadDeltaSize ∷ Overlap ∷ DualcastBits ∷ Misaligned ∷ RangePast ∷ StagingRefused
    ∷ WriteFault ∷ [])

pub record Effect : Type 0 where
  pub puts : List Put
  pub answer : Record

abbrev pub effect_of : List Put → Record → Effect
effect_of puts answer = record { puts = puts; answer = answer }

-- the record of a job that no fault stopped, with its status
abbrev pub ended : Status → ℕ → ℕ → ℕ → Record
ended status outcome completed delta =
    record { status = status; result = outcome; completed = completed; fault = 0; delta_size = delta }

-- a cause that stops a job: its status, and the address of the absent byte, 0 where it is another cause
pub record Fault : Type 0 where
  pub status : Status
  pub address : ℕ

abbrev pub read_fault : ℕ → Fault
read_fault address = record { status = ReadFault; address = address }

abbrev pub write_fault : ℕ → Fault
write_fault address = record { status = WriteFault; address = address }

-- the record of a job that a fault stopped
abbrev pub faulted : Fault → ℕ → ℕ → ℕ → Record
faulted fault outcome completed delta =
    record {
      status = fault.status;
      result = outcome;
      completed = completed;
      fault = fault.address;
      delta_size = delta;
    }

-- of the faults that may come, in their order: whether none does, and the first that does; `read_fault 0` is
-- for totality alone
abbrev pub is_clear : Memory → List Fault → Bool
is_clear memory faults = list_all (λ fault. has memory fault.address) faults

abbrev pub first_fault : Memory → List Fault → Fault
first_fault memory faults = unwrap_or (find (λ fault. not (has memory fault.address)) faults) (read_fault 0)

-- the status of a job that ended with a result which is the expected one, or not: the flag 0x80 asks for a
-- check
abbrev pub judged : Job → Bool → Status
judged job is_expected =
    if not (nat_eq (bit_and job.flags 0x80) 0x80) || is_expected then Success else FalsePredicate

-- a refused job
abbrev pub refused : Status → Effect
refused status = effect_of [] (ended status 0 0 0)

-- the record of a copy or a fill that did k of the job's n bytes; the faults are those of the offset where it
-- stopped
abbrev pub stopped_at : Memory → Job → ℕ → ℕ → List Fault → Record
stopped_at memory job outcome k faults =
    if k == job.size then ended Success outcome k 0 else faulted (first_fault memory faults) outcome k 0
