-- The words of the worked rows: an image, a list of jobs, and the records and bytes that come of them. The
-- rows' files say these by hand; their proofs evaluate the definitions, on whole pages.
use Rattle.std.specs.Prelude.{◌≡◌, ℕ, ◌+◌, ◌-◌, ◌*◌, ◌/◌, ◌%◌, ◌^◌, Bool, List, ◌++◌, map, length, replicate, Option, None, Some, if◌then◌else◌}
use Rattle.std.specs.List.{range_with_len}
use Rattle.dml_types.specs.declared.jobs.Job.{Job}
use Rattle.dml_types.specs.declared.records.BatchRecord.{BatchRecord}
use Rattle.dml_types.specs.declared.records.Record.{Record}
use Rattle.dml_types.specs.declared.statuses.Status.{Status}
use Rattle.dml_types.specs.Memory.{Memory, memory_of, page_size, has, byte_at}
use Rattle.dml_types.specs.Step.{memory_after, records_of, batch}

-- the n bytes that a number's hexadecimal digits show, from the left
abbrev pub hex : ℕ → ℕ → List ℕ
hex n digits = map (λ i. digits / 256 ^ (n - 1 - i) % 256) (range_with_len 0 n)

-- an image whose present pages hold zeros
abbrev pub image : List Bool → Memory
image present = memory_of present (replicate (page_size * length present) 0) None

-- a job with flags; and one whose result is checked
abbrev pub flagged : Job → ℕ → Job
flagged job flags = record job { flags = flags }

abbrev pub checked : Job → ℕ → Job
checked job expected = record job { flags = 0x80; expected = expected }

-- a record by its five values
abbrev pub answer : Status → ℕ → ℕ → ℕ → ℕ → Record
answer status outcome completed fault delta =
    record { status = status; result = outcome; completed = completed; fault = fault; delta_size = delta }

-- the staging size where a row names no other
abbrev pub usual_staging : ℕ
usual_staging = 1048576

-- the image after a list of jobs
abbrev pub after : Memory → List Job → Memory
after memory jobs = memory_after memory jobs usual_staging

-- these jobs, one after another, have these records
abbrev pub Answers : Memory → List Job → List Record → Type 0
Answers memory jobs records = records_of memory jobs usual_staging ≡ records

-- as a batch they have these records, and the batch has this one
abbrev pub AnswersBatch : Memory → List Job → List Record → Status → ℕ → Type 0
AnswersBatch memory jobs records status completed =
    let done = batch memory jobs usual_staging in
    let whole : BatchRecord = record { status = status; completed = completed } in
    (done.2 ≡ records) × (done.1 ≡ whole)

-- what n bytes show from an address on: a byte, or nothing where it is absent
abbrev pub seen : Memory → ℕ → ℕ → List (Option ℕ)
seen memory address n =
    map (λ i. if has memory (address + i) then Some (byte_at memory (address + i)) else None)
    (range_with_len 0 n)

-- these bytes stand from an address on, followed by so many absent ones
abbrev pub ShowsCut : Memory → ℕ → List ℕ → ℕ → Type 0
ShowsCut memory address bytes absent =
    seen memory address (length bytes + absent) ≡ map Some bytes ++ replicate absent None

abbrev pub Shows : Memory → ℕ → List ℕ → Type 0
Shows memory address bytes = ShowsCut memory address bytes 0
