-- How two neighbouring chunks of a job end together, and what a job does whose scan ended so.
use Rattle.std.specs.Prelude.{ℕ, ◌+◌, ◌*◌, Bool, true, false, Option, None, Some, List, [], ◌∷◌, ◌++◌, take}
use Rattle.std.specs.Prelude.{if◌then◌else◌, ◌==◌, nat_eq}
use Rattle.dml_types.specs.declared.findings.Found.{Found}
use Rattle.dml_types.specs.declared.findings.Found.TheVariants.{All, Differs, Fault as Stopped}
use Rattle.dml_types.specs.declared.jobs.Job.{Job}
use Rattle.dml_types.specs.declared.operations.Direction.{Direction}
use Rattle.dml_types.specs.declared.operations.Direction.TheVariants.{Forward, Backward}
use Rattle.dml_types.specs.declared.operations.Op.{Op}
use Rattle.dml_types.specs.declared.operations.Op.TheVariants.{NoOp, Fill, Move, Compare, ComparePattern, Dualcast}
use Rattle.dml_types.specs.declared.records.Record.{Record}
use Rattle.dml_types.specs.declared.statuses.Status.TheVariants.{Success}
use Rattle.dml_types.specs.Memory.{Put, put_of}
use Rattle.dml_types.specs.Effect.{Fault, read_fault, write_fault, ended, faulted, judged}
use Rattle.dml_types.specs.Bytewise.{lowest_done, pattern_bytes, result_of}
use Rattle.dml_types.specs.Delta.{expects}

-- an end, counted from n offsets before
abbrev pub after : ℕ → Found → Found
after n All = All
after n (Differs done) = Differs (n + done)
after n (Stopped done place write) = Stopped (n + done) place write

-- of two parts in the order of work, the first of which has n offsets: the first one's stop, else the second's
abbrev pub then_found : ℕ → Found → Found → Found
then_found n All next = after n next
then_found n (Differs done) next = Differs done
then_found n (Stopped done place write) next = Stopped done place write

abbrev pub is_all : Found → Bool
is_all All = true
is_all (Differs done) = false
is_all (Stopped done place write) = false

-- whether nothing above a chunk that ended so is done any more
abbrev pub is_over : Direction → Found → Bool
is_over Forward All = false
is_over Forward (Differs done) = true
is_over Forward (Stopped done place write) = true
is_over Backward found = false

-- two neighbouring chunks of n and m offsets: how they end together, and the bytes that they stage, in address
-- order
abbrev pub found_joined : Direction → ℕ → Found → ℕ → Found → Found
found_joined Forward n below m above = then_found n below above
found_joined Backward n below m above = then_found m above below

abbrev pub staged_joined : Direction → Found → List ℕ → Found → List ℕ → List ℕ
staged_joined Forward below low above high = if is_all below then low ++ high else low
staged_joined Backward below low above high = if is_all above then low ++ high else high

abbrev pub fault_by : Bool → ℕ → Fault
fault_by write place = if write then write_fault place else read_fault place

-- the record of a copy or a fill of n bytes
abbrev pub copied_record : ℕ → ℕ → Found → Record
copied_record n outcome All = ended Success outcome n 0
copied_record n outcome (Differs done) = ended Success outcome done 0
copied_record n outcome (Stopped done place write) = faulted (fault_by write place) outcome done 0

-- the record of a compare
abbrev pub compared_record : Job → Found → Record
compared_record job All = ended (judged job (job.expected == 0)) 0 job.size 0
compared_record job (Differs done) = ended (judged job (job.expected == 1)) 1 done 0
compared_record job (Stopped done place write) = faulted (fault_by write place) 0 done 0

-- the record of a create whose record range is full before the entry for a block, and of one whose entries were all
-- put, so many bytes
abbrev pub full_record : Job → ℕ → Record
full_record job block = ended (judged job (expects job 2)) 2 (8 * block) job.delta_size

abbrev pub finished_record : Job → ℕ → Record
finished_record job bytes =
    let outcome = (if bytes == 0 then 0 else 1) in ended (judged job (expects job outcome)) outcome job.size bytes

-- the record of a job whose scan ended so
abbrev pub scanned_record : Op → Job → Direction → Found → Record
scanned_record NoOp job direction found = ended Success 0 0 0
scanned_record Compare job direction found = compared_record job found
scanned_record ComparePattern job direction found = compared_record job found
scanned_record op job direction found = copied_record job.size (result_of direction) found

-- the puts of a job that did so many bytes, one at least
abbrev pub puts_when_done : Op → Job → Direction → ℕ → List ℕ → List Put
puts_when_done Move job direction done bytes =
    put_of (job.target + lowest_done direction job.size done) bytes ∷ []
puts_when_done Dualcast job direction done bytes = put_of job.target bytes ∷ put_of job.extra bytes ∷ []
puts_when_done Fill job direction done bytes = put_of job.target (pattern_bytes job.source done) ∷ []
puts_when_done _ job direction done bytes = []

abbrev pub scanned_puts : Op → Job → Direction → ℕ → List ℕ → List Put
scanned_puts op job direction done bytes =
    if nat_eq done 0 then [] else puts_when_done op job direction done bytes

-- two neighbouring chunks of a create: the fault of both, and their entries
abbrev pub fault_joined : Option (ℕ × ℕ) → Option (ℕ × ℕ) → Option (ℕ × ℕ)
fault_joined None above = above
fault_joined (Some fault) above = Some fault

abbrev pub entries_joined : Option (ℕ × ℕ) → List ℕ → List ℕ → List ℕ
entries_joined None low high = low ++ high
entries_joined (Some fault) low high = low

-- the put of a create's first n entries, one at least
abbrev pub record_puts : Job → ℕ → List ℕ → List Put
record_puts job n entries = if nat_eq n 0 then [] else put_of job.extra (take (10 * n) entries) ∷ []
