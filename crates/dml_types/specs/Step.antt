-- A job's step on an image, the fold of a list of jobs, one after another, and the job that is left after a
-- page fault.
use Rattle.std.specs.Prelude.{ℕ, ◌+◌, ◌-◌, ◌*◌, ◌%◌, ◌^◌, Bool, not, ◌&&◌, ◌||◌, List, [], ◌∷◌, ◌++◌, length, map, take, replicate, slice_index_or, Option, None, Some, option_and_then, if◌then◌else◌, ◌==◌, nat_eq, nat_lt}
use Rattle.dml_types.specs.Types.{Job, Record, Op, NoOp, Move, Fill, Compare, ComparePattern, CreateDelta, ApplyDelta, Dualcast, Status, BadOpcode, BatchRecord, Abandoned, Success, BatchFailed, list_all, rotate_right, w64}
use Rattle.dml_types.specs.Job.{op_of, is_fenced, unfenced, no_op_job, reads, writes}
use Rattle.dml_types.specs.Memory.{Memory, first, puts_made}
use Rattle.dml_types.specs.Refusal.{refusal}
use Rattle.dml_types.specs.Effect.{code_of, Effect, effect_of, ended, refused}
use Rattle.dml_types.specs.Bytewise.{moved, dualcast, filled, compared}
use Rattle.dml_types.specs.Delta.{created, applied}

-- what an operation does that is not refused
abbrev pub operation_effect : Op → Memory → Job → Effect
operation_effect NoOp memory job = effect_of [] (ended Success 0 0 0)
operation_effect Move memory job = moved memory job
operation_effect Fill memory job = filled memory job
operation_effect Compare memory job = compared Compare memory job
operation_effect ComparePattern memory job = compared ComparePattern memory job
operation_effect CreateDelta memory job = created memory job
operation_effect ApplyDelta memory job = applied memory job
operation_effect Dualcast memory job = dualcast memory job

-- a job without an operation is always refused; the second line is there for totality alone
abbrev pub judged_effect : Option Status → Option Op → Memory → Job → Effect
judged_effect (Some status) op memory job = refused status
judged_effect None None memory job = refused BadOpcode
judged_effect None (Some op) memory job = operation_effect op memory job

unfoldable pub effect : Memory → Job → ℕ → Effect
effect memory job staging = judged_effect (refusal job staging) (op_of job) memory job

-- the new image and the record
abbrev pub step : Memory → Job → ℕ → Memory × Record
step memory job staging = let done = effect memory job staging in (puts_made memory done.puts, done.answer)

-- the last image and the records of a list
abbrev pub memory_after : Memory → List Job → ℕ → Memory
memory_after memory [] staging = memory
memory_after memory (job ∷ jobs) staging = memory_after (step memory job staging).0 jobs staging

abbrev pub records_of : Memory → List Job → ℕ → List Record
records_of memory [] staging = []
records_of memory (job ∷ jobs) staging =
    (step memory job staging).1 ∷ records_of (step memory job staging).0 jobs staging

-- each of these has status 0x01
abbrev pub have_succeeded : List Record → Bool
have_succeeded records = list_all (λ r. nat_eq (code_of r.status) 0x01) records

-- whether a batch ends before the job at a place: it is fenced, and an earlier one has another status
abbrev pub ends_before : List Job → List Record → ℕ → Bool
ends_before jobs records i =
    is_fenced (slice_index_or jobs i no_op_job) && not (have_succeeded (take i records))

-- the jobs of a batch that are carried out, without their fences: those before the first place where it ends
abbrev pub batch_jobs : Memory → List Job → ℕ → List Job
batch_jobs memory jobs staging =
    let free = map unfenced jobs in
    take (first (length jobs) (ends_before jobs (records_of memory free staging))) free

-- the record of a batch: success where each job has it; the jobs are counted, refused ones included
abbrev pub batch_answer : List Record → BatchRecord
batch_answer records =
    record {
      status = if have_succeeded records then Success else BatchFailed;
      completed = length records;
    }

-- a batch is the fold of the jobs that are carried out; all others are abandoned, and their records are zeros
abbrev pub batch : Memory → List Job → ℕ → Memory × BatchRecord × List Record
batch memory jobs staging =
    let done = batch_jobs memory jobs staging in
    let records = records_of memory done staging in
    let zeros = replicate (length jobs - length done) (ended Abandoned 0 0 0) in
    (memory_after memory done staging, batch_answer records, records ++ zeros)

-- a pattern whose byte k mod 8 comes first
abbrev pub turned : ℕ → ℕ → ℕ
turned pattern k = rotate_right w64 pattern (8 * (k % 8))

-- a job without its first k bytes, for the operations that can go on behind them
abbrev pub without_front : Op → Job → ℕ → Option Job
without_front Move job k =
    Some (record job { source = job.source + k; target = job.target + k; size = job.size - k })
without_front Fill job k =
    Some (record job { source = turned job.source k; target = job.target + k; size = job.size - k })
without_front Compare job k =
    Some (record job { source = job.source + k; target = job.target + k; size = job.size - k })
without_front ComparePattern job k =
    Some (record job { source = job.source + k; target = turned job.target k; size = job.size - k })
without_front Dualcast job k =
    Some
    (record job {
      source = job.source + k;
      target = job.target + k;
      extra = job.extra + k;
      size = job.size - k;
    })
without_front _ job k = None

-- that job, where each of its addresses still fits 64 bits
abbrev pub fitting_rest : Op → Job → ℕ → Option Job
fitting_rest op job k =
    if list_all (λ range. nat_lt (range.start + k) (2 ^ 64)) (reads op job ++ writes op job)
    then without_front op job k else None

-- a move with result 1 went backward: what is left is its front
abbrev pub operation_rest : Op → Job → Record → Option Job
operation_rest Move job outcome =
    if outcome.result == 1 then Some (record job { size = job.size - outcome.completed })
    else fitting_rest Move job outcome.completed
operation_rest op job outcome = fitting_rest op job outcome.completed

-- the job that is left after a record: some only after a page fault, a read's (0x03) or a write's (0x83),
-- that left bytes
abbrev pub rest : Job → Record → Option Job
rest job outcome =
    let code = code_of outcome.status in
    if (code == 0x03 || code == 0x83) && nat_lt outcome.completed job.size
    then option_and_then (λ op. operation_rest op job outcome) (op_of job) else None
