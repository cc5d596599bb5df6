-- How memory is lent: no step reads it, and none changes it.
use Rattle.std.proofs.Common.{◌≡◌, ℕ, List, [], ◌∷◌, Option, None, Some, refl, ◌∙◌, ap, ap₂}
use Rattle.dml_types.specs.Types.{Job, Record, Op, NoOp, Move, Fill, Compare, ComparePattern, CreateDelta, ApplyDelta, Dualcast, Status}
use Rattle.dml_types.specs.Job.{op_of}
use Rattle.dml_types.specs.Memory.{Memory, Loan, on_loan, put, Put, puts_made}
use Rattle.dml_types.specs.Refusal.{refusal}
use Rattle.dml_types.specs.Effect.{Effect}
use Rattle.dml_types.specs.Bytewise.{moved, dualcast, filled, compared}
use Rattle.dml_types.specs.Delta.{created, applied}
use Rattle.dml_types.specs.Step.{effect, operation_effect, judged_effect, step, memory_after, records_of}

pub loan_after_puts : (memory : Memory) (puts : List Put) → (puts_made memory puts).loan ≡ memory.loan
loan_after_puts memory [] = refl
loan_after_puts memory (p ∷ puts) = loan_after_puts (put memory p.address p.bytes) puts

pub puts_otherwise : (memory : Memory) (loan : Loan) (puts : List Put) → puts_made (on_loan memory loan) puts ≡ on_loan (puts_made memory puts) loan
puts_otherwise memory loan [] = refl
puts_otherwise memory loan (p ∷ puts) = puts_otherwise (put memory p.address p.bytes) loan puts

pub loan_after_step : (memory : Memory) (job : Job) (staging : ℕ) → (step memory job staging).0.loan ≡ memory.loan
loan_after_step memory job staging = loan_after_puts memory (effect memory job staging).puts

-- no operation looks at it
by_otherwise : (op : Op) (memory : Memory) (loan : Loan) (job : Job) → operation_effect op (on_loan memory loan) job ≡ operation_effect op memory job
unfolding moved dualcast filled compared created applied
by_otherwise NoOp memory loan job = refl
by_otherwise Move memory loan job = refl
by_otherwise Fill memory loan job = refl
by_otherwise Compare memory loan job = refl
by_otherwise ComparePattern memory loan job = refl
by_otherwise CreateDelta memory loan job = refl
by_otherwise ApplyDelta memory loan job = refl
by_otherwise Dualcast memory loan job = refl

unless_otherwise : (refused : Option Status) (op : Option Op) (memory : Memory) (loan : Loan) (job : Job) → judged_effect refused op (on_loan memory loan) job ≡ judged_effect refused op memory job
unless_otherwise (Some status) op memory loan job = refl
unless_otherwise None None memory loan job = refl
unless_otherwise None (Some op) memory loan job = by_otherwise op memory loan job

pub effect_otherwise : (memory : Memory) (loan : Loan) (job : Job) (staging : ℕ) → effect (on_loan memory loan) job staging ≡ effect memory job staging
unfolding effect
effect_otherwise memory loan job staging = unless_otherwise (refusal job staging) (op_of job) memory loan job

pub record_otherwise : (memory : Memory) (loan : Loan) (job : Job) (staging : ℕ) → (step (on_loan memory loan) job staging).1 ≡ (step memory job staging).1
record_otherwise memory loan job staging = ap (λ (done : Effect). done.answer) (effect_otherwise memory loan job staging)

pub step_otherwise : (memory : Memory) (loan : Loan) (job : Job) (staging : ℕ) → (step (on_loan memory loan) job staging).0 ≡ on_loan (step memory job staging).0 loan
step_otherwise memory loan job staging =
    ap (λ (done : Effect). puts_made (on_loan memory loan) done.puts) (effect_otherwise memory loan job staging)
    ∙ puts_otherwise memory loan (effect memory job staging).puts

-- nor does a list of jobs
pub loan_after_jobs : (memory : Memory) (jobs : List Job) (staging : ℕ) → (memory_after memory jobs staging).loan ≡ memory.loan
loan_after_jobs memory [] staging = refl
loan_after_jobs memory (job ∷ jobs) staging =
    loan_after_jobs (step memory job staging).0 jobs staging ∙ loan_after_step memory job staging

pub jobs_otherwise : (memory : Memory) (loan : Loan) (jobs : List Job) (staging : ℕ) → memory_after (on_loan memory loan) jobs staging ≡ on_loan (memory_after memory jobs staging) loan
jobs_otherwise memory loan [] staging = refl
jobs_otherwise memory loan (job ∷ jobs) staging =
    ap (λ (m : Memory). memory_after m jobs staging) (step_otherwise memory loan job staging)
    ∙ jobs_otherwise (step memory job staging).0 loan jobs staging

pub records_otherwise : (memory : Memory) (loan : Loan) (jobs : List Job) (staging : ℕ) → records_of (on_loan memory loan) jobs staging ≡ records_of memory jobs staging
records_otherwise memory loan [] staging = refl
records_otherwise memory loan (job ∷ jobs) staging =
    ap₂ (λ (r : Record) (rest : List Record). r ∷ rest) (record_otherwise memory loan job staging)
    (ap (λ (m : Memory). records_of m jobs staging) (step_otherwise memory loan job staging)
    ∙ records_otherwise (step memory job staging).0 loan jobs staging)
