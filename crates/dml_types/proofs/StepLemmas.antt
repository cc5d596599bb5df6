-- The laws of effects, steps and folds.
use Rattle.std.proofs.Common.{◌≡◌, ℕ, List, [], ◌∷◌, ◌++◌, length, Option, None, Some, refl, ◌∙◌, ap, arith}
use Rattle.dml_types.specs.Types.{Job, Record, Op, NoOp, Status}
use Rattle.dml_types.specs.Job.{op_of}
use Rattle.dml_types.specs.Memory.{Memory, puts_made}
use Rattle.dml_types.specs.Refusal.{refusal}
use Rattle.dml_types.specs.Effect.{Effect, ended, refused}
use Rattle.dml_types.specs.Step.{effect, operation_effect, judged_effect, step, memory_after, records_of}
use Rattle.dml_types.proofs.MemoryLemmas.{puts_present}

pub effect_refused : (memory : Memory) (job : Job) (staging : ℕ) (status : Status) → refusal job staging ≡ Some status → effect memory job staging ≡ refused status
unfolding effect
effect_refused memory job staging status is = ap (λ r. judged_effect r (op_of job) memory job) is

pub effect_accepted : (memory : Memory) (job : Job) (staging : ℕ) (op : Op) → refusal job staging ≡ None → op_of job ≡ Some op → effect memory job staging ≡ operation_effect op memory job
unfolding effect
effect_accepted memory job staging op free is =
    ap (λ r. judged_effect r (op_of job) memory job) free ∙ ap (λ o. judged_effect None o memory job) is

pub step_refused : (memory : Memory) (job : Job) (staging : ℕ) (status : Status) → refusal job staging ≡ Some status → step memory job staging ≡ (memory, ended status 0 0 0)
step_refused memory job staging status is =
    ap (λ (done : Effect). (puts_made memory done.puts, done.answer)) (effect_refused memory job staging status is)

pub step_accepted : (memory : Memory) (job : Job) (staging : ℕ) (op : Op) → refusal job staging ≡ None → op_of job ≡ Some op → step memory job staging ≡ (puts_made memory (operation_effect op memory job).puts, (operation_effect op memory job).answer)
step_accepted memory job staging op free is =
    ap (λ (done : Effect). (puts_made memory done.puts, done.answer)) (effect_accepted memory job staging op free is)

pub step_present : (memory : Memory) (job : Job) (staging : ℕ) → (step memory job staging).0.present ≡ memory.present
step_present memory job staging = puts_present memory (effect memory job staging).puts

-- a no-op leaves the image, refused or not
pub no_op_stays : (memory : Memory) (job : Job) (staging : ℕ) → op_of job ≡ Some NoOp → (step memory job staging).0 ≡ memory
no_op_stays memory job staging is =
    elim (refusal job staging) as (λ (r : Option Status). refusal job staging ≡ r → (step memory job staging).0 ≡ memory) [
      | None ↦ λ free. ap (λ (p : Memory × Record). p.0) (step_accepted memory job staging NoOp free is)
      | Some status ↦ λ broken. ap (λ (p : Memory × Record). p.0) (step_refused memory job staging status broken)
    ] refl

-- the fold of a list cut in two, and one record for each job
pub memory_after_append : (memory : Memory) (jobs more : List Job) (staging : ℕ) → memory_after memory (jobs ++ more) staging ≡ memory_after (memory_after memory jobs staging) more staging
memory_after_append memory [] more staging = refl
memory_after_append memory (job ∷ jobs) more staging = memory_after_append (step memory job staging).0 jobs more staging

pub records_of_append : (memory : Memory) (jobs more : List Job) (staging : ℕ) → records_of memory (jobs ++ more) staging ≡ records_of memory jobs staging ++ records_of (memory_after memory jobs staging) more staging
records_of_append memory [] more staging = refl
records_of_append memory (job ∷ jobs) more staging =
    ap (λ rest. (step memory job staging).1 ∷ rest) (records_of_append (step memory job staging).0 jobs more staging)

pub length_records_of : (memory : Memory) (jobs : List Job) (staging : ℕ) → length (records_of memory jobs staging) ≡ length jobs
length_records_of memory [] staging = refl
length_records_of memory (job ∷ jobs) staging = omega (arith, length_records_of (step memory job staging).0 jobs staging)

pub memory_after_present : (memory : Memory) (jobs : List Job) (staging : ℕ) → (memory_after memory jobs staging).present ≡ memory.present
memory_after_present memory [] staging = refl
memory_after_present memory (job ∷ jobs) staging =
    memory_after_present (step memory job staging).0 jobs staging ∙ step_present memory job staging
