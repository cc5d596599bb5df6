-- Whose memory it is: no step reads it, and none changes it.
use Rattle.std.proofs.Common.{◌≡◌, ℕ, List, [], ◌∷◌, Option, None, Some, refl, ◌∙◌, ap, ap₂}
use Rattle.dml_types.specs.Types.{Job, Record, Op, NoOp, Move, Fill, Compare, ComparePattern, CreateDelta, ApplyDelta, Dualcast, Status}
use Rattle.dml_types.specs.Job.{op_of}
use Rattle.dml_types.specs.Memory.{Memory, at_home, put, Put, puts_made}
use Rattle.dml_types.specs.Refusal.{refusal}
use Rattle.dml_types.specs.Effect.{Effect}
use Rattle.dml_types.specs.Bytewise.{moved, dualcast, filled, compared}
use Rattle.dml_types.specs.Delta.{created, applied}
use Rattle.dml_types.specs.Step.{effect, operation_effect, judged_effect, step, memory_after, records_of}

pub home_after_puts : (memory : Memory) (puts : List Put) → (puts_made memory puts).home ≡ memory.home
home_after_puts memory [] = refl
home_after_puts memory (p ∷ puts) = home_after_puts (put memory p.address p.bytes) puts

pub puts_elsewhere : (memory : Memory) (home : Option ℕ) (puts : List Put) → puts_made (at_home memory home) puts ≡ at_home (puts_made memory puts) home
puts_elsewhere memory home [] = refl
puts_elsewhere memory home (p ∷ puts) = puts_elsewhere (put memory p.address p.bytes) home puts

pub home_after_step : (memory : Memory) (job : Job) (staging : ℕ) → (step memory job staging).0.home ≡ memory.home
home_after_step memory job staging = home_after_puts memory (effect memory job staging).puts

-- no operation looks at it
by_elsewhere : (op : Op) (memory : Memory) (home : Option ℕ) (job : Job) → operation_effect op (at_home memory home) job ≡ operation_effect op memory job
unfolding moved dualcast filled compared created applied
by_elsewhere NoOp memory home job = refl
by_elsewhere Move memory home job = refl
by_elsewhere Fill memory home job = refl
by_elsewhere Compare memory home job = refl
by_elsewhere ComparePattern memory home job = refl
by_elsewhere CreateDelta memory home job = refl
by_elsewhere ApplyDelta memory home job = refl
by_elsewhere Dualcast memory home job = refl

unless_elsewhere : (refused : Option Status) (op : Option Op) (memory : Memory) (home : Option ℕ) (job : Job) → judged_effect refused op (at_home memory home) job ≡ judged_effect refused op memory job
unless_elsewhere (Some status) op memory home job = refl
unless_elsewhere None None memory home job = refl
unless_elsewhere None (Some op) memory home job = by_elsewhere op memory home job

pub effect_elsewhere : (memory : Memory) (home : Option ℕ) (job : Job) (staging : ℕ) → effect (at_home memory home) job staging ≡ effect memory job staging
unfolding effect
effect_elsewhere memory home job staging = unless_elsewhere (refusal job staging) (op_of job) memory home job

pub record_elsewhere : (memory : Memory) (home : Option ℕ) (job : Job) (staging : ℕ) → (step (at_home memory home) job staging).1 ≡ (step memory job staging).1
record_elsewhere memory home job staging = ap (λ (done : Effect). done.answer) (effect_elsewhere memory home job staging)

pub step_elsewhere : (memory : Memory) (home : Option ℕ) (job : Job) (staging : ℕ) → (step (at_home memory home) job staging).0 ≡ at_home (step memory job staging).0 home
step_elsewhere memory home job staging =
    ap (λ (done : Effect). puts_made (at_home memory home) done.puts) (effect_elsewhere memory home job staging)
    ∙ puts_elsewhere memory home (effect memory job staging).puts

-- nor does a list of jobs
pub home_after_jobs : (memory : Memory) (jobs : List Job) (staging : ℕ) → (memory_after memory jobs staging).home ≡ memory.home
home_after_jobs memory [] staging = refl
home_after_jobs memory (job ∷ jobs) staging =
    home_after_jobs (step memory job staging).0 jobs staging ∙ home_after_step memory job staging

pub jobs_elsewhere : (memory : Memory) (home : Option ℕ) (jobs : List Job) (staging : ℕ) → memory_after (at_home memory home) jobs staging ≡ at_home (memory_after memory jobs staging) home
jobs_elsewhere memory home [] staging = refl
jobs_elsewhere memory home (job ∷ jobs) staging =
    ap (λ (m : Memory). memory_after m jobs staging) (step_elsewhere memory home job staging)
    ∙ jobs_elsewhere (step memory job staging).0 home jobs staging

pub records_elsewhere : (memory : Memory) (home : Option ℕ) (jobs : List Job) (staging : ℕ) → records_of (at_home memory home) jobs staging ≡ records_of memory jobs staging
records_elsewhere memory home [] staging = refl
records_elsewhere memory home (job ∷ jobs) staging =
    ap₂ (λ (r : Record) (rest : List Record). r ∷ rest) (record_elsewhere memory home job staging)
    (ap (λ (m : Memory). records_of m jobs staging) (step_elsewhere memory home job staging)
    ∙ records_elsewhere (step memory job staging).0 home jobs staging)
