-- How many bytes workers share at most.
use Rattle.std.proofs.Common.{◌≡◌, ℕ, ◌+◌, ◌<◌, ◌≤◌, ⊎_elim, true, false, cond, List, [], ◌∷◌, map, fold, Option, None, Some, arith}
use Rattle.std.proofs.lemmas.Bool.{cases_lt}
use Rattle.std.specs.Prelude.{bit_and, is_some, nat_lt}
use Rattle.std.proofs.lemmas.List.Sums.{sum_by-cons}
use Rattle.dml_types.specs.declared.jobs.Job.{Job}
use Rattle.dml_types.specs.declared.operations.Op.{Op}
use Rattle.dml_types.specs.declared.operations.Op.TheVariants.{NoOp, Move, Fill, Compare, ComparePattern, CreateDelta, ApplyDelta, Dualcast}
use Rattle.dml_types.specs.Job.{no_op_job, op_of, unfenced}
use Rattle.dml_types.specs.Refusal.{refusal}
use Rattle.dml_desc.specs.Checked.{operation_of}
use Rattle.dml_levels.specs.Tasks.{task_count}
use Rattle.dml_engine.specs.declared.loads.Load.{Load}
use Rattle.dml_engine.specs.declared.opening.Fences.{Fences}
use Rattle.dml_engine.specs.declared.opening.Fences.TheVariants.{Refused, Accepted}
use Rattle.dml_engine.specs.Lists.{opened}
use Rattle.dml_engine.specs.State.{State}
use Rattle.dml_engine.specs.Loads.{is_for_waves, list_workers, load_of, no_load, shareable, shareable_by, shared_by, with_job, workers_for}
use Rattle.std.specs.Prelude.{unwrap_or}

shared_within : (o : Option Op) (job : Job) (tasks : ℕ) → shared_by (unwrap_or o NoOp) job tasks ≤ shareable_by o job
shared_within None job tasks = omega arith
shared_within (Some NoOp) job tasks = omega arith
shared_within (Some Move) job tasks = omega arith
shared_within (Some Fill) job tasks = omega arith
shared_within (Some Compare) job tasks = omega arith
shared_within (Some ComparePattern) job tasks = omega arith
shared_within (Some CreateDelta) job tasks = omega arith
shared_within (Some ApplyDelta) job tasks = omega arith
shared_within (Some Dualcast) job tasks = omega arith

kept_within : (fences : Fences) (job : Job) (staging tasks : ℕ) → shared_by (operation_of (opened fences staging job)) (opened fences staging job) tasks ≤ shareable_by (op_of job) job
kept_within Refused job staging tasks =
    elim (is_some (refusal job staging)) as (λ b. shared_by (operation_of (cond b no_op_job job)) (cond b no_op_job job) tasks ≤ shareable_by (op_of job) job) [
      | true ↦ omega arith
      | false ↦ shared_within (op_of job) job tasks
    ]
kept_within Accepted job staging tasks =
    let fence : Job = record no_op_job { flags = bit_and job.flags 1 } in
    elim (is_some (refusal (unfenced job) staging)) as (λ b. shared_by (operation_of (cond b fence job)) (cond b fence job) tasks ≤ shareable_by (op_of job) job) [
      | true ↦ omega arith
      | false ↦ shared_within (op_of job) job tasks
    ]

load_within : (fences : Fences) (chunk staging : ℕ) (jobs : List Job) (load : Load) → (fold (with_job chunk) load (map (opened fences staging) jobs)).shared ≤ load.shared + shareable jobs
load_within fences chunk staging [] load = omega arith
load_within fences chunk staging (job ∷ jobs) load =
    let kept = opened fences staging job in
    let one = kept_within fences job staging (task_count kept chunk) in
    omega (arith, load_within fences chunk staging jobs (with_job chunk load kept), one, sum_by-cons (λ (j : Job). shareable_by (op_of j) j) job jobs)

few_share : (most bytes : ℕ) → bytes < 1572864 → nat_lt 1 (workers_for most bytes) ≡ false
few_share most bytes few = grind (arith, few)

-- a list whose jobs name too few bytes is given one worker
pub one_worker : (fences : Fences) (chunk staging most : ℕ) (jobs : List Job) → shareable jobs < 1572864 → nat_lt 1 (list_workers most (load_of chunk (map (opened fences staging) jobs))) ≡ false
one_worker fences chunk staging most jobs few =
    few_share most (load_of chunk (map (opened fences staging) jobs)).shared (omega (arith, load_within fences chunk staging jobs no_load, few))

few_workers : (most : ℕ) (load : Load) → most ≤ 1 → nat_lt 1 (list_workers most load) ≡ false
few_workers most load few = grind (arith, few)

-- a list that may not pay by what its jobs name does not
pub not_worth : (engine : State) (fences : Fences) (jobs : List Job) → ((1 < engine.settings.workers) × (1572864 ≤ shareable jobs) → ⊥)
    → is_for_waves engine fences jobs ≡ false
not_worth engine fences jobs never =
    let settings = engine.settings in
    ⊎_elim
    (λ many. ⊎_elim (λ few. one_worker fences settings.chunk settings.staging settings.workers jobs few) (λ more. absurd (never (many, more))) (cases_lt (shareable jobs) 1572864))
    (λ few. few_workers settings.workers (load_of settings.chunk (map (opened fences settings.staging) jobs)) few)
    (cases_lt 1 settings.workers)
