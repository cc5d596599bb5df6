-- Jobs that do nothing: with their records at their places, they may be left out of a wave.
use Rattle.std.proofs.Common.{◌≡◌, ℕ, ◌+◌, ◌<◌, Bool, true, false, cond, List, [], ◌∷◌, Some, None, length, get_or, set, map, drop, refl, sym, ◌∙◌, ap, ap₂, subst, ⊎_elim, All}
use Rattle.std.proofs.lemmas.Bool.{cases_eq, false≢true}
use Rattle.std.proofs.lemmas.List.{drop_more, length-map, length-set, get_or-set_same, get_or-set_other, get_or-map, set-get_or}
use Rattle.std.proofs.lemmas.List.Elements.{All-head, All-tail}
use Rattle.std.specs.Prelude.{is_some, unwrap_or}
use Rattle.dml_types.specs.declared.jobs.Job.{Job}
use Rattle.dml_types.specs.declared.records.Record.{Record}
use Rattle.dml_types.specs.declared.operations.Op.{Op}
use Rattle.dml_types.specs.declared.operations.Op.TheVariants.{NoOp, Move, Fill, Compare, ComparePattern, CreateDelta, ApplyDelta, Dualcast}
use Rattle.dml_types.specs.declared.statuses.Status.TheVariants.{Success}
use Rattle.dml_types.specs.Effect.{ended}
use Rattle.dml_types.specs.Job.{no_op_job, unfenced}
use Rattle.dml_types.specs.Memory.{Memory}
use Rattle.dml_types.specs.Refusal.{refusal}
use Rattle.dml_types.specs.Step.{step}
use Rattle.dml_types.proofs.StepLemmas.{step_refused, step_accepted}
use Rattle.dml_desc.specs.Checked.{operation_of}
use Rattle.dml_desc.proofs.CheckedLemmas.{has_operation, checked_where_accepted, unfenced_where_accepted}
use Rattle.dml_order.specs.Order.{run_all}
use Rattle.dml_levels.specs.Laws.{Progress, begun, carried, unless_refused}
use Rattle.dml_levels.specs.Waves.{job_at}
use Rattle.dml_wave.specs.Waves.{busy, is_busy}
use Rattle.dml_engine.specs.Lists.{AreOpened, IsIdle, idle_record, no_op_record}

no_op_where_idle : (op : Op) → is_busy op ≡ false → op ≡ NoOp
no_op_where_idle NoOp idle = refl
no_op_where_idle Move idle = absurd (false≢true (sym idle))
no_op_where_idle Fill idle = absurd (false≢true (sym idle))
no_op_where_idle Compare idle = absurd (false≢true (sym idle))
no_op_where_idle ComparePattern idle = absurd (false≢true (sym idle))
no_op_where_idle CreateDelta idle = absurd (false≢true (sym idle))
no_op_where_idle ApplyDelta idle = absurd (false≢true (sym idle))
no_op_where_idle Dualcast idle = absurd (false≢true (sym idle))

no_op_step : (memory : Memory) (job : Job) (staging : ℕ) → refusal job staging ≡ None → is_busy (operation_of job) ≡ false → step memory job staging ≡ (memory, no_op_record)
no_op_step memory job staging accepted idle =
    let found = has_operation job (checked_where_accepted job staging accepted) in
    let same : operation_of job ≡ found.0 = ap (λ op. unwrap_or op NoOp) found.1 in
    let none : found.0 ≡ NoOp = no_op_where_idle found.0 (sym (ap is_busy same) ∙ idle) in
    step_accepted memory job staging NoOp accepted (found.1 ∙ ap (λ (op : Op). Some op) none)

-- it leaves the image, and answers its record
pub idle_step : (memory : Memory) (job : Job) (staging : ℕ) → IsIdle staging job → step memory job staging ≡ (memory, idle_record staging job)
idle_step memory job staging idle =
    elim (refusal job staging) as (λ r. refusal job staging ≡ r → is_busy (operation_of (cond (is_some r) no_op_job job)) ≡ false → step memory job staging ≡ (memory, ended (unwrap_or r Success) 0 0 0)) [
      | Some status ↦ λ is none. step_refused memory job staging status is
      | None ↦ λ is none. no_op_step memory job staging is none
    ] refl idle

-- a job that does something is none that is refused
busy_same : (job : Job) (staging : ℕ) → is_busy (operation_of (unless_refused staging job)) ≡ true → unless_refused staging job ≡ job
busy_same job staging busy =
    elim (refusal job staging) as (λ r. is_busy (operation_of (cond (is_some r) no_op_job job)) ≡ true → cond (is_some r) no_op_job job ≡ job) [
      | Some status ↦ λ some. absurd (false≢true some)
      | None ↦ λ some. refl
    ] busy

checked_at : (jobs : List Job) (staging i : ℕ) → i < length jobs → job_at (map (unless_refused staging) jobs) i ≡ unless_refused staging (job_at jobs i)
checked_at jobs staging i below = get_or-map (unless_refused staging) jobs i no_op_job no_op_job below

opened_step : (jobs : List Job) (staging : ℕ) (now : Progress) (i : ℕ) → AreOpened jobs staging now.records → i < length jobs → AreOpened jobs staging (carried jobs staging now i).records
opened_step jobs staging now i opened below =
    let answer = (step now.image (job_at jobs i) staging).1 in record {
      size = length-set now.records i answer ∙ opened.size;
      idle = λ k inside idle.
          ⊎_elim (λ same.
          ap (λ j. get_or (set now.records i answer) j no_op_record) same
          ∙ (get_or-set_same now.records i answer no_op_record (subst (λ n. i < n) (sym opened.size) below)
          ∙ (ap (λ j. (step now.image (job_at jobs j) staging).1) (sym same)
          ∙ ap (λ (done : Memory × Record). done.1) (idle_step now.image (job_at jobs k) staging idle))))
          (λ other. get_or-set_other now.records i k answer no_op_record other ∙ opened.idle k inside idle)
          (cases_eq k i);
    }

-- the records of those that do nothing stay
pub opened_after : (jobs : List Job) (staging : ℕ) (wave : List ℕ) (now : Progress) → AreOpened jobs staging now.records → All (λ i. i < length jobs) wave → AreOpened jobs staging (run_all (carried jobs staging) now wave).records
opened_after jobs staging [] now opened places = opened
opened_after jobs staging (i ∷ wave) now opened places =
    opened_after jobs staging wave (carried jobs staging now i)
    (opened_step jobs staging now i opened (All-head (λ i. i < length jobs) i wave places))
    (All-tail (λ i. i < length jobs) i wave places)

-- a job that does nothing has been carried out already
idle_stays : (jobs : List Job) (staging : ℕ) (now : Progress) (i : ℕ) → AreOpened jobs staging now.records → i < length jobs → IsIdle staging (job_at jobs i) → now ≡ carried jobs staging now i
idle_stays jobs staging now i opened below idle =
    let done = idle_step now.image (job_at jobs i) staging idle in
    let kept : set now.records i (idle_record staging (job_at jobs i)) ≡ now.records =
    ap (set now.records i) (sym (opened.idle i below idle)) ∙ set-get_or now.records i no_op_record in
    sym (ap (λ (result : Memory × Record). begun result.0 (set now.records i result.1)) done ∙ ap (begun now.image) kept)

-- a wave without them does what the wave does
pub busy_run : (jobs : List Job) (staging : ℕ) (wave : List ℕ) (now : Progress) → AreOpened jobs staging now.records → All (λ i. i < length jobs) wave → run_all (carried (map (unless_refused staging) jobs) staging) now (busy (map (unless_refused staging) jobs) wave) ≡ run_all (carried jobs staging) now wave
busy_run jobs staging [] now opened places = refl
busy_run jobs staging (i ∷ wave) now opened places =
    let checked = map (unless_refused staging) jobs in
    let after = carried checked staging in
    let below = All-head (λ i. i < length jobs) i wave places in
    let rest = All-tail (λ i. i < length jobs) i wave places in
    let at = checked_at jobs staging i below in
    elim (is_busy (operation_of (job_at checked i))) as (λ b. is_busy (operation_of (job_at checked i)) ≡ b → run_all after now (cond b (i ∷ busy checked wave) (busy checked wave)) ≡ run_all (carried jobs staging) (carried jobs staging now i) wave) [
      | true ↦ λ some.
          let same : job_at checked i ≡ job_at jobs i = at ∙ busy_same (job_at jobs i) staging (sym (ap (λ (job : Job). is_busy (operation_of job)) at) ∙ some) in
          let next : after now i ≡ carried jobs staging now i =
          ap (λ (job : Job). begun (step now.image job staging).0 (set now.records i (step now.image job staging).1)) same in
          ap (λ state. run_all after state (busy checked wave)) next
          ∙ busy_run jobs staging wave (carried jobs staging now i) (opened_step jobs staging now i opened below) rest
      | false ↦ λ none.
          let idle : IsIdle staging (job_at jobs i) = sym (ap (λ (job : Job). is_busy (operation_of job)) at) ∙ none in
          busy_run jobs staging wave now opened rest
          ∙ ap (λ state. run_all (carried jobs staging) state wave) (idle_stays jobs staging now i opened below idle)
    ] refl

-- a job as far as it does anything has no fence
free_unless_refused : (job : Job) (staging : ℕ) → unfenced (unless_refused staging job) ≡ unless_refused staging job
free_unless_refused job staging =
    elim (refusal job staging) as (λ r. refusal job staging ≡ r → unfenced (cond (is_some r) no_op_job job) ≡ cond (is_some r) no_op_job job) [
      | Some status ↦ λ is. refl
      | None ↦ λ is. unfenced_where_accepted job staging is
    ] refl

pub free_checked : (jobs : List Job) (staging : ℕ) → map unfenced (map (unless_refused staging) jobs) ≡ map (unless_refused staging) jobs
free_checked [] staging = refl
free_checked (job ∷ jobs) staging =
    ap (λ (first : Job). first ∷ map unfenced (map (unless_refused staging) jobs)) (free_unless_refused job staging)
    ∙ ap (λ (rest : List Job). unless_refused staging job ∷ rest) (free_checked jobs staging)

-- without their fences as many jobs do anything
busy_unfenced : (checked : List Job) (wave : List ℕ) → All (λ i. i < length checked) wave → busy (map unfenced checked) wave ≡ busy checked wave
busy_unfenced checked [] places = refl
busy_unfenced checked (i ∷ wave) places =
    let at = get_or-map unfenced checked i no_op_job no_op_job (All-head (λ i. i < length checked) i wave places) in
    ap₂ (λ (b : Bool) (rest : List ℕ). cond b (i ∷ rest) rest) (ap (λ (job : Job). is_busy (operation_of job)) at)
    (busy_unfenced checked wave (All-tail (λ i. i < length checked) i wave places))

-- the busy jobs of a wave, checked and without their fences, do what the wave does
pub checked_run : (jobs checked : List Job) (staging : ℕ) (wave : List ℕ) (now : Progress) → map unfenced checked ≡ map (unless_refused staging) jobs → AreOpened jobs staging now.records → All (λ i. i < length checked) wave
    → run_all (carried (map unfenced checked) staging) now (busy checked wave) ≡ run_all (carried jobs staging) now wave
checked_run jobs checked staging wave now free opened places =
    let size : length checked ≡ length jobs = sym (length-map checked unfenced) ∙ (ap length free ∙ length-map jobs (unless_refused staging)) in
    ap (run_all (carried (map unfenced checked) staging) now) (sym (busy_unfenced checked wave places))
    ∙ (ap (λ (list : List Job). run_all (carried list staging) now (busy list wave)) free
    ∙ busy_run jobs staging wave now opened (subst (λ n. All (λ i. i < n) wave) size places))

-- one place of a wave more, where its job does nothing, and where it does something
abbrev pub Remaining : List Job → ℕ → List ℕ → Progress → ℕ → Progress
Remaining checked staging places now at =
    run_all (carried (map unfenced checked) staging) now (busy checked (drop at places))

place_more : (checked : List Job) (staging : ℕ) (places : List ℕ) (now : Progress) (at : ℕ) → at < length places
    → Remaining checked staging places now at
    ≡ run_all (carried (map unfenced checked) staging) now (cond (is_busy (operation_of (job_at checked (get_or places at 0)))) (get_or places at 0 ∷ busy checked (drop (at + 1) places)) (busy checked (drop (at + 1) places)))
place_more checked staging places now at below =
    ap (λ (rest : List ℕ). run_all (carried (map unfenced checked) staging) now (busy checked rest)) (drop_more places at 0 below)

pub idle_more : (checked : List Job) (staging : ℕ) (places : List ℕ) (now : Progress) (at : ℕ) → at < length places
    → is_busy (operation_of (job_at checked (get_or places at 0))) ≡ false
    → Remaining checked staging places now (at + 1) ≡ Remaining checked staging places now at
idle_more checked staging places now at below idle =
    let i = get_or places at 0 in
    let rest = busy checked (drop (at + 1) places) in
    sym (place_more checked staging places now at below
    ∙ ap (λ b. run_all (carried (map unfenced checked) staging) now (cond b (i ∷ rest) rest)) idle)

pub busy_more : (checked : List Job) (staging : ℕ) (places : List ℕ) (now next : Progress) (at : ℕ) → at < length places → get_or places at 0 < length checked
    → is_busy (operation_of (job_at checked (get_or places at 0))) ≡ true
    → next ≡ (let done = step now.image (unfenced (job_at checked (get_or places at 0))) staging in begun done.0 (set now.records (get_or places at 0) done.1))
    → Remaining checked staging places next (at + 1) ≡ Remaining checked staging places now at
busy_more checked staging places now next at below inside some is =
    let i = get_or places at 0 in
    let rest = busy checked (drop (at + 1) places) in
    let after = carried (map unfenced checked) staging in
    let job = get_or-map unfenced checked i no_op_job no_op_job inside in
    let done : next ≡ after now i =
    is ∙ ap (λ (j : Job). begun (step now.image j staging).0 (set now.records i (step now.image j staging).1)) (sym job) in
    ap (λ (state : Progress). run_all after state rest) done
    ∙ sym (place_more checked staging places now at below ∙ ap (λ b. run_all after now (cond b (i ∷ rest) rest)) some)
