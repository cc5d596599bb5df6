-- What is said of the places of a plan.
use Rattle.std.proofs.Common.{◌≡◌, ℕ, ◌-◌, ◌<◌, ◌≤◌, zero, suc, Bool, true, false, not, cond, List, [], ◌∷◌, length, map, filter, Option, None, Some, refl, sym, ◌∙◌, ap, subst, arith, All}
use Rattle.std.proofs.lemmas.Bool.{and_parts, or_left, or_right, ltb-true, eq-eqb}
use Rattle.std.proofs.lemmas.List.{length-map, take_all}
use Rattle.std.proofs.lemmas.List.Folds.{list_any-append}
use Rattle.std.proofs.lemmas.List.Elements.{All-nil, All-cons, All-filter}
use Rattle.std.specs.Prelude.{is_some, nat_eq, nat_lt, slice_index}
use Rattle.dml_types.specs.declared.statuses.Status.{Status}
use Rattle.dml_types.specs.Job.{is_fenced, no_op_job, unfenced}
use Rattle.dml_types.specs.Refusal.{refusal}
use Rattle.dml_types.specs.Conflict.{fenced_levels, levels}
use Rattle.dml_types.proofs.FenceLemmas.{unfenced_free}
use Rattle.dml_desc.proofs.CheckedLemmas.{unfenced_where_accepted}
use Rattle.dml_order.specs.Order.{is_in, IsOrder}
use Rattle.dml_order.specs.Waves.{joined}
use Rattle.dml_levels.specs.Laws.{unless_refused}
use Rattle.dml_levels.specs.Waves.{job_at, waves}
use Rattle.dml_levels.proofs.FenceLemmas.{first_levels}
use Rattle.dml_core.specs.Types.{Job, Fetched}
use Rattle.dml_core.specs.Plan.{jobs_of, is_open, is_refused, open_places, accepted_places, accepted_waves, with_refused, planned, plan_of}
use Rattle.dml_core.proofs.PlaceLemmas.{in_kept}
use Rattle.dml_core.proofs.PlanLemmas.{waits, opened_below, plan_order}
use Rattle.dml_core.proofs.OrderedLemmas.{picked_is_left}

-- what holds of each member holds of each element
by_member : (P : ℕ → Type 0) (xs : List ℕ) → ((i : ℕ) → is_in i xs ≡ true → P i) → All P xs
by_member P [] holds = All-nil P
by_member P (x ∷ xs) holds =
    All-cons P x xs (holds x (or_left (nat_eq x x) _ (eq-eqb x x refl))) (by_member P xs (λ i here. holds i (or_right (nat_eq i x) _ here)))

by_waves : (P : ℕ → Type 0) (waves : List (List ℕ)) → ((i : ℕ) → is_in i (joined waves) ≡ true → P i) → All (All P) waves
by_waves P [] holds = All-nil (All P)
by_waves P (wave ∷ waves) holds =
    All-cons (All P) wave waves
    (by_member P wave (λ i here. holds i (list_any-append (nat_eq i) wave (joined waves) ∙ or_left (is_in i wave) _ here)))
    (by_waves P waves (λ i here. holds i (list_any-append (nat_eq i) wave (joined waves) ∙ or_right (is_in i wave) _ here)))

pub plan_inside : (fetched : List Fetched) (staging chunk : ℕ) (plan : List (List ℕ)) → plan ≡ plan_of fetched staging chunk → All (All (λ i. i < length fetched)) plan
plan_inside fetched staging chunk plan is =
    subst (All (All (λ i. i < length fetched))) (sym is)
    (by_waves (λ i. i < length fetched) (plan_of fetched staging chunk) (λ i here.
    let n = length fetched in
    let planned = plan_order (jobs_of fetched) staging chunk (is_open fetched) n in
    let left = picked_is_left (waits (jobs_of fetched) staging) (joined (plan_of fetched staging chunk)) (opened_below (is_open fetched) n) i planned.picks here in
    ltb-true i n (and_parts (nat_lt i n) _ left).0))

pub places_inside : (fetched : List Fetched) (places : List ℕ) → places ≡ open_places fetched → All (λ i. i < length fetched) places
places_inside fetched places is =
    subst (All (λ i. i < length fetched)) (sym is)
    (by_member (λ i. i < length fetched) (open_places fetched) (λ i here.
    ltb-true i (length fetched) (and_parts (nat_lt i (length fetched)) _ (sym (in_kept (is_open fetched) (length fetched) i) ∙ here)).0))

pub accepted_inside : (fetched : List Fetched) (places accepted : List ℕ) (staging : ℕ) → places ≡ open_places fetched → accepted ≡ accepted_places (jobs_of fetched) staging places → All (λ i. i < length fetched) accepted
accepted_inside fetched places accepted staging is kept =
    subst (All (λ i. i < length fetched)) (sym kept)
    (All-filter (λ i. not (is_refused (jobs_of fetched) staging i)) (λ i. i < length fetched) places (places_inside fetched places is))

-- the indices of the waves are those of the places
pub waves_inside : (jobs : List Job) (places same_places : List ℕ) (waves same_waves : List (List ℕ)) (f : ℕ → Job) (clash : ℕ → ℕ → Bool) → jobs ≡ map f places → same_places ≡ places → waves ≡ same_waves → IsOrder clash (length jobs) (joined same_waves) → All (All (λ k. k < length same_places)) waves
waves_inside jobs places same_places waves same_waves f clash of is same order =
    subst (All (All (λ k. k < length same_places))) (sym same)
    (by_waves (λ k. k < length same_places) same_waves (λ k here.
    let below = order.below k here in
    let one = ap length of in
    let two = length-map places f in
    let three = ap length is in
    omega (arith, below, one, two, three)))

-- an accepted job is a job as far as it does anything
pub accepted_jobs : (jobs : List Job) (staging : ℕ) (places : List ℕ) → map (λ i. unless_refused staging (job_at jobs i)) (accepted_places jobs staging places) ≡ map (job_at jobs) (accepted_places jobs staging places)
accepted_jobs jobs staging [] = refl
accepted_jobs jobs staging (i ∷ places) =
    let rest = accepted_places jobs staging places in
    elim (is_refused jobs staging i) as (λ b. is_refused jobs staging i ≡ b → map (λ k. unless_refused staging (job_at jobs k)) (cond (not b) (i ∷ rest) rest) ≡ map (job_at jobs) (cond (not b) (i ∷ rest) rest)) [
      | true ↦ λ refused. accepted_jobs jobs staging places
      | false ↦ λ accepted.
          ap (λ (job : Job). job ∷ map (λ k. unless_refused staging (job_at jobs k)) rest) (ap (λ b. cond b no_op_job (job_at jobs i)) accepted)
          ∙ ap (λ (list : List Job). job_at jobs i ∷ list) (accepted_jobs jobs staging places)
    ] refl

-- no job is fenced as far as it does anything
no_fence : (job : Job) → unfenced job ≡ job → is_fenced job ≡ false
no_fence job free = ap is_fenced (sym free) ∙ unfenced_free job

never_fenced : (staging : ℕ) (job : Job) → is_fenced (unless_refused staging job) ≡ false
never_fenced staging job =
    elim (refusal job staging) as (λ (refused : Option Status). refusal job staging ≡ refused → is_fenced (cond (is_some refused) no_op_job job) ≡ false) [
      | Some status ↦ λ here. refl
      | None ↦ λ here. no_fence job (unfenced_where_accepted job staging here)
    ] refl

none_fenced : (staging : ℕ) (f : ℕ → Job) (places : List ℕ) (k : ℕ) → is_fenced (job_at (map (λ i. unless_refused staging (f i)) places) k) ≡ false
none_fenced staging f [] k = refl
none_fenced staging f (i ∷ places) zero = never_fenced staging (f i)
none_fenced staging f (i ∷ places) (suc k) = none_fenced staging f places k

-- so their levels are those by conflicts alone
levels_unfenced : (staging : ℕ) (f : ℕ → Job) (places : List ℕ) (jobs : List Job) → jobs ≡ map (λ i. unless_refused staging (f i)) places → fenced_levels jobs ≡ levels jobs
levels_unfenced staging f places jobs is =
    sym (first_levels jobs (length jobs) (omega arith) (λ k above below. ap (λ (list : List Job). is_fenced (job_at list k)) is ∙ none_fenced staging f places k))
    ∙ ap levels (take_all (length jobs - 0) jobs (omega arith))

pub few_kept : (p : ℕ → Bool) (xs : List ℕ) → length (filter p xs) ≤ length xs
few_kept p [] = omega arith
few_kept p (x ∷ xs) =
    elim (p x) as (λ b. length (cond b (x ∷ filter p xs) (filter p xs)) ≤ suc (length xs)) [
      | true ↦ (let rest = few_kept p xs in omega (arith, rest))
      | false ↦ (let rest = few_kept p xs in omega (arith, rest))
    ]

pub few_jobs : (fetched : List Fetched) (places accepted : List ℕ) (jobs : List Job) (staging : ℕ) → places ≡ open_places fetched → accepted ≡ accepted_places (jobs_of fetched) staging places → jobs ≡ map (λ i. unless_refused staging (job_at (jobs_of fetched) i)) accepted → length (open_places fetched) ≤ 1024 → length jobs ≤ 1024
few_jobs fetched places accepted jobs staging is kept own few =
    let less = few_kept (λ i. not (is_refused (jobs_of fetched) staging i)) places in
    let one = ap length is in
    let two = ap length kept in
    let three = ap length own in
    let four = length-map accepted (λ i. unless_refused staging (job_at (jobs_of fetched) i)) in
    omega (arith, less, one, two, three, four, few)

pub plan_made : (fetched : List Fetched) (staging chunk : ℕ) (places accepted : List ℕ) (jobs : List Job) (own_levels : List ℕ) (own_waves plan all : List (List ℕ)) → places ≡ open_places fetched → accepted ≡ accepted_places (jobs_of fetched) staging places → jobs ≡ map (λ i. unless_refused staging (job_at (jobs_of fetched) i)) accepted → own_levels ≡ fenced_levels jobs → own_waves ≡ waves jobs own_levels staging chunk → plan ≡ map (map (slice_index accepted)) own_waves → all ≡ with_refused (jobs_of fetched) staging places plan → all ≡ plan_of fetched staging chunk
plan_made fetched staging chunk places accepted jobs own_levels own_waves plan all is kept own level wave moved whole =
    let list = jobs_of fetched in
    let exact : jobs ≡ map (job_at list) accepted =
    own ∙ (ap (map (λ i. unless_refused staging (job_at list i))) kept ∙ (accepted_jobs list staging places ∙ ap (map (job_at list)) (sym kept))) in
    let cut : own_waves ≡ waves (map (job_at list) accepted) (levels (map (job_at list) accepted)) staging chunk =
    wave ∙ (ap (λ (l : List ℕ). waves jobs l staging chunk) (level ∙ levels_unfenced staging (job_at list) accepted jobs own) ∙ ap (λ (j : List Job). waves j (levels j) staging chunk) exact) in
    let here : plan ≡ accepted_waves list staging chunk accepted = moved ∙ ap (map (map (slice_index accepted))) cut in
    whole
    ∙ (ap (with_refused list staging places) (here ∙ ap (accepted_waves list staging chunk) kept)
    ∙ ap (planned list staging chunk) is)
