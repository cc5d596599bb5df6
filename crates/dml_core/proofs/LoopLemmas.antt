-- One step of a loop.
use Rattle.std.proofs.Common.{◌≡◌, ℕ, ◌+◌, ◌-◌, ◌<◌, ◌≤◌, Bool, true, false, cond, List, [], ◌∷◌, ◌++◌, length, get_or, map, filter, take, refl, sym, ◌∙◌, ap, arith}
use Rattle.std.proofs.Math.Seq.{take-append_seam}
use Rattle.std.proofs.lemmas.List.{append_assoc, append-nil, map-append, map_more, take_more}
use Rattle.std.proofs.lemmas.List.Elements.{filter-append}
use Rattle.std.proofs.lemmas.List.Concat.{flat_map-append}
use Rattle.std.specs.Prelude.{is_some}
use Rattle.std.specs.List.{range_with_len}
use Rattle.dml_types.specs.Job.{no_op_job}
use Rattle.dml_types.specs.Refusal.{refusal}
use Rattle.dml_desc.specs.Checked.{operation_of}
use Rattle.dml_order.proofs.LevelLemmas.{range_more}
use Rattle.dml_order.proofs.OrderLemmas.{range_split}
use Rattle.dml_levels.specs.Laws.{unless_refused}
use Rattle.dml_levels.specs.Waves.{job_at}
use Rattle.dml_core.specs.Types.{Job, Task}
use Rattle.dml_core.specs.Plan.{chunks_of, task_for, chunk_tasks, tasks_of}

pub kept_more : (p : ℕ → Bool) (n : ℕ) → filter p (range_with_len 0 (n + 1)) ≡ filter p (range_with_len 0 n) ++ cond (p n) (n ∷ []) []
kept_more p n = ap (filter p) (range_more n) ∙ filter-append p (range_with_len 0 n) (n ∷ [])

pub kept_front : (p : ℕ → Bool) (from n : ℕ) → from ≤ n → take (length (filter p (range_with_len 0 from))) (filter p (range_with_len 0 n)) ≡ filter p (range_with_len 0 from)
kept_front p from n low =
    let front = filter p (range_with_len 0 from) in
    let rest = filter p (range_with_len (0 + from) (n - from)) in
    let whole : filter p (range_with_len 0 n) ≡ front ++ rest =
    ap (λ k. filter p (range_with_len 0 k)) (let e : n ≡ from + (n - from) = omega (arith, low) in e)
    ∙ (ap (filter p) (range_split 0 from (n - from)) ∙ filter-append p (range_with_len 0 from) (range_with_len (0 + from) (n - from))) in
    ap (take (length front)) whole ∙ take-append_seam front rest

pub chunks_more : (list before : List Task) (place size last k : ℕ) → list ≡ before ++ map (task_for place size last) (range_with_len 0 k) → list ++ task_for place size last k ∷ [] ≡ before ++ map (task_for place size last) (range_with_len 0 (k + 1))
chunks_more list before place size last k is =
    ap (λ (l : List Task). l ++ task_for place size last k ∷ []) is
    ∙ (append_assoc before (map (task_for place size last) (range_with_len 0 k)) (task_for place size last k ∷ [])
    ∙ ap (λ (l : List Task). before ++ l)
    (sym (ap (map (task_for place size last)) (range_more k) ∙ map-append (task_for place size last) (range_with_len 0 k) (k ∷ []))))

-- a refused job has no chunk, as a no-op has none
idle_chunks : (jobs : List Job) (staging chunk i : ℕ) → chunk_tasks jobs staging chunk i ≡ chunks_of (operation_of (unless_refused staging (job_at jobs i))) (unless_refused staging (job_at jobs i)) chunk i
idle_chunks jobs staging chunk i =
    elim (is_some (refusal (job_at jobs i) staging)) as (λ b. cond b [] (chunks_of (operation_of (job_at jobs i)) (job_at jobs i) chunk i) ≡ chunks_of (operation_of (cond b no_op_job (job_at jobs i))) (cond b no_op_job (job_at jobs i)) chunk i) [
      | true ↦ refl
      | false ↦ refl
    ]

pub tasks_more : (list : List Task) (jobs : List Job) (staging chunk : ℕ) (wave : List ℕ) (index : ℕ) (job : Job) → index < length wave → list ≡ tasks_of jobs staging chunk (take index wave) → job ≡ unless_refused staging (job_at jobs (get_or wave index 0)) → list ++ chunks_of (operation_of job) job chunk (get_or wave index 0) ≡ tasks_of jobs staging chunk (take (index + 1) wave)
tasks_more list jobs staging chunk wave index job below is same =
    let place = get_or wave index 0 in
    let own : chunks_of (operation_of job) job chunk place ≡ chunk_tasks jobs staging chunk place =
    ap (λ (j : Job). chunks_of (operation_of j) j chunk place) same ∙ sym (idle_chunks jobs staging chunk place) in
    ap (λ (l : List Task). l ++ chunks_of (operation_of job) job chunk place) is
    ∙ (ap (λ (l : List Task). tasks_of jobs staging chunk (take index wave) ++ l) (own ∙ sym (append-nil (chunk_tasks jobs staging chunk place)))
    ∙ sym (ap (tasks_of jobs staging chunk) (take_more wave index 0 below)
    ∙ flat_map-append (chunk_tasks jobs staging chunk) (take index wave) (place ∷ [])))

pub jobs_more : (list : List Job) (f : ℕ → Job) (places : List ℕ) (index : ℕ) (job : Job) → index < length places → list ≡ map f (take index places) → job ≡ f (get_or places index 0) → list ++ job ∷ [] ≡ map f (take (index + 1) places)
jobs_more list f places index job below is same =
    ap (λ (l : List Job). l ++ job ∷ []) is
    ∙ (ap (λ (j : Job). map f (take index places) ++ j ∷ []) same ∙ sym (map_more f places index 0 below))
