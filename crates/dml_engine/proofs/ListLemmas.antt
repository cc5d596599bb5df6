-- A list of jobs, wave by wave.
use Rattle.std.proofs.Common.{◌≡◌, ℕ, ◌+◌, ◌<◌, ◌≤◌, zero, suc, List, [], ◌∷◌, None, length, get_or, set, map, drop, refl, sym, ◌∙◌, ap, subst, arith, ⊎_elim}
use Rattle.std.proofs.lemmas.Bool.{cases_eq}
use Rattle.std.proofs.lemmas.List.{drop_all, drop_more, get_or-map, get_or-set_same, get_or-set_other, length-map}
use Rattle.dml_types.specs.declared.jobs.Job.{Job}
use Rattle.dml_types.specs.declared.records.Record.{Record}
use Rattle.dml_types.specs.Job.{no_op_job, unfenced}
use Rattle.dml_types.specs.Refusal.{refusal}
use Rattle.dml_types.specs.Conflict.{fenced_clash, fenced_levels, clash_levels}
use Rattle.dml_types.specs.Memory.{Memory, IsWhole}
use Rattle.dml_order.specs.Order.{run_all}
use Rattle.dml_order.specs.Waves.{joined, waves_of}
use Rattle.dml_order.proofs.OrderLemmas.{run_all_append}
use Rattle.dml_levels.specs.Fences.{FencesOnlyAdd}
use Rattle.dml_levels.specs.Laws.{ClashesWithoutRefusedHold, HoldsConflicts, Progress, WavesInOrder, begun, carried, in_list_order, unless_refused}
use Rattle.dml_levels.specs.Waves.{fits_wave, job_at, waves}
use Rattle.dml_engine.specs.declared.opening.Fences.{Fences}
use Rattle.dml_engine.specs.declared.opening.Fences.TheVariants.{Refused}
use Rattle.dml_engine.specs.Lists.{AreOpened, idle_record, judged, no_op_record}

-- one wave more is done
pub wave_done : (after : Progress → ℕ → Progress) (list : List (List ℕ)) (at : ℕ) (wave : List ℕ) (now next start : Progress) → at < length list → wave ≡ get_or list at wave → next ≡ run_all after now wave → run_all after now (joined (drop at list)) ≡ run_all after start (joined list) → run_all after next (joined (drop (at + 1) list)) ≡ run_all after start (joined list)
wave_done after list at wave now next start below same done before =
    let rest = drop (at + 1) list in
    let cut = drop_more list at wave below ∙ ap (λ (w : List ℕ). w ∷ rest) (sym same) in
    ap (λ (state : Progress). run_all after state (joined rest)) done
    ∙ (sym (run_all_append after now wave (joined rest))
    ∙ (sym (ap (λ (w : List (List ℕ)). run_all after now (joined w)) cut) ∙ before))

-- all are done
pub waves_done : (after : Progress → ℕ → Progress) (list : List (List ℕ)) (at : ℕ) (now end : Progress) → length list ≤ at → run_all after now (joined (drop at list)) ≡ end → now ≡ end
waves_done after list at now end past before =
    sym (ap (λ (w : List (List ℕ)). run_all after now (joined w)) (drop_all at list past)) ∙ before

-- the waves of the jobs as far as they do anything give what the list gives
pub waves_give : WavesInOrder → ClashesWithoutRefusedHold → FencesOnlyAdd → (memory : Memory) (jobs checked : List Job) (staging room chunk : ℕ) (blank : List Record) (list : List (List ℕ)) → IsWhole memory → length blank ≡ length jobs → checked ≡ map (unless_refused staging) jobs → list ≡ waves checked (fenced_levels checked) room chunk → run_all (carried jobs staging) (begun memory blank) (joined list) ≡ in_list_order memory jobs staging
waves_give in_order hold only_add memory jobs checked staging room chunk blank list whole size same cut =
    let fits = fits_wave checked room chunk in
    let clash = fenced_clash checked in
    let count : length checked ≡ length jobs = ap length same ∙ length-map jobs (unless_refused staging) in
    ap (λ (w : List (List ℕ)). run_all (carried jobs staging) (begun memory blank) (joined w))
    (cut ∙ ap (λ n. waves_of fits (clash_levels clash n)) count)
    ∙ in_order memory jobs staging blank clash fits whole size
    (subst (λ (list : List Job). HoldsConflicts (fenced_clash list) jobs staging) (sym same) (only_add jobs (map (unless_refused staging) jobs) staging (hold jobs staging)))

-- one record more is written
pub record_more : (records : List Record) (want : ℕ → Record) (i : ℕ) (r d : Record) → i < length records → ((k : ℕ) → k < i → get_or records k d ≡ want k) → r ≡ want i → (k : ℕ) → k < i + 1 → get_or (set records i r) k d ≡ want k
record_more records want i r d inside before is k below =
    ⊎_elim (λ same.
    ap (λ j. get_or (set records i r) j d) same
    ∙ (get_or-set_same records i r d inside ∙ (is ∙ ap want (sym same))))
    (λ other. get_or-set_other records i k r d other ∙ before k (omega (arith, below, other)))
    (cases_eq k i)

-- a no-op is accepted in a batch, with the fence and without
pub no_op_accepted : (flags : ℕ) → flags ≤ 1 → refusal (unfenced (record no_op_job { flags = flags })) 0 ≡ None
no_op_accepted zero low = refl
no_op_accepted (suc zero) low = refl
no_op_accepted (suc (suc flags)) low = absurd (omega (arith, low))

-- each job is opened
pub all_opened : (fences : Fences) (jobs : List Job) (staging end : ℕ) (records : List Record) → length records ≡ length jobs → length jobs ≤ end
    → ((k : ℕ) → k < end → get_or records k no_op_record ≡ idle_record staging (judged fences (job_at jobs k)))
    → AreOpened (map (judged fences) jobs) staging records
all_opened fences jobs staging end records size past written = record {
  size = size ∙ sym (length-map jobs (judged fences));
  idle = λ i below idle.
      let low : i < length jobs = omega (arith, below, length-map jobs (judged fences)) in
      written i (omega (arith, low, past)) ∙ ap (idle_record staging) (sym (get_or-map (judged fences) jobs i no_op_job no_op_job low));
}

-- the jobs of a list are judged as they are
pub judged_same : (jobs : List Job) → map (judged Refused) jobs ≡ jobs
judged_same [] = refl
judged_same (job ∷ jobs) = ap (λ (rest : List Job). job ∷ rest) (judged_same jobs)
