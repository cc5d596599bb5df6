-- The effects of a wave's jobs, found one after another.
use Rattle.std.proofs.Common.{◌≡◌, ℕ, ◌+◌, ◌-◌, ◌<◌, ◌≤◌, Bool, true, false, List, [], ◌∷◌, ◌++◌, length, map, take, drop, get_or, MutBor, Option, cond, sym, ◌∙◌, ap, subst, arith}
use Rattle.std.specs.List.{AllZip}
use Rattle.std.proofs.lemmas.List.{append-nil, drop-drop, drop-map, drop_more, length-drop, take-map, take_more}
use Rattle.std.proofs.lemmas.List.Elements.{filter-append}
use Rattle.dml_types.specs.declared.jobs.Job.{Job}
use Rattle.dml_types.specs.Memory.{Memory}
use Rattle.dml_desc.specs.Checked.{operation_of}
use Rattle.dml_levels.specs.Tasks.{task_count}
use Rattle.dml_levels.specs.Waves.{job_at}
use Rattle.dml_pool.specs.declared.tasks.Outcome.{Outcome}
use Rattle.dml_pool.specs.Slots.{behind}
use Rattle.dml_wave.specs.declared.effects.JobEffect.{JobEffect}
use Rattle.dml_wave.specs.Effects.{HoldJob, HoldWave, IsEffectAt}
use Rattle.dml_wave.specs.Waves.{busy, is_busy}

pub all_zip_push : {A B : Type 0} (R : A → B → Type 0) (xs : List A) (ys : List B) (x : A) (y : B) → AllZip R xs ys → R x y → AllZip R (xs ++ x ∷ []) (ys ++ y ∷ [])
all_zip_push R [] [] x y all here = (here, tt)
all_zip_push R [] (b ∷ ys) x y all here = absurd all
all_zip_push R (a ∷ xs) [] x y all here = absurd all
all_zip_push R (a ∷ xs) (b ∷ ys) x y all here = (all.0, all_zip_push R xs ys x y all.1 here)

module _ (memory : Memory) (jobs : List Job) (chunk : ℕ) (wave : List ℕ) (index : ℕ) (below : index < length wave) where
  abbrev place : ℕ
  place = get_or wave index 0

  abbrev count : ℕ
  count = task_count (job_at jobs place) chunk

  -- the slots of the next job, and those behind
  next_held : (slots : List (Option Outcome)) → HoldWave memory jobs chunk (drop index wave) slots → HoldWave memory jobs chunk (place ∷ drop (index + 1) wave) slots
  next_held slots hold =
      subst (λ (places : List ℕ). HoldWave memory jobs chunk places slots) (drop_more wave index 0 below) hold

  pub held_within : (slots : List (Option Outcome)) (from to : ℕ) → HoldWave memory jobs chunk (drop index wave) (drop from slots) → from ≤ length slots → to ≡ from + count → to ≤ length slots
  held_within slots from to hold within is =
      omega (arith, (next_held (drop from slots) hold).0, length-drop from slots, within, is)

  pub held_behind : (slots new : List (Option Outcome)) (from to : ℕ) → HoldWave memory jobs chunk (drop index wave) (drop from slots) → to ≡ from + count → drop to new ≡ drop to slots
      → HoldWave memory jobs chunk (drop (index + 1) wave) (drop to new)
  held_behind slots new from to hold is same =
      subst (HoldWave memory jobs chunk (drop (index + 1) wave)) (drop-drop count from slots ∙ (ap (λ n. drop n slots) (sym is) ∙ sym same))
      (next_held (drop from slots) hold).2

  -- what the slots of the next job refer to
  pub held_next : (slots : List (Option (MutBor (Option Outcome)))) (from to : ℕ) (job : Job) → job ≡ job_at jobs place
      → HoldWave memory jobs chunk (drop index wave) (drop from (map behind slots)) → to ≡ from + count
      → HoldJob memory job (map behind (take (to - from) (drop from slots)))
  held_next slots from to job is hold ends =
      let long : to - from ≡ count = omega (arith, ends) in
      let same : take count (drop from (map behind slots)) ≡ map behind (take (to - from) (drop from slots)) =
      ap (take count) (drop-map behind from slots)
      ∙ (take-map behind count (drop from slots) ∙ ap (λ n. map behind (take n (drop from slots))) (sym long)) in
      subst (λ (j : Job). HoldJob memory j (map behind (take (to - from) (drop from slots)))) (sym is)
      (subst (HoldJob memory (job_at jobs place)) same (next_held (drop from (map behind slots)) hold).1)

  -- the places so far
  busy_more : busy jobs (take (index + 1) wave) ≡ busy jobs (take index wave) ++ cond (is_busy (operation_of (job_at jobs place))) (place ∷ []) []
  busy_more =
      ap (busy jobs) (take_more wave index 0 below)
      ∙ filter-append (λ i. is_busy (operation_of (job_at jobs i))) (take index wave) (place ∷ [])

  pub found_more : (effects : List JobEffect) (done : JobEffect) → AllZip (IsEffectAt memory jobs) (busy jobs (take index wave)) effects → is_busy (operation_of (job_at jobs place)) ≡ true → IsEffectAt memory jobs place done
      → AllZip (IsEffectAt memory jobs) (busy jobs (take (index + 1) wave)) (effects ++ done ∷ [])
  found_more effects done found working is =
      subst (λ (places : List ℕ). AllZip (IsEffectAt memory jobs) places (effects ++ done ∷ []))
      (sym (busy_more ∙ ap (λ (b : Bool). busy jobs (take index wave) ++ cond b (place ∷ []) []) working))
      (all_zip_push (IsEffectAt memory jobs) (busy jobs (take index wave)) effects place done found is)

  pub found_same : (effects : List JobEffect) → AllZip (IsEffectAt memory jobs) (busy jobs (take index wave)) effects → is_busy (operation_of (job_at jobs place)) ≡ false
      → AllZip (IsEffectAt memory jobs) (busy jobs (take (index + 1) wave)) effects
  found_same effects found idle =
      subst (λ (places : List ℕ). AllZip (IsEffectAt memory jobs) places effects)
      (sym (busy_more
      ∙ (ap (λ (b : Bool). busy jobs (take index wave) ++ cond b (place ∷ []) []) idle ∙ append-nil (busy jobs (take index wave)))))
      found
