-- A wave that was filled is small, and the last wave of a level.
use Rattle.std.proofs.Common.{◌≡◌, ℕ, ◌-◌, ◌≤◌, List, [], ◌∷◌, ◌++◌, length, Result, Ok, Err, OnOk, All, ap, subst, sym, ◌∙◌, ◌⊎◌, ⊎_elim}
use Rattle.std.proofs.lemmas.List.Elements.{All-push}
use Rattle.dml_types.specs.declared.jobs.Job.{Job}
use Rattle.dml_order.specs.Waves.{later_places}
use Rattle.dml_order.proofs.WaveSteps.{places_end}
use Rattle.dml_levels.specs.declared.filling.Filling.{Filling}
use Rattle.dml_levels.specs.Waves.{IsFilling, IsSmall, most_tasks}

pub small_push : (jobs : List Job) (staging chunk : ℕ) (waves : List (List ℕ)) (filling : Filling) → IsFilling jobs staging chunk filling → All (IsSmall jobs staging chunk) waves → All (IsSmall jobs staging chunk) (waves ++ filling.room.wave ∷ [])
small_push jobs staging chunk waves filling is all =
    All-push (IsSmall jobs staging chunk) waves filling.room.wave all
    (record { needs = subst (λ n. n ≤ staging) is.needs is.within_staging; tasks = subst (λ n. n ≤ most_tasks) is.tasks is.within_tasks })

-- the last wave of a level, if it has a job, behind the others
pub small_pushed : (jobs : List Job) (staging chunk : ℕ) (waves after : List (List ℕ)) (filling : Filling) → IsFilling jobs staging chunk filling → All (IsSmall jobs staging chunk) waves → (after ≡ waves) ⊎ (after ≡ waves ++ filling.room.wave ∷ []) → All (IsSmall jobs staging chunk) after
small_pushed jobs staging chunk waves after filling is all pushed =
    ⊎_elim (λ same. subst (All (IsSmall jobs staging chunk)) (sym same) all)
    (λ more. subst (All (IsSmall jobs staging chunk)) (sym more) (small_push jobs staging chunk waves filling is all))
    pushed

-- at the end of a list no place of a level is left
pub none_left : (levels : List ℕ) (level place : ℕ) → place ≡ length levels → later_places levels level place (length levels - place) ≡ []
none_left levels level place ended =
    ap (λ k. later_places levels level k (length levels - k)) ended ∙ places_end levels level

pub where_ok : {T E : Type 0} (r : Result T E) (P Q : Type 0) → (P → Q) → OnOk r P → OnOk r Q
where_ok (Ok x) P Q f p = f p
where_ok (Err e) P Q f p = p
