-- The outcomes of a wave's tasks fill the slots of its jobs.
use Rattle.std.proofs.Common.{◌≡◌, ℕ, ◌≤◌, List, [], ◌∷◌, ◌++◌, length, map, take, drop, Option, Some, refl, subst, arith}
use Rattle.std.specs.List.{AllZip}
use Rattle.dml_types.specs.declared.jobs.Job.{Job}
use Rattle.dml_types.specs.Memory.{Memory}
use Rattle.dml_levels.specs.Tasks.{task_count}
use Rattle.dml_levels.specs.Waves.{job_at}
use Rattle.dml_pool.specs.declared.tasks.Outcome.{Outcome}
use Rattle.dml_pool.specs.declared.tasks.Task.{Task}
use Rattle.dml_pool.specs.Tasks.{IsTaskValue}
use Rattle.dml_wave.specs.Effects.{HoldWave, IsValueIn}
use Rattle.dml_wave.specs.Tasks.{AreWaveTasks}

pub values_in : (memory : Memory) (tasks : List Task) (outcomes : List Outcome) → AllZip (λ task outcome. IsTaskValue memory task outcome.piece) tasks outcomes
    → AllZip (IsValueIn memory) tasks (map (λ outcome. Some outcome) outcomes)
values_in memory [] [] are = tt
values_in memory [] (o ∷ outcomes) are = absurd are
values_in memory (t ∷ tasks) [] are = absurd are
values_in memory (t ∷ tasks) (o ∷ outcomes) are = (are.0, values_in memory tasks outcomes are.1)

-- a list tied to another one, cut where that is cut
module _ {A B : Type 0} (R : A → B → Type 0) where
  long_enough : (xs ys : List A) (zs : List B) → AllZip R (xs ++ ys) zs → length xs ≤ length zs
  long_enough [] ys zs all = omega arith
  long_enough (x ∷ xs) ys [] all = absurd all
  long_enough (x ∷ xs) ys (z ∷ zs) all = omega (arith, long_enough xs ys zs all.1)

  front_tied : (xs ys : List A) (zs : List B) → AllZip R (xs ++ ys) zs → AllZip R xs (take (length xs) zs)
  front_tied [] ys zs all = tt
  front_tied (x ∷ xs) ys [] all = absurd all
  front_tied (x ∷ xs) ys (z ∷ zs) all = (all.0, front_tied xs ys zs all.1)

  back_tied : (xs ys : List A) (zs : List B) → AllZip R (xs ++ ys) zs → AllZip R ys (drop (length xs) zs)
  back_tied [] ys zs all = all
  back_tied (x ∷ xs) ys [] all = absurd all
  back_tied (x ∷ xs) ys (z ∷ zs) all = back_tied xs ys zs all.1

  none_tied : (zs : List B) → AllZip R [] zs → zs ≡ []
  none_tied [] all = refl
  none_tied (z ∷ zs) all = absurd all

pub wave_held : (memory : Memory) (jobs : List Job) (chunk : ℕ) (places : List ℕ) (tasks : List Task) (slots : List (Option Outcome)) → AreWaveTasks jobs chunk places tasks → AllZip (IsValueIn memory) tasks slots → HoldWave memory jobs chunk places slots
wave_held memory jobs chunk [] tasks slots none all =
    none_tied (IsValueIn memory) slots (subst (λ (l : List Task). AllZip (IsValueIn memory) l slots) none all)
wave_held memory jobs chunk (i ∷ places) tasks slots are all =
    let mine = are.0 in
    let others = are.1 in
    let parted : AllZip (IsValueIn memory) (mine ++ others) slots =
    subst (λ (l : List Task). AllZip (IsValueIn memory) l slots) are.2 all in (
      subst (λ n. n ≤ length slots) are.3 (long_enough (IsValueIn memory) mine others slots parted),
      (chunk, mine, are.4, subst (λ n. AllZip (IsValueIn memory) mine (take n slots)) are.3 (front_tied (IsValueIn memory) mine others slots parted)),
      wave_held memory jobs chunk places others (drop (task_count (job_at jobs i) chunk) slots) are.5
          (subst (λ n. AllZip (IsValueIn memory) others (drop n slots)) are.3 (back_tied (IsValueIn memory) mine others slots parted)),
    )
