-- What the waves of a world are, in the subject's own words.
use Rattle.std.specs.Prelude.{◌≡◌, ◌<◌, ◌≤◌, ℕ, Bool, true, false, ◌&&◌, List, ◌∷◌, ◌++◌, length, map, nat_lt}
use Rattle.std.specs.List.{range_with_len}
use Rattle.dml_types.specs.Conflict.{clash_of, conflict}
use Rattle.dml_types.specs.Memory.{Memory}
use Rattle.dml_order.specs.Order.{is_in}
use Rattle.dml_order.specs.Waves.{joined}
use Rattle.dml_levels.specs.Laws.{unless_refused}
use Rattle.dml_levels.specs.Waves.{fits_wave, job_at}
use Rattle.dml_core.specs.Types.{Job, Settings, Fetched, Step}
use Rattle.dml_core.specs.Plan.{jobs_of, is_open, open_places, accepted_places, plan_of}
use Rattle.dml_core.specs.World.{new_world, run}

-- the jobs at two places conflict, as far as they do anything: a refused one does nothing
abbrev pub clash : List Fetched → ℕ → ℕ → ℕ → Bool
clash fetched staging i k =
    conflict (unless_refused staging (job_at (jobs_of fetched) i)) (unless_refused staging (job_at (jobs_of fetched) k))

-- The place of each job that is not committed stands in the waves once, and no other does. Of two that clash the
-- earlier stands in an earlier wave
pub record AreWaves (fetched : List Fetched) (staging : ℕ) (waves : List (List ℕ)) : Type 0 where
  pub all : (i : ℕ) → is_in i (joined waves) ≡ (nat_lt i (length fetched) && is_open fetched i)
  pub once : (before behind : List ℕ) (i : ℕ) → joined waves ≡ before ++ i ∷ behind → is_in i before ≡ false
  pub apart :
      (front behind : List (List ℕ)) (wave : List ℕ) (i earlier : ℕ) → waves ≡ front ++ wave ∷ behind
      → is_in i wave ≡ true → earlier < i → is_open fetched earlier ≡ true
      → clash fetched staging earlier i ≡ true → is_in earlier (joined front) ≡ true

-- so it is after every list of steps
abbrev pub WavesStand : Type 0
WavesStand =
    (start : Memory) (settings : Settings) (clients : ℕ) (steps : List Step)
    → let w = (run (new_world start settings clients) steps).0 in AreWaves w.fetched settings.staging w.waves

-- the accepted jobs that are not committed
abbrev pub accepted_jobs : List Fetched → ℕ → List Job
accepted_jobs fetched staging =
    map (job_at (jobs_of fetched)) (accepted_places (jobs_of fetched) staging (open_places fetched))

-- where no two of them conflict and all fit together, the plan is one wave
abbrev pub OneWave : Type 0
OneWave =
    (fetched : List Fetched) (staging chunk : ℕ) → let jobs = accepted_jobs fetched staging in
    ((i k : ℕ) → k < i → i < length jobs → clash_of jobs k i ≡ false)
    → fits_wave jobs staging chunk (range_with_len 0 (length jobs)) ≡ true
    → length (plan_of fetched staging chunk) ≤ 1
