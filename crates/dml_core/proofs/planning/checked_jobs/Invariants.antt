use Rattle.std.proofs.Common.{◌≡◌, ◌≤◌, All, map, take}
use Rattle.dml_types.specs.Refusal.{need}
use Rattle.dml_levels.specs.Laws.{unless_refused}
use Rattle.dml_levels.specs.Waves.{job_at}
use Rattle.dml_core.specs.Plan.{jobs_of}
use Rattle.dml_core.proofs.planning.checked_jobs.Given as goal

abbrev pub invariant-loop-place : goal.invariant-loop-place
invariant-loop-place l =
    (l.jobs.items ≡ map (λ i. unless_refused l.staging (job_at (jobs_of l.fetched) i)) (take l.place-index l.places))
    × All (λ job. need job ≤ l.staging) l.jobs.items
