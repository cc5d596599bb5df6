use Rattle.std.proofs.Common.{length, ◌-◌, ◌≡◌, ℕ, ◌<◌, ◌≤◌, false}
use Rattle.dml_types.specs.Job.{is_fenced}
use Rattle.dml_levels.specs.Waves.{job_at}
use Rattle.dml_levels.proofs.fencing.next_fence.Given as goal

abbrev pub invariant-loop-place : goal.invariant-loop-place
invariant-loop-place l =
    (l.start ≤ l.place) × (l.place ≤ length l.jobs)
    × ((i : ℕ) → l.start ≤ i → i < l.place → is_fenced (job_at l.jobs i) ≡ false)

abbrev pub decreases-loop-place : goal.decreases-loop-place
decreases-loop-place l = length l.jobs - l.place
