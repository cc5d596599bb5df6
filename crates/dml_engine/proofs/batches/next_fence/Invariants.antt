use Rattle.std.proofs.Common.{length, ◌-◌, ◌≡◌, ℕ, ◌<◌, ◌≤◌, false}
use Rattle.std.specs.Prelude.{slice_index_or}
use Rattle.dml_types.specs.Job.{is_fenced, no_op_job}
use Rattle.dml_engine.proofs.batches.next_fence.Given as goal

abbrev pub invariant-loop-place : goal.invariant-loop-place
invariant-loop-place l =
    (l.start ≤ l.place) × (l.place ≤ length l.jobs)
    × ((i : ℕ) → l.start ≤ i → i < l.place → is_fenced (slice_index_or l.jobs i no_op_job) ≡ false)

abbrev pub decreases-loop-place : goal.decreases-loop-place
decreases-loop-place l = length l.jobs - l.place
