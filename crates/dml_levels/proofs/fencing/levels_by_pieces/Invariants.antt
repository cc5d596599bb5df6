use Rattle.std.proofs.Common.{length, ◌-◌, ◌≡◌, ◌<◌, ◌≤◌, true}
use Rattle.dml_types.specs.Job.{is_fenced}
use Rattle.dml_types.specs.Conflict.{fenced_clash, clash_levels}
use Rattle.dml_levels.specs.Waves.{job_at}
use Rattle.dml_levels.proofs.fencing.levels_by_pieces.Given as goal

abbrev pub invariant-loop-from : goal.invariant-loop-from
invariant-loop-from l =
    (l.from ≤ length l.jobs) × (l.levels.items ≡ clash_levels (fenced_clash l.jobs) l.from)
    × (l.from < length l.jobs → is_fenced (job_at l.jobs l.from) ≡ true)

abbrev pub decreases-loop-from : goal.decreases-loop-from
decreases-loop-from l = length l.jobs - l.from
