use Rattle.std.proofs.Common.{◌≡◌}
use Rattle.dml_portal.specs.Lanes.{IsPushed, IsSameLane}
use Rattle.dml_portal.proofs.answering.push_answers.Given as goal

abbrev pub invariant-loop-i : goal.invariant-loop-i
invariant-loop-i l =
    IsPushed l.log l.client l.lane
    × (l.lane.answered ≡ l.i)
    × (l.lane.jobs ≡ l.initial.lane.jobs)
    × IsSameLane l.initial.lane l.lane
