use Rattle.std.proofs.Common.{◌≡◌, ◌≤◌}
use Rattle.std.specs.VecDeque.{deque_len}
use Rattle.dml_portal.specs.Lanes.{IsSameLane}
use Rattle.dml_portal.specs.Whole.{HasSentMore, kept_by, room_by}
use Rattle.dml_portal.proofs.lates.push_late.Given as goal

abbrev pub invariant-loop-record : goal.invariant-loop-record
invariant-loop-record l =
    record {
      kept : kept_by l.lane ≡ kept_by l.initial.lane;
      fewer : deque_len l.lane.late ≤ deque_len l.initial.lane.late;
      sent : HasSentMore l.initial.lane l.lane;
      before : l.lane.before ≡ l.initial.lane.before;
      fetched : l.lane.fetched ≡ l.initial.lane.fetched;
      jobs : l.lane.jobs ≡ l.initial.lane.jobs;
      late_room : room_by l.lane ≡ room_by l.initial.lane;
      same : IsSameLane l.initial.lane l.lane;
    }

abbrev pub decreases-loop-record : goal.decreases-loop-record
decreases-loop-record l = deque_len l.lane.late
