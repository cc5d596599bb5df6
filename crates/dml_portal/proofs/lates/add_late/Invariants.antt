use Rattle.std.proofs.Common.{◌≡◌, ◌+◌, ◌++◌, take}
use Rattle.std.specs.VecDeque.{deque_capacity, deque_len}
use Rattle.dml_portal.specs.Lanes.{IsSameLane}
use Rattle.dml_portal.specs.Whole.{late_of}
use Rattle.dml_portal.proofs.lates.add_late.Given as goal

abbrev pub invariant-loop-record : goal.invariant-loop-record
invariant-loop-record l =
    record {
      late : late_of l.lane ≡ late_of l.initial.lane ++ take l.record-index l.block;
      long : deque_len l.lane.late ≡ deque_len l.initial.lane.late + l.record-index;
      room : deque_capacity l.lane.late ≡ deque_capacity l.initial.lane.late;
      before : l.lane.before ≡ l.initial.lane.before;
      fetched : l.lane.fetched ≡ l.initial.lane.fetched;
      jobs : l.lane.jobs ≡ l.initial.lane.jobs;
      records : l.lane.records ≡ l.initial.lane.records;
      same : IsSameLane l.initial.lane l.lane;
    }
