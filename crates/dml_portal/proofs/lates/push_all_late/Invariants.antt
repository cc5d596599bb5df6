use Rattle.std.proofs.Common.{◌≡◌, ℕ, ◌<◌, get_or, map}
use Rattle.dml_portal.specs.Lanes.{AreSameLanes, waiting}
use Rattle.dml_portal.specs.Whole.{HasPushed, HaveSentMore, kept_by, received_by, room_by}
use Rattle.dml_portal.specs.declared.lanes.Lane.{Lane}
use Rattle.dml_portal.proofs.lates.push_all_late.Given as goal

abbrev pub invariant-loop-client : goal.invariant-loop-client
invariant-loop-client l =
    let start = l.initial.lanes.items in
    let now = l.lanes.items in
    record {
      kept : map kept_by now ≡ map kept_by start;
      received : map received_by now ≡ map received_by start;
      waiting : map waiting now ≡ map waiting start;
      late_room : map room_by now ≡ map room_by start;
      sent : HaveSentMore start now;
      pushed : (client : ℕ) (lane : Lane) → client < l.client → HasPushed (get_or now client lane);
      same : AreSameLanes start now;
    }
