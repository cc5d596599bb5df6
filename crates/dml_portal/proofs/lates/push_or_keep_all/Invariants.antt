use Rattle.std.proofs.Common.{◌≡◌, ℕ, ◌<◌, ◌≤◌, get_or, map}
use Rattle.dml_portal.specs.Lanes.{AreSameLanes, waiting}
use Rattle.dml_portal.specs.Parts.{IsPartly}
use Rattle.dml_portal.specs.Whole.{HaveRoom, HaveSentMore, received_by, room_by}
use Rattle.dml_portal.specs.declared.lanes.Lane.{Lane}
use Rattle.dml_portal.proofs.lates.push_or_keep_all.Given as goal

abbrev pub invariant-loop-client : goal.invariant-loop-client
invariant-loop-client l =
    let start = l.initial.lanes.items in
    let now = l.lanes.items in
    record {
      blocks :
          (client : ℕ) (lane : Lane) → client < l.client
          → IsPartly l.records (get_or start client (get_or now client lane)) (get_or now client lane);
      room : HaveRoom now;
      rest : (client : ℕ) (lane : Lane) → l.client ≤ client → get_or now client lane ≡ get_or start client lane;
      received : map received_by now ≡ map received_by start;
      waiting : map waiting now ≡ map waiting start;
      late_room : map room_by now ≡ map room_by start;
      sent : HaveSentMore start now;
      same : AreSameLanes start now;
    }
