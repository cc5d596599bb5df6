use Rattle.std.proofs.Common.{◌≡◌, ℕ, ◌<◌, get_or, map}
use Rattle.std.specs.Prelude.{Some}
use Rattle.dml_portal.specs.Lanes.{AreSameLanes, waiting}
use Rattle.dml_portal.specs.Held.{HasRoomOrIsHeld, HaveRoomWithin}
use Rattle.dml_portal.specs.Whole.{HavePushed, HaveSentMore, kept_by, received_by}
use Rattle.dml_portal.specs.declared.lanes.Lane.{Lane}
use Rattle.dml_portal.proofs.lates.make_late.Given as goal

abbrev pub invariant-loop-client : goal.invariant-loop-client
invariant-loop-client l =
    let start = l.initial.lanes.items in
    let now = l.lanes.items in
    record {
      kept : map kept_by now ≡ map kept_by start;
      received : map received_by now ≡ map received_by start;
      waiting : map waiting now ≡ map waiting start;
      sent : HaveSentMore start now;
      pushed : HavePushed start → HavePushed now;
      room : (client : ℕ) (lane : Lane) → client < l.client → HasRoomOrIsHeld l.most (get_or now client lane);
      within : (bound : ℕ) → l.most ≡ Some bound → HaveRoomWithin bound start now;
      same : AreSameLanes start now;
    }
