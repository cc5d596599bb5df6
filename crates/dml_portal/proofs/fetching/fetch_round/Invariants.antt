use Rattle.std.proofs.Common.{◌≡◌, ℕ, ◌*◌, ◌<◌, ◌≤◌, List, ◌++◌, length, get_or, map}
use Rattle.std.specs.Prelude.{vec_capacity}
use Rattle.dml_portal.specs.Types.{LogEntry}
use Rattle.dml_portal.specs.Log.{jobs_in, sent_for}
use Rattle.dml_portal.specs.Lanes.{ArePopped, ArePushed, AreSameLanes}
use Rattle.dml_portal.specs.Served.{IsFetchedUpTo}
use Rattle.dml_portal.specs.Blocks.{IsBlock}
use Rattle.dml_portal.specs.Held.{HaveRoomOrAreHeld}
use Rattle.dml_portal.specs.Whole.{HasRoom, HaveReceived, HaveSentMore, kept_by, room_by}
use Rattle.dml_portal.specs.declared.lanes.Lane.{Lane}
use Rattle.dml_portal.proofs.TakenLemmas.{TakenBelow}
use Rattle.dml_portal.proofs.fetching.fetch_round.Given as goal

abbrev pub invariant-loop-client : goal.invariant-loop-client
invariant-loop-client l =
    let start = l.initial.lanes.items in
    let now = l.lanes.items in
    record {
      fetched :
          (entries : List LogEntry)
          × (l.log.items ≡ l.initial.log.items ++ entries)
          × (l.jobs.items ≡ jobs_in entries)
          × (length entries ≤ 128 * l.client)
          × IsFetchedUpTo l.number l.client (map sent_for entries)
          × TakenBelow l.number l.most l.client start entries now
          × ((client : ℕ) (lane : Lane) → client < l.client → IsBlock entries client (get_or now client lane))
          × HaveReceived start entries now;
      popped : ArePopped start l.initial.log.items → ArePopped now l.log.items;
      pushed : ArePushed start l.initial.log.items → ArePushed now l.initial.log.items;
      kept : map kept_by now ≡ map kept_by start;
      sent : HaveSentMore start now;
      room : HaveRoomOrAreHeld l.most start → (client : ℕ) (lane : Lane) → client < l.client → HasRoom (get_or now client lane);
      late_room : map room_by now ≡ map room_by start;
      same : AreSameLanes start now;
      log_room : vec_capacity l.log ≡ vec_capacity l.initial.log;
      jobs_room : vec_capacity l.jobs ≡ vec_capacity l.initial.jobs;
    }
