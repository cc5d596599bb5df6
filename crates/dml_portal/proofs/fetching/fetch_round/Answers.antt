use Rattle.std.proofs.Common.{◌≡◌, ◌*◌, ◌<◌, ◌≤◌, [], ◌++◌, ◌∙◌, refl, length, get_or, map, set, sym, ap, subst, arith, append_assoc}
use Rattle.std.proofs.lemmas.List.{append-nil, length-append, length-map}
use Rattle.std.proofs.Math.Seq.{map-set_same}
use Rattle.std.specs.VecDeque.{deque_capacity}
use Rattle.rtrb.specs.Ring.{sent}
use Rattle.dml_portal.specs.Types.{LogEntry}
use Rattle.dml_portal.specs.Log.{jobs_in, sent_for}
use Rattle.dml_portal.specs.Lanes.{ArePopped}
use Rattle.dml_portal.specs.Served.{IsFetchedUpTo}
use Rattle.dml_portal.specs.Blank.{blank}
use Rattle.dml_portal.specs.Blocks.{IsBlock}
use Rattle.dml_portal.specs.Held.{HasRoomOrIsHeld}
use Rattle.dml_portal.specs.Whole.{HasRoom, kept_by, late_of, received_by, room_by}
use Rattle.dml_portal.specs.declared.lanes.Lane.{Lane}
use Rattle.dml_portal.proofs.BlockLemmas.{block_mine, block_other}
use Rattle.dml_portal.proofs.Lists.{below_set}
use Rattle.dml_portal.proofs.FetchLemmas.{fetched_more}
use Rattle.dml_portal.proofs.TakenLemmas.{taken_all, taken_more, taken_none}
use Rattle.dml_portal.proofs.LaneLemmas.{popped_more, pushed_still, same_more}
use Rattle.dml_portal.proofs.LookLemmas.{same_lanes_again}
use Rattle.dml_portal.proofs.WholeLemmas.{grown_none, received_more, sent_again, sent_set}
use Rattle.dml_portal.proofs.LogLemmas.{jobs_append, jobs_blank}
use Rattle.dml_portal.proofs.fetching.fetch_round.Goals as goal

pub loop-client-init : goal.loop-client-init
loop-client-init c =
    let lanes = c.args.lanes.now.items in
    record {
      fetched = (
        [],
        sym (append-nil c.args.log.now.items),
        c.requires.empty,
        omega arith,
        record { order = tt; few = λ client. omega arith },
        taken_none c.args.number c.args.most lanes [],
        (λ client lane below. absurd (omega (arith, below))),
        grown_none received_by (λ client. []) lanes lanes (λ client. refl) refl refl,
      );
      popped = λ held. held;
      pushed = λ held. held;
      kept = refl;
      sent = sent_again lanes;
      room = λ held client lane below. absurd (omega (arith, below));
      late_room = refl;
      same = same_lanes_again lanes;
      log_room = refl;
      jobs_room = refl;
    }

pub loop-client-preserved : goal.loop-client-preserved
loop-client-preserved c =
    let before = c.loop-client.invariant in
    let entries = before.fetched.0 in
    let i = c.loop-client.client in
    let start = c.args.lanes.now.items in
    let lanes = c.loop-client.lanes.items in
    let lane = c.index_mut.result.now in
    let now = c.fetch_client.new.lane in
    let is = c.index_mut.ensures.value in
    let done = c.fetch_client.ensures in
    let jobs = done.fetched.0 in
    let more = map (blank i) jobs in
    let within : i < length lanes = omega (arith, c.loop-client-test.true, c.len-client-end.ensures, c.args.lanes.now.ok.0, before.same.0) in
    record {
      fetched = (
        entries ++ more,
        done.fetched.2 ∙ (ap (λ log. log ++ more) before.fetched.1 ∙ append_assoc c.args.log.now.items entries more),
        done.fetched.3
            ∙ (ap (λ list. list ++ jobs) before.fetched.2
            ∙ sym (jobs_append entries more ∙ ap (λ list. jobs_in entries ++ list) (jobs_blank i jobs))),
        omega (arith, length-append entries more, length-map jobs (blank i), done.fetched.4, before.fetched.3, c.requires.number),
        fetched_more c.args.number i entries jobs done.fetched.4 before.fetched.4,
        taken_more c.args.number c.args.most i start lanes entries jobs lane now within before.same.0 is before.fetched.4 done.fetched.5 before.fetched.5,
        below_set (IsBlock (entries ++ more)) lanes i now within
            (block_mine i entries jobs now before.fetched.4.order
            (omega (arith, done.before, ap length before.fetched.2, length-map entries (λ (entry : LogEntry). entry.job)))
            (omega (arith, done.before, done.number, ap length done.fetched.3, length-append c.loop-client.jobs.items jobs)))
            (λ k d less. block_other entries i jobs k (get_or lanes k d) (λ e. omega (arith, e, less)) (before.fetched.6 k d less)),
        received_more start lanes i lane now entries jobs within before.same.0 is done.fetched.1 before.fetched.7,
      );
      popped = λ held. subst (ArePopped (set lanes i now)) (sym done.fetched.2)
          (popped_more lanes i lane now c.loop-client.log.items jobs within is done.fetched.1 (before.popped held));
      pushed = λ held. pushed_still lanes i lane now c.args.log.now.items within is done.answered done.records (before.pushed held);
      kept = map-set_same kept_by lanes i now lane
          (ap (λ (r : _). sent r ++ late_of now) done.records
          ∙ (ap (λ (v : _). sent lane.records ++ v.items) done.late ∙ ap kept_by is)) ∙ before.kept;
      sent = sent_set start lanes i lane now within before.same.0 is (omega (arith, ap (λ (r : _). length (sent r)) done.records)) before.sent;
      room = λ held. below_set (λ _ (l : Lane). HasRoom l) lanes i now within
          (done.room (subst (HasRoomOrIsHeld c.args.most) (sym (is ∙ before.fetched.5.above i lane (omega arith)))
          (held i lane (omega (arith, within, before.same.0))))) (before.room held);
      late_room = map-set_same room_by lanes i now lane (ap (λ (v : _). deque_capacity v) done.late ∙ ap room_by is) ∙ before.late_room;
      same = same_more start lanes i lane now within is done.same before.same;
      log_room = done.log_room ∙ before.log_room;
      jobs_room = done.jobs_room ∙ before.jobs_room;
    }

pub returns-clause-fetched : goal.returns-clause-fetched
returns-clause-fetched c =
    let left = c.loop-client.invariant.fetched in
    let long = c.loop-client.invariant.same.0 in
    let all : length c.args.lanes.now.items ≡ c.loop-client.client = omega (arith, c.loop-client-test.false, c.len-client-end.ensures, c.args.lanes.now.ok.0, c.loop-client.auto.client-end) in (
      left.0,
      left.1,
      left.2,
      subst (λ n. length left.0 ≤ 128 * n) (sym all) left.3,
      subst (λ n. IsFetchedUpTo c.args.number n (map sent_for left.0)) (sym all) left.4,
      taken_all c.args.number c.args.most c.args.lanes.now.items left.0 c.loop-client.lanes.items c.loop-client.client (omega (arith, all, long)) left.5,
      λ client lane below. left.6 client lane (omega (arith, below, all, long)),
      left.7,
    )

pub returns-clause-room : goal.returns-clause-room
returns-clause-room c = λ held client lane below.
    let long = c.loop-client.invariant.same.0 in
    let all : length c.args.lanes.now.items ≡ c.loop-client.client = omega (arith, c.loop-client-test.false, c.len-client-end.ensures, c.args.lanes.now.ok.0, c.loop-client.auto.client-end) in
    c.loop-client.invariant.room held client lane (omega (arith, below, all, long))
