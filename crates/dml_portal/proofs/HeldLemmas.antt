-- Clients that are held back.
use Rattle.std.proofs.Common.{◌≡◌, ℕ, ◌+◌, ◌-◌, ◌<◌, ◌≤◌, List, [], ◌++◌, filter, length, get_or, set, map, drop, max, refl, sym, ◌∙◌, ap, subst, arith, inl, inr, ⊎_elim}
use Rattle.std.proofs.lemmas.Bool.{cases_lt}
use Rattle.std.proofs.lemmas.List.{get_or_default, length-append, length-drop, length-map}
use Rattle.std.proofs.Math.Seq.{drop-append_seam}
use Rattle.std.specs.Prelude.{None, Option, Some, nat_eq}
use Rattle.rtrb.specs.Ring.{known_items, sent}
use Rattle.dml_portal.specs.Types.{Job, LogEntry}
use Rattle.dml_portal.specs.Log.{answers_in, jobs_in, part_of, sent_for}
use Rattle.dml_portal.specs.Lanes.{IsTakenUpTo, waiting}
use Rattle.dml_portal.specs.Served.{IsFetched}
use Rattle.dml_portal.specs.Whole.{HasSentMore, HaveAnswered, HaveSentMore, kept_by, late_of, room_by}
use Rattle.dml_portal.specs.Held.{AreBounded, AreTakenOrHeldUpTo, HasRoomWithin, HaveRoomWithin, IsOver, IsTakenOrHeld, still_late}
use Rattle.dml_portal.specs.declared.lanes.Lane.{Lane}
use Rattle.dml_portal.proofs.LogLemmas.{jobs_part}
use Rattle.dml_portal.proofs.LookLemmas.{each_more}
use Rattle.dml_portal.proofs.WholeLemmas.{same_at, same_jobs}

over_more : (most : Option ℕ) (a b : ℕ) → a ≤ b → IsOver most a → IsOver most b
over_more None a b le over = over
over_more (Some most) a b le over = omega (arith, le, over)

-- where nothing was pushed, all that waited wait still
still_same : (lane now : Lane) → now.records ≡ lane.records → still_late lane now ≡ late_of lane
still_same lane now same =
    ap (λ (r : _). drop (length (sent r)) (kept_by lane)) same ∙ drop-append_seam (sent lane.records) (late_of lane)

pub taken_open : (number : ℕ) (most : Option ℕ) (lane now : Lane) (taken : List Job) → now.records ≡ lane.records → (IsOver most (length (late_of lane)) → ⊥) → IsTakenUpTo number (waiting lane) taken (waiting now) → IsTakenOrHeld number most lane now taken
taken_open number most lane now taken same unheld is =
    record {
      either = inl is;
      few = λ _. is;
      many = λ over. absurd (unheld (subst (λ xs. IsOver most (length xs)) (still_same lane now same) over));
    }

pub held_none : (number : ℕ) (most : Option ℕ) (lane now : Lane) → now.jobs ≡ lane.jobs → IsOver most (length (late_of lane)) → IsTakenOrHeld number most lane now []
held_none number most lane now same over =
    record {
      either = inr (refl, ap (λ (r : _). known_items r) same);
      few = λ unheld. absurd (unheld over);
      many = λ _. refl;
    }

still_length : (lane now : Lane) → length (still_late lane now) ≡ length (kept_by lane) - length (sent now.records)
still_length lane now = length-drop (length (sent now.records)) (kept_by lane)

kept_length : (lane : Lane) → length (kept_by lane) ≡ length (sent lane.records) + length (late_of lane)
kept_length lane = length-append (sent lane.records) (late_of lane)

-- records are pushed before and behind
held_one : (number : ℕ) (most : Option ℕ) (lane start fetched now : Lane) (taken : List Job) → waiting start ≡ waiting lane → waiting now ≡ waiting fetched → kept_by start ≡ kept_by lane → HasSentMore lane start → HasSentMore fetched now → IsTakenOrHeld number most start fetched taken → IsTakenOrHeld number most lane now taken
held_one number most lane start fetched now taken known left kept first last held =
    record {
      either = ⊎_elim
          (λ (is : IsTakenUpTo number (waiting start) taken (waiting fetched)). inl (taken_as is))
          (λ (none : (taken ≡ []) × (waiting fetched ≡ waiting start)). inr (none.0, left ∙ (none.1 ∙ known)))
          held.either;
      few = λ unheld. taken_as (held.few (λ over. unheld (over_more most (length (late_of start)) (length (late_of lane)) fewer over)));
      many = λ over. held.many (over_more most (length (still_late lane now)) (length (still_late start fetched)) less over);
    }
  where
    taken_as : IsTakenUpTo number (waiting start) taken (waiting fetched) → IsTakenUpTo number (waiting lane) taken (waiting now)
    taken_as is = subst (λ w. IsTakenUpTo number w taken (waiting now)) known (subst (IsTakenUpTo number (waiting start) taken) (sym left) is)

    fewer : length (late_of start) ≤ length (late_of lane)
    fewer = omega (arith, ap length kept, kept_length start, kept_length lane, first)

    less : length (still_late lane now) ≤ length (still_late start fetched)
    less = omega (arith, ap length kept, still_length lane now, still_length start fetched, last)

-- of each client, and the entries were sent as those that were fetched
pub held_along : (number : ℕ) (most : Option ℕ) (lanes start fetched now : List Lane) (entries added : List LogEntry) → length start ≡ length lanes → length fetched ≡ length start → length now ≡ length fetched → map waiting start ≡ map waiting lanes → map waiting now ≡ map waiting fetched → map kept_by start ≡ map kept_by lanes → HaveSentMore lanes start → HaveSentMore fetched now → map sent_for added ≡ map sent_for entries → AreTakenOrHeldUpTo number most start entries fetched → AreTakenOrHeldUpTo number most lanes added now
held_along number most lanes start fetched now entries added long_start long_fetched long_now known left kept first last same taken client lane below =
    let l : Lane = get_or now client lane in
    let f : Lane = get_or fetched client l in
    let s : Lane = get_or start client f in
    let in_fetched : client < length fetched = omega (arith, below, long_now) in
    let in_start : client < length start = omega (arith, in_fetched, long_fetched) in
    let in_lanes : client < length lanes = omega (arith, in_start, long_start) in
    let sent_first : HasSentMore (get_or lanes client l) s =
    subst (λ o. HasSentMore o s) (get_or_default lanes client s l in_lanes) (first client f in_start) in
    subst (IsTakenOrHeld number most (get_or lanes client l) l) (same_jobs entries added same client)
    (held_one number most (get_or lanes client l) s f l (jobs_in (part_of client entries))
    (same_at waiting start lanes client f l known in_lanes) (same_at waiting now fetched client lane l left in_fetched) (same_at kept_by start lanes client f l kept in_lanes)
    sent_first (last client lane below) (taken client l in_fetched))

-- how many of a client's jobs a round fetches
part_few : (clients client : ℕ) (entries : List LogEntry) → IsFetched clients (map sent_for entries) → length (answers_in (part_of client entries)) ≤ 128
part_few clients client entries fetched =
    let few = fetched.few client in
    let jobs = ap length (jobs_part client entries) in
    let both = length-map (filter (λ sent. nat_eq sent.client client) (map sent_for entries)) (λ sent. sent.job) in
    omega (arith, few, jobs, both, length-map (part_of client entries) (λ (e : LogEntry). e.job), length-map (part_of client entries) (λ (e : LogEntry). e.answer))

-- where none is fetched of a client, no more wait
bounded_none : (most : ℕ) (lane now : Lane) (more : List _) → kept_by now ≡ kept_by lane ++ more → length more ≡ 0 → HasSentMore lane now → length (late_of now) ≤ max (length (late_of lane)) (most + 128)
bounded_none most lane now more grown none sent_more =
    omega (arith, ap length grown, length-append (kept_by lane) more, none, kept_length lane, kept_length now, sent_more)

-- and of one that is not held back a round's at most
bounded_free : (most : ℕ) (lane now : Lane) (more : List _) → kept_by now ≡ kept_by lane ++ more → length more ≤ 128 → length (still_late lane now) ≤ most → length (late_of now) ≤ max (length (late_of lane)) (most + 128)
bounded_free most lane now more grown few fits =
    omega (arith, ap length grown, length-append (kept_by lane) more, few, still_length lane now, kept_length now, fits)

pub bounded : (number most clients : ℕ) (lanes now : List Lane) (entries : List LogEntry) → IsFetched clients (map sent_for entries) → HaveSentMore lanes now → HaveAnswered lanes entries now → AreTakenOrHeldUpTo number (Some most) lanes entries now → AreBounded most lanes now
bounded number most clients lanes now entries fetched sent_more grown taken client lane below =
    let l : Lane = get_or now client lane in
    let o : Lane = get_or lanes client l in
    let mine : List LogEntry = part_of client entries in
    ⊎_elim
    (λ (over : most < length (still_late o l)).
    bounded_none most o l (answers_in mine) (grown client lane below)
    (omega (arith, ap length ((taken client lane below).many over), length-map mine (λ (e : LogEntry). e.job), length-map mine (λ (e : LogEntry). e.answer)))
    (sent_more client lane below))
    (λ (fits : length (still_late o l) ≤ most).
    bounded_free most o l (answers_in mine) (grown client lane below) (part_few clients client entries fetched) fits)
    (cases_lt most (length (still_late o l)))

-- nor where nothing is fetched at all
pub bounded_still : (most : ℕ) (lanes now : List Lane) (entries : List LogEntry) → entries ≡ [] → HaveSentMore lanes now → HaveAnswered lanes entries now → AreBounded most lanes now
bounded_still most lanes now entries none sent_more grown client lane below =
    let l : Lane = get_or now client lane in
    bounded_none most (get_or lanes client l) l (answers_in (part_of client entries)) (grown client lane below)
    (ap (λ es. length (answers_in (part_of client es))) none) (sent_more client lane below)

-- the room for records that wait
pub rooms_again : (most : ℕ) (lanes : List Lane) → HaveRoomWithin most lanes lanes
rooms_again most lanes client lane below =
    omega (arith, ap room_by (get_or_default lanes client lane (get_or lanes client lane) below))

pub rooms_set : (most : ℕ) (start lanes : List Lane) (i : ℕ) (lane now : Lane) → i < length lanes → length lanes ≡ length start → lane ≡ get_or lanes i lane → HasRoomWithin most lane now → HaveRoomWithin most start lanes → HaveRoomWithin most start (set lanes i now)
rooms_set most start lanes i lane now within long is more before =
    each_more (HasRoomWithin most) start lanes i lane now (λ a b c first next. omega (arith, first, next)) within long is more before

-- it grows between two lists of lanes, and is the same before and behind
pub rooms_between : (most : ℕ) (lanes start made now : List Lane) → length start ≡ length lanes → length made ≡ length start → length now ≡ length made → map room_by start ≡ map room_by lanes → HaveRoomWithin most start made → map room_by now ≡ map room_by made → HaveRoomWithin most lanes now
rooms_between most lanes start made now long_start long_made long_now first grown last client lane below =
    let l : Lane = get_or now client lane in
    let m : Lane = get_or made client l in
    let in_made : client < length made = omega (arith, below, long_now) in
    let in_start : client < length start = omega (arith, in_made, long_made) in
    let end : room_by l ≡ room_by m = same_at room_by now made client lane l last in_made in
    let begin : room_by (get_or start client m) ≡ room_by (get_or lanes client l) =
    same_at room_by start lanes client m l first (omega (arith, in_start, long_start)) in
    let between : HasRoomWithin most (get_or start client m) m = grown client l in_made in
    omega (arith, end, begin, between)
