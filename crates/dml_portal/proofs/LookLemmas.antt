-- Looks at both ends of rings, and what they show of the log.
use Rattle.std.proofs.Common.{suc, ◌≡◌, ℕ, ◌+◌, ◌<◌, ◌≤◌, List, [], ◌∷◌, ◌++◌, length, get_or, set, take, drop, refl, sym, ◌∙◌, ap, subst, arith, rules, append_assoc, ⊎_elim}
use Rattle.std.proofs.lemmas.Bool.{cases_eq}
use Rattle.std.proofs.lemmas.List.{append-nil, get_or-set_same, get_or-set_other, get_or_default, length-append, length-set, map-append, take-append-drop}
use Rattle.std.specs.Prelude.{◌||◌, ◌&&◌, nat_eq}
use Rattle.std.specs.List.{list_all, range_with_len}
use mathlib.Core.List.{IsPrefix}
use Rattle.rtrb.specs.Ring.{received, sent}
use Rattle.dml_portal.specs.Types.{LogEntry}
use Rattle.dml_portal.specs.Log.{answers_in, jobs_in, part_of}
use Rattle.dml_portal.specs.Seats.{IsSameSeat, polled, submitted}
use Rattle.dml_portal.specs.Lanes.{ArePopped, ArePushed, AreSameLanes, IsAcross, IsPushed, IsSameLane, IsSeatOf, waiting}
use Rattle.dml_portal.specs.Settled.{AreSeatsOf, AreUnusedLanes, AreUnusedSeats, EachDone, HasJobsLeft, IsDrained, IsLeft, IsSettled, IsUnusedLane, IsUnusedSeat, has_finished, have_finished}
use Rattle.dml_portal.specs.declared.lanes.Lane.{Lane}
use Rattle.dml_portal.specs.declared.seats.Done.{Done}
use Rattle.dml_portal.specs.declared.seats.Seat.{Seat}
use Rattle.dml_portal.proofs.Lists.{each_set}
use Rattle.dml_portal.proofs.LaneLemmas.{same_lane, same_more}
use Rattle.dml_portal.proofs.LogLemmas.{part_append}

prefix_more : {X : Type 0} (xs ys zs : List X) → IsPrefix xs ys → IsPrefix xs (ys ++ zs)
prefix_more xs ys zs front = (front.0 ++ zs, sym (append_assoc xs front.0 zs) ∙ ap (λ all. all ++ zs) front.1)

-- the records of a front of the log are a front of the client's
front_answers : (client n : ℕ) (log : List LogEntry) → answers_in (part_of client log) ≡ answers_in (part_of client (take n log)) ++ answers_in (part_of client (drop n log))
front_answers client n log =
    ap (λ xs. answers_in (part_of client xs)) (sym (take-append-drop n log))
    ∙ (ap answers_in (part_append client (take n log) (drop n log))
    ∙ map-append (λ (e : LogEntry). e.answer) (part_of client (take n log)) (part_of client (drop n log)))

pub settled : (lanes : List Lane) (log : List LogEntry) (done : Done) → IsSeatOf lanes done.seat → ArePopped lanes log → ArePushed lanes log → ((lane : Lane) → (received (get_or lanes done.seat.client lane).jobs ≡ submitted done.seat) × IsPrefix (polled done.seat) (sent (get_or lanes done.seat.client lane).records)) → (lane : Lane) → IsSettled log done
settled lanes log done seat popped pushed drained lane =
    let client : ℕ = done.seat.client in
    let mine : Lane = get_or lanes client lane in
    let given = pushed client lane seat.0 in
    record {
      jobs = sym (popped client lane seat.0) ∙ (drained lane).0;
      records =
          subst (IsPrefix (polled done.seat)) (sym (front_answers client mine.answered log))
          (prefix_more (polled done.seat) (answers_in (part_of client (take mine.answered log))) (answers_in (part_of client (drop mine.answered log)))
          (subst (IsPrefix (polled done.seat)) given.1 (drained lane).1));
    }

-- the same of a seat of which nothing was used
pub settled_same : (log : List LogEntry) (done now : Done) → IsUnusedSeat done.seat now.seat → IsSettled log now → IsSettled log done
settled_same log done now same was =
    record {
      jobs = ap (λ client. jobs_in (part_of client log)) (sym same.0.0) ∙ (was.jobs ∙ same.1);
      records =
          subst (λ xs. IsPrefix xs (answers_in (part_of done.seat.client log))) same.2
          (subst (λ client. IsPrefix (polled now.seat) (answers_in (part_of client log))) same.0.0 was.records);
    }

pub across_same : (seat seat2 : Seat) (lane lane2 : Lane) → IsAcross seat lane → IsSameSeat seat seat2 → IsSameLane lane lane2 → IsAcross seat2 lane2
across_same seat seat2 lane lane2 across seats lanes = search rules

pub seat_same : (lanes now : List Lane) (seat seat2 : Seat) → IsSeatOf lanes seat → IsSameSeat seat seat2 → AreSameLanes lanes now → IsSeatOf now seat2
seat_same lanes now seat seat2 of same all =
    let below : seat.client < length now = omega (arith, of.0, all.0) in (
      subst (λ n. n < length now) (sym same.0) below,
      λ lane.
          let d : Lane = get_or now seat.client lane in
          subst (λ n. IsAcross seat2 (get_or now n lane)) (sym same.0)
          (across_same seat seat2 (get_or lanes seat.client d) d (of.1 d) same (all.1 seat.client lane below)),
    )

pub unused_same : (lanes now : List Lane) → AreUnusedLanes lanes now → AreSameLanes lanes now
unused_same lanes now unused = (unused.0, λ client lane below. (unused.1 client lane below).0)

pub popped_unused : (lanes now : List Lane) (log : List LogEntry) → AreUnusedLanes lanes now → ArePopped lanes log → ArePopped now log
popped_unused lanes now log unused popped client lane below =
    let l : Lane = get_or now client lane in
    let inside : client < length lanes = omega (arith, below, unused.0) in
    (unused.1 client lane below).1 ∙ popped client l inside

pub pushed_unused_one : (log : List LogEntry) (client : ℕ) (lane now : Lane) → IsUnusedLane lane now → IsPushed log client lane → IsPushed log client now
pushed_unused_one log client lane now same was = (
  subst (λ n. n ≤ length log) (sym same.3) was.0,
  same.2 ∙ (was.1 ∙ ap (λ n. answers_in (part_of client (take n log))) (sym same.3)),
)

pub pushed_unused : (lanes now : List Lane) (log : List LogEntry) → AreUnusedLanes lanes now → ArePushed lanes log → ArePushed now log
pushed_unused lanes now log unused pushed client lane below =
    let l : Lane = get_or now client lane in
    let inside : client < length lanes = omega (arith, below, unused.0) in
    pushed_unused_one log client (get_or lanes client l) l (unused.1 client lane below) (pushed client l inside)

-- one entry of a list changes by a relation that all entries have to those of the start
pub each_more : {X : Type 0} (R : X → X → Type 0) (start xs : List X) (i : ℕ) (x y : X) → ((a b c : X) → R a b → R b c → R a c) → i < length xs → length xs ≡ length start → x ≡ get_or xs i x → R x y → ((k : ℕ) (d : X) → k < length xs → R (get_or start k (get_or xs k d)) (get_or xs k d)) → (k : ℕ) (d : X) → k < length (set xs i y) → R (get_or start k (get_or (set xs i y) k d)) (get_or (set xs i y) k d)
each_more {X} R start xs i x y after within long is step before =
    each_set (λ k e. R (get_or start k e) e) xs i y within
    (let here : i < length start = omega (arith, within, long) in
    let old : R (get_or start i x) x = subst (λ e. R (get_or start i e) e) (sym is) (before i x within) in
    subst (λ e. R e y) (get_or_default start i x y here) (after (get_or start i x) x y old step))
    (λ k d below differs. before k d below)

unused_lane : (a b c : Lane) → IsUnusedLane a b → IsUnusedLane b c → IsUnusedLane a c
unused_lane a b c ab bc = (same_lane a b c ab.0 bc.0, bc.1 ∙ ab.1, bc.2 ∙ ab.2, bc.3 ∙ ab.3)

unused_seat : (a b c : Seat) → IsUnusedSeat a b → IsUnusedSeat b c → IsUnusedSeat a c
unused_seat a b c ab bc = search rules

-- a look at one client's rings leaves the others drained that were
drained_set : (lanes : List Lane) (client : ℕ) (lane now : Lane) (done : Done) → client < length lanes → lane ≡ get_or lanes client lane → IsUnusedLane lane now → IsDrained lanes done → IsDrained (set lanes client now) done
drained_set lanes client lane now done within is same drained d =
    ⊎_elim
    (λ (e : done.seat.client ≡ client).
    let old : IsDrained lanes done = drained in
    let there = subst (λ l. (received l.jobs ≡ submitted done.seat) × IsPrefix (polled done.seat) (sent l.records)) (ap (λ n. get_or lanes n lane) e ∙ sym is) (old lane) in
    subst (λ l. (received l.jobs ≡ submitted done.seat) × IsPrefix (polled done.seat) (sent l.records))
    (sym (ap (λ n. get_or (set lanes client now) n d) e ∙ get_or-set_same lanes client now d within))
    (same.1 ∙ there.0, subst (IsPrefix (polled done.seat)) (sym same.2) there.1))
    (λ (differs : done.seat.client ≡ client → ⊥).
    subst (λ l. (received l.jobs ≡ submitted done.seat) × IsPrefix (polled done.seat) (sent l.records))
    (sym (get_or-set_other lanes client done.seat.client now d differs)) (drained d))
    (cases_eq done.seat.client client)

pub same_lane_again : (lane : Lane) → IsSameLane lane lane
same_lane_again lane = search rules

same_seat_again : (seat : Seat) → IsSameSeat seat seat
same_seat_again seat = search rules

pub same_lanes_again : (lanes : List Lane) → AreSameLanes lanes lanes
same_lanes_again lanes = (
  refl,
  λ client lane below.
      let mine : Lane = get_or lanes client lane in
      subst (λ l. IsSameLane l mine) (get_or_default lanes client lane mine below) (same_lane_again mine),
)

pub unused_lanes_again : (lanes : List Lane) → AreUnusedLanes lanes lanes
unused_lanes_again lanes = (
  refl,
  λ client lane below.
      let mine : Lane = get_or lanes client lane in
      subst (λ l. IsUnusedLane l mine) (get_or_default lanes client lane mine below) (same_lane_again mine, refl, refl, refl),
)

-- a seat and its lane were looked at
pub seats_set : (lanes : List Lane) (dones : List Done) (place client : ℕ) (done : Done) (lane now : Lane) (seat : Seat) → place < length dones → done ≡ get_or dones place done → client < length lanes → lane ≡ get_or lanes client lane → IsSameLane lane now → IsSameSeat done.seat seat → AreSeatsOf lanes dones → AreSeatsOf (set lanes client now) (set dones place (record { seat = seat }))
seats_set lanes dones place client done lane now seat within is within_lanes is_lane same same_seat seats =
    let after : AreSameLanes lanes (set lanes client now) =
    same_more lanes lanes client lane now within_lanes is_lane same (same_lanes_again lanes) in
    each_set (λ _ d. IsSeatOf (set lanes client now) d.seat) dones place (record { seat = seat }) within
    (seat_same lanes (set lanes client now) done.seat seat
    (subst (λ (d : Done). IsSeatOf lanes d.seat) (sym is) (seats place done within)) same_seat after)
    (λ k d below differs.
    let other : Done = get_or dones k d in
    seat_same lanes (set lanes client now) other.seat other.seat (seats k d below) (same_seat_again other.seat) after)

pub lanes_set : (start lanes : List Lane) (client : ℕ) (lane now : Lane) → client < length lanes → lane ≡ get_or lanes client lane → IsUnusedLane lane now → AreUnusedLanes start lanes → AreUnusedLanes start (set lanes client now)
lanes_set start lanes client lane now within is same before = (
  length-set lanes client now ∙ before.0,
  each_more IsUnusedLane start lanes client lane now unused_lane within before.0 is same before.1,
)

pub dones_set : (start dones : List Done) (place : ℕ) (done : Done) (seat : Seat) → place < length dones → done ≡ get_or dones place done → IsUnusedSeat done.seat seat → AreUnusedSeats start dones → AreUnusedSeats start (set dones place (record { seat = seat }))
dones_set start dones place done seat within is same before = (
  length-set dones place (record { seat = seat }) ∙ before.0,
  each_more (λ (a b : Done). IsUnusedSeat a.seat b.seat) start dones place done (record { seat = seat })
      (λ a b c. unused_seat a.seat b.seat c.seat) within before.0 is same before.1,
)

pub drained_more : (lanes : List Lane) (dones : List Done) (place : ℕ) (done : Done) (lane now : Lane) (seat : Seat) → place < length dones → done.seat.client < length lanes → lane ≡ get_or lanes done.seat.client lane → IsUnusedLane lane now → IsUnusedSeat done.seat seat → received now.jobs ≡ submitted seat → IsPrefix (polled seat) (sent now.records) → ((k : ℕ) (d : Done) → k < place → IsDrained lanes (get_or dones k d)) → (k : ℕ) (d : Done) → k < place + 1 → IsDrained (set lanes done.seat.client now) (get_or (set dones place (record { seat = seat })) k d)
drained_more lanes dones place done lane now seat within within_lanes is_lane same same_seat empty front before k d below =
    let client : ℕ = done.seat.client in
    let looked : Done = record { seat = seat } in
    ⊎_elim
    (λ (e : k ≡ place).
    subst (IsDrained (set lanes client now))
    (sym (ap (λ n. get_or (set dones place looked) n d) e ∙ get_or-set_same dones place looked d within))
    (λ l.
    subst (λ (mine : Lane). (received mine.jobs ≡ submitted seat) × IsPrefix (polled seat) (sent mine.records))
    (sym (ap (λ n. get_or (set lanes client now) n l) same_seat.0.0 ∙ get_or-set_same lanes client now l within_lanes))
    (empty, front)))
    (λ (differs : k ≡ place → ⊥).
    subst (IsDrained (set lanes client now)) (sym (get_or-set_other dones place k looked d differs))
    (drained_set lanes client lane now (get_or dones k d) within_lanes is_lane same (before k d (less k place below differs))))
    (cases_eq k place)
  where
    less : (a b : ℕ) → a < b + 1 → (a ≡ b → ⊥) → a < b
    less a b below differs = omega (arith, below, differs)

pub empty_left : {X : Type 0} (left : List X) {xs all : List X} → xs ++ left ≡ all → length left ≡ 0 → xs ≡ all
empty_left [] {xs} is none = sym (append-nil xs) ∙ is
empty_left (x ∷ left) is none = absurd (omega (arith, none))

-- a job was seen in one client's ring
pub left_here : (lanes : List Lane) (dones : List Done) (place : ℕ) (done : Done) (lane now : Lane) (seat : Seat) → place < length dones → done.seat.client < length lanes → IsUnusedSeat done.seat seat → received now.jobs ++ waiting now ≡ submitted seat → 0 < length (waiting now) → HasJobsLeft (set lanes done.seat.client now) (set dones place (record { seat = seat }))
left_here lanes dones place done lane now seat within within_lanes same_seat whole some =
    let client : ℕ = done.seat.client in
    let looked : Done = record { seat = seat } in
    let more : length (received now.jobs) < length (submitted seat) =
    omega (arith, some, ap length whole, length-append (received now.jobs) (waiting now)) in
    record {
      place = place;
      within = subst (λ n. place < n) (sym (length-set dones place looked)) within;
      left = λ d l.
          subst (λ (x : Done). IsLeft (get_or (set lanes client now) x.seat.client l) x.seat) (sym (get_or-set_same dones place looked d within))
          (subst (λ x. IsLeft x seat)
          (sym (ap (λ n. get_or (set lanes client now) n l) same_seat.0.0 ∙ get_or-set_same lanes client now l within_lanes))
          (more, some));
    }

pub each_settled : (lanes now : List Lane) (log : List LogEntry) (done : Done) → AreUnusedLanes lanes now → ArePopped lanes log → ArePushed lanes log → IsSeatOf now done.seat → IsDrained now done → IsSettled log done
each_settled lanes [] log done unused popped pushed seat drained = absurd (omega (arith, seat.0))
each_settled lanes (lane ∷ now) log done unused popped pushed seat drained =
    settled (lane ∷ now) log done seat (popped_unused lanes (lane ∷ now) log unused popped) (pushed_unused lanes (lane ∷ now) log unused pushed) drained lane

pub seats_same : (lanes now : List Lane) (dones : List Done) → AreSameLanes lanes now → AreSeatsOf lanes dones → AreSeatsOf now dones
seats_same lanes now dones same seats place done below =
    let seat : Seat = (get_or dones place done).seat in
    seat_same lanes now seat seat (seats place done below) (same_seat_again seat) same

pub unused_seats : (start dones now : List Done) → AreUnusedSeats start dones → AreUnusedSeats dones now → AreUnusedSeats start now
unused_seats start dones now first next = (
  next.0 ∙ first.0,
  λ place done below.
      let d : Done = get_or now place done in
      let m : Done = get_or dones place d in
      let inside : place < length dones = omega (arith, below, next.0) in
      let inside_start : place < length start = omega (arith, inside, first.0) in
      unused_seat (get_or start place d).seat m.seat d.seat
      (subst (λ (x : Done). IsUnusedSeat x.seat m.seat) (get_or_default start place m d inside_start) (first.1 place d inside))
      (next.1 place done below),
)

pub unused_seats_again : (dones : List Done) → AreUnusedSeats dones dones
unused_seats_again dones = (
  refl,
  λ place done below.
      let mine : Done = get_or dones place done in
      subst (λ (d : Done). IsUnusedSeat d.seat mine.seat) (get_or_default dones place done mine below)
      (same_seat_again mine.seat, refl, refl),
)

-- the same seats are of the same clients
has_finished_same : (client : ℕ) (dones now : List Done) → AreUnusedSeats dones now → has_finished client now ≡ has_finished client dones
has_finished_same client [] [] unused = refl
has_finished_same client [] (next ∷ now) unused = absurd (omega (arith, unused.0))
has_finished_same client (done ∷ dones) [] unused = absurd (omega (arith, unused.0))
has_finished_same client (done ∷ dones) (next ∷ now) unused =
    let first : IsUnusedSeat done.seat next.seat = unused.1 0 next (omega arith) in
    let rest : AreUnusedSeats dones now = (omega (arith, unused.0), λ place d below. unused.1 (suc place) d (omega (arith, below))) in
    ap (λ n. nat_eq n client || has_finished client now) first.0.0
    ∙ ap (λ found. nat_eq done.seat.client client || found) (has_finished_same client dones now rest)

each_finished_same : (clients : List ℕ) (dones now : List Done) → AreUnusedSeats dones now → list_all (λ client. has_finished client now) clients ≡ list_all (λ client. has_finished client dones) clients
each_finished_same [] dones now unused = refl
each_finished_same (client ∷ clients) dones now unused =
    ap (λ found. found && list_all (λ c. has_finished c now) clients) (has_finished_same client dones now unused)
    ∙ ap (λ all. has_finished client dones && all) (each_finished_same clients dones now unused)

pub finished_same : (clients here : ℕ) (dones now : List Done) → here ≡ clients → AreUnusedSeats dones now → have_finished here now ≡ have_finished clients dones
finished_same clients here dones now same unused =
    ap (λ n. have_finished n now) same ∙ each_finished_same (range_with_len 0 clients) dones now unused

-- what is known of the seats as they are is known of them as they were handed in
pub all_settled : (log : List LogEntry) (dones now : List Done) → AreUnusedSeats dones now → EachDone (IsSettled log) now → EachDone (IsSettled log) dones
all_settled log dones now unused settled place done below =
    let inside : place < length now = omega (arith, below, unused.0) in
    let d : Done = get_or now place done in
    subst (IsSettled log) (get_or_default dones place d done below)
    (settled_same log (get_or dones place d) d (unused.1 place done inside) (settled place done inside))
