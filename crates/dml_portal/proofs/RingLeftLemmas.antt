-- How many jobs are left, counted by what the rings' ends have received.
use Rattle.std.proofs.Common.{◌≡◌, ℕ, ◌+◌, ◌-◌, ◌<◌, ◌≤◌, List, length, get_or, map, ◌∙◌, ap, subst, arith}
use Rattle.std.proofs.lemmas.List.{get_or-map, get_or_default, length-append}
use Rattle.std.specs.List.{sum_by}
use Rattle.rtrb.specs.Ring.{received}
use Rattle.dml_portal.specs.Types.{LogEntry}
use Rattle.dml_portal.specs.Log.{jobs_in, part_of}
use Rattle.dml_portal.specs.Seats.{submitted}
use Rattle.dml_portal.specs.Lanes.{AreTaken, waiting}
use Rattle.dml_portal.specs.Whole.{HaveReceived}
use Rattle.dml_portal.specs.Settled.{AreSeatsOf, AreUnusedLanes, AreUnusedSeats, HasJobsLeft, IsUnusedSeat}
use Rattle.dml_portal.specs.declared.lanes.Lane.{Lane}
use Rattle.dml_portal.specs.declared.seats.Done.{Done}
use Rattle.dml_portal.proofs.LeftLemmas.{one_taken, some_of, sums_less}

-- the jobs that a seat submitted and that were not received, and those of all seats
abbrev pub received_count : Lane → ℕ
received_count lane = length (received lane.jobs)

abbrev pub left_of : List Lane → Done → ℕ
left_of lanes done = length (submitted done.seat) - get_or (map received_count lanes) done.seat.client 0

abbrev pub jobs_left : List Lane → List Done → ℕ
jobs_left lanes dones = sum_by (left_of lanes) dones

counted : (lanes : List Lane) (client : ℕ) (d : Lane) → client < length lanes → get_or (map received_count lanes) client 0 ≡ received_count (get_or lanes client d)
counted lanes client d within = get_or-map received_count lanes client d 0 within

-- what was received before a look is received behind it
count_unused : (lanes now : List Lane) (client : ℕ) (d : Lane) → AreUnusedLanes lanes now → client < length now → received_count (get_or now client d) ≡ received_count (get_or lanes client d)
count_unused lanes now client d unused below =
    let l : Lane = get_or now client d in
    let inside : client < length lanes = omega (arith, below, unused.0) in
    ap length (unused.1 client d below).1 ∙ ap received_count (get_or_default lanes client l d inside)

-- a look at the rings that found a job, and a round behind it
pub fewer_left : (lanes seen now : List Lane) (entries : List LogEntry) (dones looked : List Done) → AreUnusedLanes lanes seen → AreUnusedSeats dones looked → AreSeatsOf seen looked → length now ≡ length seen → HaveReceived seen entries now → AreTaken seen entries now → HasJobsLeft seen looked → jobs_left now looked < jobs_left lanes dones
fewer_left lanes seen now entries dones looked unused_lanes unused seats as_many got taken has =
    sums_less (left_of lanes) (left_of now) dones looked has.place has.within unused.0 no_more less
  where
    grows : (client : ℕ) (d : Lane) → client < length seen → get_or (map received_count now) client 0 ≡ get_or (map received_count lanes) client 0 + length (jobs_in (part_of client entries))
    grows client d within =
        let here : client < length now = omega (arith, within, as_many) in
        let first : client < length lanes = omega (arith, within, unused_lanes.0) in
        let l : Lane = get_or now client d in
        let all = ap length (got client d here) in
        let parts = length-append (received (get_or seen client l).jobs) (jobs_in (part_of client entries)) in
        let a = counted now client d here in
        let b = counted lanes client l first in
        let e = count_unused lanes seen client l unused_lanes within in
        omega (arith, all, parts, a, b, e)

    no_more : (k : ℕ) (d : Done) → k < length looked → left_of now (get_or looked k d) ≤ left_of lanes (get_or dones k d)
    no_more k d below =
        let mine : Done = get_or looked k d in
        let was : Done = get_or dones k d in
        let same : IsUnusedSeat was.seat mine.seat =
        subst (λ (x : Done). IsUnusedSeat x.seat mine.seat) (get_or_default dones k mine d (omega (arith, below, unused.0))) (unused.1 k d below) in
        let client = ap (λ n. get_or (map received_count lanes) n 0) same.0.0 in
        let within : mine.seat.client < length seen = (seats k d below).0 in
        let more = grows mine.seat.client (some_of seen mine.seat.client within) within in
        omega (arith, ap length same.1, client, more)

    less : (d : Done) → left_of now (get_or looked has.place d) < left_of lanes (get_or dones has.place d)
    less d =
        let mine : Done = get_or looked has.place d in
        let was : Done = get_or dones has.place d in
        let same : IsUnusedSeat was.seat mine.seat =
        subst (λ (x : Done). IsUnusedSeat x.seat mine.seat) (get_or_default dones has.place mine d (omega (arith, has.within, unused.0))) (unused.1 has.place d has.within) in
        let within : mine.seat.client < length seen = (seats has.place d has.within).0 in
        let first : mine.seat.client < length lanes = omega (arith, within, unused_lanes.0) in
        let here : mine.seat.client < length now = omega (arith, within, as_many) in
        let e : Lane = some_of seen mine.seat.client within in
        let l : Lane = get_or now mine.seat.client e in
        let is_left = has.left d l in
        let some : 0 < length (jobs_in (part_of mine.seat.client entries)) =
        one_taken (waiting (get_or seen mine.seat.client l)) (jobs_in (part_of mine.seat.client entries)) (waiting l) is_left.1 (taken mine.seat.client e here) in
        let client = ap (λ n. get_or (map received_count lanes) n 0) same.0.0 in
        let more = grows mine.seat.client e within in
        let a = counted lanes mine.seat.client l first in
        let b = count_unused lanes seen mine.seat.client l unused_lanes within in
        let c = is_left.0 in
        omega (arith, ap length same.1, client, more, some, a, b, c)
