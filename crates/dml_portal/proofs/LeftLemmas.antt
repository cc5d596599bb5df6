-- How many jobs are left, which each round of a settlement makes fewer.
use Rattle.std.proofs.Common.{zero, suc, ◌≡◌, ℕ, ◌+◌, ◌-◌, ◌<◌, ◌≤◌, List, [], ◌∷◌, length, get_or, take, ◌∙◌, ap, subst, arith, ⊎_elim}
use Rattle.std.proofs.lemmas.List.{get_or_default, length-append, length-map}
use Rattle.std.proofs.lemmas.List.Sums.{sum_by-cons}
use Rattle.std.specs.List.{sum_by}
use Rattle.dml_portal.specs.Types.{Job, LogEntry}
use Rattle.dml_portal.specs.Log.{added, jobs_in, part_of}
use Rattle.dml_portal.specs.Seats.{submitted}
use Rattle.dml_portal.specs.Lanes.{ArePopped, AreTaken, IsTaken, waiting}
use Rattle.dml_portal.specs.Settled.{AreSeatsOf, AreUnusedSeats, HasJobsLeft, IsUnusedSeat}
use Rattle.dml_portal.specs.declared.lanes.Lane.{Lane}
use Rattle.dml_portal.specs.declared.seats.Done.{Done}
use Rattle.dml_portal.proofs.LogLemmas.{part_append}
use Rattle.dml_portal.proofs.ServedLemmas.{whole_is}

-- the jobs that a seat submitted and that are not in the log, and those of all seats
abbrev pub left_of : List LogEntry → Done → ℕ
left_of log done = length (submitted done.seat) - length (part_of done.seat.client log)

abbrev pub jobs_left : List LogEntry → List Done → ℕ
jobs_left log dones = sum_by (left_of log) dones

-- a sum is no greater where no term is, and smaller where one is smaller too
sums_le : {X : Type 0} (f g : X → ℕ) (xs ys : List X) → length ys ≡ length xs → ((k : ℕ) (d : X) → k < length ys → g (get_or ys k d) ≤ f (get_or xs k d)) → sum_by g ys ≤ sum_by f xs
sums_le f g [] [] long each = omega arith
sums_le f g [] (y ∷ ys) long each = absurd (omega (arith, long))
sums_le f g (x ∷ xs) [] long each = absurd (omega (arith, long))
sums_le f g (x ∷ xs) (y ∷ ys) long each =
    let first : g y ≤ f x = each 0 y (omega arith) in
    let rest = sums_le f g xs ys (omega (arith, long)) (λ k d below. each (suc k) d (omega (arith, below))) in
    omega (arith, first, rest, sum_by-cons f x xs, sum_by-cons g y ys)

pub sums_less : {X : Type 0} (f g : X → ℕ) (xs ys : List X) (place : ℕ) → place < length ys → length ys ≡ length xs → ((k : ℕ) (d : X) → k < length ys → g (get_or ys k d) ≤ f (get_or xs k d)) → ((d : X) → g (get_or ys place d) < f (get_or xs place d)) → sum_by g ys < sum_by f xs
sums_less f g xs [] place within long each less = absurd (omega (arith, within))
sums_less f g [] (y ∷ ys) place within long each less = absurd (omega (arith, long))
sums_less f g (x ∷ xs) (y ∷ ys) zero within long each less =
    let first : g y < f x = less y in
    let rest = sums_le f g xs ys (omega (arith, long)) (λ k d below. each (suc k) d (omega (arith, below))) in
    omega (arith, first, rest, sum_by-cons f x xs, sum_by-cons g y ys)
sums_less f g (x ∷ xs) (y ∷ ys) (suc place) within long each less =
    let first : g y ≤ f x = each 0 y (omega arith) in
    let rest = sums_less f g xs ys place (omega (arith, within)) (omega (arith, long)) (λ k d below. each (suc k) d (omega (arith, below))) less in
    omega (arith, first, rest, sum_by-cons f x xs, sum_by-cons g y ys)

pub some_of : {X : Type 0} (xs : List X) (k : ℕ) → k < length xs → X
some_of [] k within = absurd (omega (arith, within))
some_of (x ∷ xs) k within = x

-- where a job is known to wait, one is taken
pub one_taken : (known taken left : List Job) → 0 < length known → IsTaken known taken left → 0 < length taken
one_taken known taken left some is =
    let whole = ap length is.first.1 in
    ⊎_elim
    (λ (full : length taken ≡ 128). omega (arith, full))
    (λ (none : left ≡ []).
    omega (arith, some, whole, length-append known is.first.0, length-append taken left, ap length none))
    is.most

part_longer : (client : ℕ) (log now : List LogEntry) → take (length log) now ≡ log → length (part_of client now) ≡ length (part_of client log) + length (part_of client (added log now))
part_longer client log now front =
    ap (λ entries. length (part_of client entries)) (whole_is log now front)
    ∙ (ap length (part_append client log (added log now)) ∙ length-append (part_of client log) (part_of client (added log now)))

-- a look at the rings that found a job, and a round behind it
pub fewer_left : (log seen now : List LogEntry) (dones looked : List Done) (lanes after : List Lane) → seen ≡ log → take (length seen) now ≡ seen → AreUnusedSeats dones looked → ArePopped lanes seen → AreSeatsOf lanes looked → length after ≡ length lanes → AreTaken lanes (added seen now) after → HasJobsLeft lanes looked → jobs_left now looked < jobs_left log dones
fewer_left log seen now dones looked lanes after same_log front unused popped seats as_many taken has =
    sums_less (left_of log) (left_of now) dones looked has.place has.within unused.0 no_more less
  where
    no_more : (k : ℕ) (d : Done) → k < length looked → left_of now (get_or looked k d) ≤ left_of log (get_or dones k d)
    no_more k d below =
        let mine : Done = get_or looked k d in
        let was : Done = get_or dones k d in
        let same : IsUnusedSeat was.seat mine.seat =
        subst (λ (x : Done). IsUnusedSeat x.seat mine.seat) (get_or_default dones k mine d (omega (arith, below, unused.0))) (unused.1 k d below) in
        let client = ap (λ n. length (part_of n log)) same.0.0 in
        let entries = ap (λ es. length (part_of mine.seat.client es)) same_log in
        omega (arith, ap length same.1, client, entries, part_longer mine.seat.client seen now front)

    less : (d : Done) → left_of now (get_or looked has.place d) < left_of log (get_or dones has.place d)
    less d =
        let mine : Done = get_or looked has.place d in
        let was : Done = get_or dones has.place d in
        let same : IsUnusedSeat was.seat mine.seat =
        subst (λ (x : Done). IsUnusedSeat x.seat mine.seat) (get_or_default dones has.place mine d (omega (arith, has.within, unused.0))) (unused.1 has.place d has.within) in
        let client = ap (λ n. length (part_of n log)) same.0.0 in
        let entries = ap (λ es. length (part_of mine.seat.client es)) same_log in
        let inside : mine.seat.client < length lanes = (seats has.place d has.within).0 in
        let here : mine.seat.client < length after = omega (arith, inside, as_many) in
        let any : Lane = some_of lanes mine.seat.client inside in
        let l : Lane = get_or after mine.seat.client any in
        let left = has.left d l in
        let one = one_taken (waiting (get_or lanes mine.seat.client l)) (jobs_in (part_of mine.seat.client (added seen now))) (waiting l) left.1 (taken mine.seat.client any here) in
        let in_log = ap length (popped mine.seat.client l inside) in
        omega (arith, ap length same.1, client, entries, part_longer mine.seat.client seen now front, one, left.0, in_log, length-map (part_of mine.seat.client seen) (λ (e : LogEntry). e.job), length-map (part_of mine.seat.client (added seen now)) (λ (e : LogEntry). e.job))
