-- The server's ends of the clients' rings, and what they have to do with the log.
use Rattle.std.specs.Prelude.{◌≡◌, ℕ, ◌<◌, ◌≤◌, ◌⊎◌, List, [], ◌++◌, length, slice_index_or, take}
use mathlib.Core.List.{IsPrefix}
use Rattle.rtrb.specs.Ring.{IsPair, SameConsumer, SameProducer, known_free, known_items, received, sent}
use Rattle.dml_portal.specs.Types.{Job, LogEntry}
use Rattle.dml_portal.specs.Log.{answers_in, jobs_in, part_of}
use Rattle.dml_portal.specs.declared.lanes.Lane.{Lane}
use Rattle.dml_portal.specs.declared.seats.Seat.{Seat}

-- a fact of each client and its lane
abbrev pub EachLane : (ℕ → Lane → Type 0) → List Lane → Type 0
EachLane P lanes =
    (client : ℕ) (lane : Lane) → client < length lanes → P client (slice_index_or lanes client lane)

-- the jobs that were popped from the client's ring are those of its part of the log
abbrev pub IsPopped : List LogEntry → ℕ → Lane → Type 0
IsPopped log client lane = received lane.jobs ≡ jobs_in (part_of client log)

-- the records that were pushed to the client are those of its part of a front of the log
abbrev pub IsPushed : List LogEntry → ℕ → Lane → Type 0
IsPushed log client lane =
    (lane.answered ≤ length log)
    × (sent lane.records ≡ answers_in (part_of client (take lane.answered log)))

abbrev pub ArePopped : List Lane → List LogEntry → Type 0
ArePopped lanes log = EachLane (IsPopped log) lanes

abbrev pub ArePushed : List Lane → List LogEntry → Type 0
ArePushed lanes log = EachLane (IsPushed log) lanes

-- each record of the client was pushed, or no place of its ring is known to be free
abbrev pub IsAnswered : List LogEntry → ℕ → Lane → Type 0
IsAnswered log client lane =
    (sent lane.records ≡ answers_in (part_of client log)) ⊎ (known_free lane.records ≡ 0)

abbrev pub AreAnswered : List Lane → List LogEntry → Type 0
AreAnswered lanes log = EachLane (IsAnswered log) lanes

-- the jobs that are known to wait in the client's ring
abbrev pub waiting : Lane → List Job
waiting lane = known_items lane.jobs

-- first the jobs that were known to wait are taken, and so many in all, or until none is known to wait
pub record IsTakenUpTo (number : ℕ) (known taken left : List Job) : Type 0 where
  pub first : IsPrefix known (taken ++ left)
  pub most : (length taken ≡ number) ⊎ (left ≡ [])

-- 128 in all, or until none is known to wait
abbrev pub IsTaken : List Job → List Job → List Job → Type 0
IsTaken known taken left = IsTakenUpTo 128 known taken left

-- of each client the jobs of its part of these entries were taken
abbrev pub AreTaken : List Lane → List LogEntry → List Lane → Type 0
AreTaken lanes entries now =
    EachLane
    (λ client lane.
    IsTaken (waiting (slice_index_or lanes client lane)) (jobs_in (part_of client entries)) (waiting lane))
    now

-- the same ends of the same rings
abbrev pub IsSameLane : Lane → Lane → Type 0
IsSameLane a b = SameConsumer a.jobs b.jobs × SameProducer a.records b.records

abbrev pub AreSameLanes : List Lane → List Lane → Type 0
AreSameLanes lanes now =
    (length now ≡ length lanes)
    × EachLane (λ client lane. IsSameLane (slice_index_or lanes client lane) lane) now

-- the seat has the other ends of a lane's rings
abbrev pub IsAcross : Seat → Lane → Type 0
IsAcross seat lane = IsPair seat.jobs lane.jobs × IsPair lane.records seat.records

-- the seat is one of these lanes' clients
abbrev pub IsSeatOf : List Lane → Seat → Type 0
IsSeatOf lanes seat =
    (seat.client < length lanes) × ((lane : Lane) → IsAcross seat (slice_index_or lanes seat.client lane))

-- of whose rings nothing was used
abbrev pub IsNewLane : Lane → Type 0
IsNewLane lane =
    (received lane.jobs ≡ [])
    × (sent lane.records ≡ [])
    × (lane.answered ≡ 0)
    × (lane.before ≡ 0)
    × (lane.fetched ≡ 0)
