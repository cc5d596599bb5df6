-- Clients that are held back, since too many of their records wait.
use Rattle.std.specs.Prelude.{◌≡◌, ℕ, ◌+◌, ◌<◌, ◌≤◌, ◌⊎◌, List, [], Option, None, Some, drop, length, max, slice_index_or}
use Rattle.std.specs.VecDeque.{deque_capacity, deque_len}
use Rattle.rtrb.specs.Ring.{sent}
use Rattle.dml_portal.specs.Types.{Job, LogEntry, Record}
use Rattle.dml_portal.specs.Log.{jobs_in, part_of}
use Rattle.dml_portal.specs.Lanes.{EachLane, IsTakenUpTo, waiting}
use Rattle.dml_portal.specs.Whole.{kept_by, late_of, room_by}
use Rattle.dml_portal.specs.declared.lanes.Lane.{Lane}

-- so many are more than the bound; without one no number is
abbrev pub IsOver : Option ℕ → ℕ → Type 0
IsOver None number = ⊥
IsOver (Some most) number = most < number

-- the records that waited with the client, and that are not pushed now
abbrev pub still_late : Lane → Lane → List Record
still_late lane now = drop (length (sent now.records)) (kept_by lane)

-- at most so many of a client's jobs are taken, or it is held back and none is: it may be held back where more records
-- than the bound waited before, and is where more of them wait still
pub record IsTakenOrHeld (number : ℕ) (most : Option ℕ) (lane now : Lane) (taken : List Job) : Type 0 where
  pub either : IsTakenUpTo number (waiting lane) taken (waiting now) ⊎ ((taken ≡ []) × (waiting now ≡ waiting lane))
  pub few : (IsOver most (length (late_of lane)) → ⊥) → IsTakenUpTo number (waiting lane) taken (waiting now)
  pub many : IsOver most (length (still_late lane now)) → taken ≡ []

-- of each client with the jobs of its part of these entries
abbrev pub AreTakenOrHeldUpTo : ℕ → Option ℕ → List Lane → List LogEntry → List Lane → Type 0
AreTakenOrHeldUpTo number most lanes entries now =
    EachLane
    (λ client lane. IsTakenOrHeld number most (slice_index_or lanes client lane) lane (jobs_in (part_of client entries)))
    now

-- 128 of each
abbrev pub AreTakenOrHeld : Option ℕ → List Lane → List LogEntry → List Lane → Type 0
AreTakenOrHeld most lanes entries now = AreTakenOrHeldUpTo 128 most lanes entries now

-- with each client wait at most as many records as before, or, where that is more, the bound and those of one round
abbrev pub AreBounded : ℕ → List Lane → List Lane → Type 0
AreBounded most lanes now =
    EachLane
    (λ client lane. length (late_of lane) ≤ max (length (late_of (slice_index_or lanes client lane))) (most + 128))
    now

-- and the room for them is at most that of before, or, where that is more, of the bound and of one round
abbrev pub HasRoomWithin : ℕ → Lane → Lane → Type 0
HasRoomWithin most lane now = room_by now ≤ max (room_by lane) (most + 128)

abbrev pub HaveRoomWithin : ℕ → List Lane → List Lane → Type 0
HaveRoomWithin most lanes now =
    EachLane (λ client lane. HasRoomWithin most (slice_index_or lanes client lane) lane) now

-- there is room for the records of a round beside those that wait, or the client is held back
abbrev pub HasRoomOrIsHeld : Option ℕ → Lane → Type 0
HasRoomOrIsHeld most lane =
    IsOver most (length (late_of lane)) ⊎ (deque_len lane.late + 128 ≤ deque_capacity lane.late)

abbrev pub HaveRoomOrAreHeld : Option ℕ → List Lane → Type 0
HaveRoomOrAreHeld most lanes = EachLane (λ _ lane. HasRoomOrIsHeld most lane) lanes
