-- A log from whose front entries were taken off, and the records that wait beside it.
use Rattle.std.specs.Prelude.{◌≡◌, ℕ, ◌+◌, ◌≤◌, ◌⊎◌, List, [], ◌++◌, length, slice_index_or}
use Rattle.std.specs.VecDeque.{deque_capacity, deque_len}
use Rattle.rtrb.specs.Ring.{known_free, received, sent}
use Rattle.dml_portal.specs.Types.{Job, LogEntry, Record}
use Rattle.dml_portal.specs.Log.{answers_in, jobs_in, part_of}
use Rattle.dml_portal.specs.Lanes.{ArePopped, EachLane}
use Rattle.dml_portal.specs.declared.lanes.Lane.{Lane}

-- the records of the client that wait, and those behind the ones that were pushed
abbrev pub late_of : Lane → List Record
late_of lane = lane.late.items

abbrev pub kept_by : Lane → List Record
kept_by lane = sent lane.records ++ late_of lane

-- for how many records that wait there is room
abbrev pub room_by : Lane → ℕ
room_by lane = deque_capacity lane.late

-- the jobs that were popped from its ring
abbrev pub received_by : Lane → List Job
received_by lane = received lane.jobs

-- the records that were pushed to the client, and those that wait, are those of its part of the whole log
abbrev pub IsKept : List LogEntry → ℕ → Lane → Type 0
IsKept whole client lane = kept_by lane ≡ answers_in (part_of client whole)

abbrev pub AreKept : List Lane → List LogEntry → Type 0
AreKept lanes whole = EachLane (IsKept whole) lanes

-- the whole log is all that these lanes fetched and answered
pub record AreWhole (lanes : List Lane) (whole : List LogEntry) : Type 0 where
  pub popped : ArePopped lanes whole
  pub kept : AreKept lanes whole

-- with what was taken off before, what was whole stays so
abbrev pub StayWhole : List Lane → List LogEntry → List Lane → List LogEntry → Type 0
StayWhole lanes log now later =
    (earlier : List LogEntry) → AreWhole lanes (earlier ++ log) → AreWhole now (earlier ++ later)

-- of each lane something grew by what is the client's
abbrev pub HaveGrown : {X : Type 0} → (Lane → List X) → (ℕ → List X) → List Lane → List Lane → Type 0
HaveGrown f more lanes now =
    EachLane (λ client lane. f lane ≡ f (slice_index_or lanes client lane) ++ more client) now

abbrev pub HaveReceived : List Lane → List LogEntry → List Lane → Type 0
HaveReceived lanes entries now = HaveGrown received_by (λ client. jobs_in (part_of client entries)) lanes now

abbrev pub HaveAnswered : List Lane → List LogEntry → List Lane → Type 0
HaveAnswered lanes entries now = HaveGrown kept_by (λ client. answers_in (part_of client entries)) lanes now

-- no record waits with the client, or no place of its ring is known to be free
abbrev pub HasPushed : Lane → Type 0
HasPushed lane = (late_of lane ≡ []) ⊎ (known_free lane.records ≡ 0)

abbrev pub HavePushed : List Lane → Type 0
HavePushed lanes = EachLane (λ _ lane. HasPushed lane) lanes

-- no fewer records were pushed than before
abbrev pub HasSentMore : Lane → Lane → Type 0
HasSentMore lane now = length (sent lane.records) ≤ length (sent now.records)

abbrev pub HaveSentMore : List Lane → List Lane → Type 0
HaveSentMore lanes now = EachLane (λ client lane. HasSentMore (slice_index_or lanes client lane) lane) now

-- there is room for the records of the jobs that were fetched, beside those that wait
abbrev pub HasRoom : Lane → Type 0
HasRoom lane = deque_len lane.late + lane.fetched ≤ deque_capacity lane.late

abbrev pub HaveRoom : List Lane → Type 0
HaveRoom lanes = EachLane (λ _ lane. HasRoom lane) lanes
