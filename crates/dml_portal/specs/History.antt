-- What became of an image since a portal was opened over it: rounds, and what was written and brought between them.
use Rattle.std.specs.Prelude.{◌≡◌, ℕ, List, [], ◌∷◌, ◌++◌, flat_map}
use Rattle.dml_types.specs.Memory.{Memory, put}
use Rattle.dml_types.specs.Step.{memory_after, records_of}
use Rattle.dml_image.specs.Brought.{brought}
use Rattle.dml_portal.specs.Types.{LogEntry}
use Rattle.dml_portal.specs.Log.{answers_in, jobs_in}

-- entries that were served, bytes that were written from an address on, and a page that was brought with these bytes
pub data Event : Type 0 where
  Served : (entries : List LogEntry) → Event
  Written : (addr : ℕ) (bytes : List ℕ) → Event
  Brought : (page : ℕ) (bytes : List ℕ) → Event

-- the image behind an event, and behind all of a list
abbrev pub image_behind : ℕ → Memory → Event → Memory
image_behind staging image (Served entries) = memory_after image (jobs_in entries) staging
image_behind staging image (Written addr bytes) = put image addr bytes
image_behind staging image (Brought page bytes) = brought image page bytes

abbrev pub image_through : ℕ → Memory → List Event → Memory
image_through staging image [] = image
image_through staging image (event ∷ events) = image_through staging (image_behind staging image event) events

-- the entries that were served
abbrev pub entries_of : Event → List LogEntry
entries_of (Served entries) = entries
entries_of (Written addr bytes) = []
entries_of (Brought page bytes) = []

abbrev pub all_entries : List Event → List LogEntry
all_entries events = flat_map entries_of events

-- the records of an event's entries are those of the fold of their jobs from the image that it found
abbrev pub IsAnsweredFrom : ℕ → Memory → Event → Type 0
IsAnsweredFrom staging image event =
    answers_in (entries_of event) ≡ records_of image (jobs_in (entries_of event)) staging

abbrev pub AreAnsweredFrom : ℕ → Memory → List Event → Type 0
AreAnsweredFrom staging image [] = Unit {0}
AreAnsweredFrom staging image (event ∷ events) =
    IsAnsweredFrom staging image event × AreAnsweredFrom staging (image_behind staging image event) events

-- such events lead from one image to another, and the log has the entries that they served, in order
pub record HasHistory
    (staging : ℕ) (start : Memory) (events : List Event) (image : Memory) (log : List LogEntry) : Type 0 where
  pub image_is : image ≡ image_through staging start events
  pub log_is : log ≡ all_entries events
  pub answers : AreAnsweredFrom staging start events

-- before the first event
abbrev pub Begins : Type 0
Begins = (staging : ℕ) (start : Memory) → HasHistory staging start [] start []

-- one event more: what a round, a write and a page that is brought each leave
abbrev pub GoesOn : Type 0
GoesOn =
    (staging : ℕ) (start : Memory) (events : List Event) (event : Event) (image now : Memory)
    (log later : List LogEntry)
    → HasHistory staging start events image log → now ≡ image_behind staging image event
    → later ≡ log ++ entries_of event → IsAnsweredFrom staging image event
    → HasHistory staging start (events ++ event ∷ []) now later

-- where every event is a round, image and answers are the fold over the whole log
abbrev pub RoundsAreOneFold : Type 0
RoundsAreOneFold =
    (staging : ℕ) (start : Memory) (rounds : List (List LogEntry)) (image : Memory) (log : List LogEntry)
    → HasHistory staging start (flat_map (λ entries. Served entries ∷ []) rounds) image log
    → (image ≡ memory_after start (jobs_in log) staging) × (answers_in log ≡ records_of start (jobs_in log) staging)
