-- Submits and fetches in a row, with one plan behind the last of them: the lists that they make longer, and the
-- world that they leave.
use Rattle.std.specs.Prelude.{◌≡◌, ℕ, ◌+◌, ◌-◌, ◌<◌, ◌≤◌, All, Bool, true, false, ◌&&◌, ◌||◌, IfSome, List, [], ◌∷◌, ◌++◌, Option, filter, length, is_some, if◌then◌else◌, map, nat_lt, slice_get, slice_index, slice_index_or, slice_set, take}
use Rattle.std.specs.List.{range_with_len}
use Rattle.dml_core.specs.Types.{Job, Fetched, Task, Step, Submit, Fetch}
use Rattle.dml_core.specs.Plan.{is_open, open_places, plan_of}
use Rattle.dml_core.specs.World.{World, is_allowed, is_empty, new_entry, no_hand, part_of, set_out}

-- what the clients sent, and what was fetched
pub record Lists : Type 0 where
  pub sent : List (List Job)
  pub fetched : List Fetched

abbrev pub lists : List (List Job) → List Fetched → Lists
lists sent fetched = record { sent = sent; fetched = fetched }

abbrev pub lists_of : World → Lists
lists_of w = lists w.sent w.fetched

-- the client's next job to be fetched
abbrev pub next_of : List (List Job) → List Fetched → ℕ → Option Job
next_of sent fetched client = slice_get (slice_index_or sent client []) (length (part_of client fetched))

-- what a client sent, and a count of these jobs
pub record Counted : Type 0 where
  pub jobs : List Job
  pub count : ℕ

abbrev pub counted : List Job → ℕ → Counted
counted jobs count = record { jobs = jobs; count = count }

-- of each client in turn
abbrev pub jobs_sent : List Counted → List (List Job)
jobs_sent sent = map (λ own. own.jobs) sent

abbrev pub counts_of : List Counted → List ℕ
counts_of sent = map (λ own. own.count) sent

abbrev pub listed : List Counted → List Fetched → Lists
listed sent fetched = lists (jobs_sent sent) fetched

-- of each client that is counted so many jobs were fetched
pub record AreParts (parts : List ℕ) (fetched : List Fetched) : Type 0 where
  pub each : (client : ℕ) → client < length parts → slice_index parts client ≡ length (part_of client fetched)

-- places of the fetched list, of which the open ones are all that are open below a place
pub record HoldOpen (places : List ℕ) (fetched : List Fetched) (below : ℕ) : Type 0 where
  pub inside : All (λ i. i < length fetched) places
  pub open_ones : filter (is_open fetched) places ≡ filter (is_open fetched) (range_with_len 0 below)

abbrev pub is_fetch : Step → Bool
is_fetch (Fetch client) = true
is_fetch s = false

-- the step at a place fetches
abbrev pub FetchesAt : List Step → ℕ → Type 0
FetchesAt steps i = IfSome (slice_get steps i) (λ s. is_fetch s ≡ true)

-- no step from a place on fetches
pub record NoneFetches (steps : List Step) (from : ℕ) : Type 0 where
  pub each : (i : ℕ) → from ≤ i → i < length steps → IfSome (slice_get steps i) (λ s. is_fetch s ≡ false)

-- so many of some steps are those up to their last fetch
pub record EndsWithLastFetch (steps : List Step) (count : ℕ) : Type 0 where
  pub onward : 0 < count
  pub within : count ≤ length steps
  pub last : FetchesAt steps (count - 1)
  pub behind : NoneFetches steps count

abbrev pub is_of_row : Step → Bool
is_of_row (Submit client job) = true
is_of_row (Fetch client) = true
is_of_row s = false

-- a submit of one of so many clients
abbrev pub is_sent : ℕ → Step → Bool
is_sent clients (Submit client job) = nat_lt client clients
is_sent clients s = false

-- the first of some steps fetches, or one that has none but such submits before it
abbrev pub fetch_follows : ℕ → List Step → Bool
fetch_follows clients [] = false
fetch_follows clients (s ∷ steps) = is_fetch s || (is_sent clients s && fetch_follows clients steps)

-- the step behind so many is not allowed
abbrev pub IsRefused : World → List Step → ℕ → Type 0
IsRefused w steps taken = (taken < length steps) × IfSome (slice_get steps taken) (λ s. is_allowed w s ≡ false)

-- how many tasks are in hand
abbrev pub in_hands : List (Option Task) → ℕ
in_hands [] = 0
in_hands (hand ∷ hands) = (if is_some hand then 1 else 0) + in_hands hands

-- no task is in hand or finished
abbrev pub is_idle : World → Bool
is_idle w = no_hand w && is_empty w.finished

abbrev pub may_fetch : List (List Job) → List Fetched → ℕ → Bool
may_fetch sent fetched client = is_some (next_of sent fetched client) && nat_lt (length (open_places fetched)) 1024

-- whether a step makes the lists of an idle world longer
abbrev pub may_join : Lists → Step → Bool
may_join now (Submit client job) = nat_lt client (length now.sent)
may_join now (Fetch client) = may_fetch now.sent now.fetched client
may_join now s = false

-- the lists made longer by a step
abbrev pub more_sent : List (List Job) → ℕ → Job → List (List Job)
more_sent sent client job = slice_set sent client (slice_index_or sent client [] ++ job ∷ [])

abbrev pub more_fetched : List (List Job) → List Fetched → ℕ → List Fetched
more_fetched sent fetched client = fetched ++ new_entry client (next_of sent fetched client) ∷ []

abbrev pub grown : Lists → Step → Lists
grown now (Submit client job) = lists (more_sent now.sent client job) now.fetched
grown now (Fetch client) = lists now.sent (more_fetched now.sent now.fetched client)
grown now s = now

-- and the step taken back
abbrev pub shorter : {X : Type 0} → List X → List X
shorter xs = take (length xs - 1) xs

abbrev pub ungrown : Lists → Step → Lists
ungrown now (Submit client job) =
    lists (slice_set now.sent client (shorter (slice_index_or now.sent client []))) now.fetched
ungrown now (Fetch client) = lists now.sent (shorter now.fetched)
ungrown now s = now

-- the steps make the first lists longer one after another, up to the last
abbrev pub AreGathered : Lists → List Step → Lists → Type 0
AreGathered first [] last = first ≡ last
AreGathered first (s ∷ steps) last = (may_join first s ≡ true) × AreGathered (grown first s) steps last

-- the world with these lists, planned anew if one of the steps was a fetch
abbrev pub with_lists : World → Lists → World
with_lists w now = record w { sent = now.sent; fetched = now.fetched }

abbrev pub planned_anew : World → World
planned_anew w = set_out (record w { waves = plan_of w.fetched w.settings.staging w.settings.chunk })

abbrev pub gathered : World → Lists → Bool → World
gathered w now fetches = if fetches then planned_anew (with_lists w now) else with_lists w now
