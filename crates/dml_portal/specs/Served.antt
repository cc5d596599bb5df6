-- What rounds fetch and leave.
use Rattle.std.specs.Prelude.{◌≡◌, ℕ, ◌<◌, ◌≤◌, List, [], ◌∷◌, filter, length, map, nat_eq}
use Rattle.std.specs.List.{All}
use Rattle.dml_types.specs.Memory.{Memory}
use Rattle.dml_core.specs.Rounds.{HasRun, IsRound, Sent, all_sent, round_steps, rounds_steps}
use Rattle.dml_portal.specs.Types.{LogEntry, Settings}
use Rattle.dml_portal.specs.Log.{fetched_for, sent_for}

-- clients in order of their numbers, from `low` on and below `clients`
abbrev pub AreInOrder : ℕ → ℕ → List Sent → Type 0
AreInOrder clients low [] = Unit {0}
AreInOrder clients low (sent ∷ list) =
    (low ≤ sent.client) × (sent.client < clients) × AreInOrder clients sent.client list

-- what one round fetches: clients in order of their numbers, and at most so many jobs of each
pub record IsFetchedUpTo (number clients : ℕ) (list : List Sent) : Type 0 where
  pub order : AreInOrder clients 0 list
  pub few : (client : ℕ) → length (filter (λ sent. nat_eq sent.client client) list) ≤ number

-- at most 128 jobs of each
abbrev pub IsFetched : ℕ → List Sent → Type 0
IsFetched clients list = IsFetchedUpTo 128 clients list

-- the steps of one round lead from a new world over the image before to the image after, with these entries
-- fetched and answered
abbrev pub RoundHasServed : Settings → ℕ → Memory → Memory → List LogEntry → Type 0
RoundHasServed settings clients before after entries =
    HasRun settings clients before after (round_steps settings [] (map sent_for entries)) (map fetched_for entries)

-- the steps of some rounds do, one after another: each is what a round fetches, and together they are these entries
pub record RoundsHaveServed (settings : Settings) (clients : ℕ) (before after : Memory) (entries : List LogEntry)
    : Type 0 where
  pub rounds : List (List Sent)
  pub each : All (IsRound clients) rounds
  pub fetched : All (IsFetched clients) rounds
  pub sent : all_sent rounds ≡ map sent_for entries
  pub run : HasRun settings clients before after (rounds_steps settings [] rounds) (map fetched_for entries)
