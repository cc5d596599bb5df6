-- Rounds: jobs that are sent and fetched together, and carried out wave by wave before the next are fetched.
use Rattle.std.specs.Prelude.{◌≡◌, ◌<◌, ◌≤◌, ℕ, All, List, [], ◌∷◌, ◌++◌, Some, flat_map, length, map}
use Rattle.std.specs.List.{range_with_len}
use Rattle.dml_types.specs.Memory.{Memory, IsWhole}
use Rattle.dml_types.specs.Step.{memory_after, records_of}
use Rattle.dml_core.specs.Types.{Job, Settings, Record, Fetched, Task, Step, Submit, Fetch, Take, Finish, Commit}
use Rattle.dml_core.specs.Plan.{planned, tasks_of}
use Rattle.dml_core.specs.World.{World, new_world, Reaches}

-- a job, and the client that sends it
pub record Sent : Type 0 where
  pub client : ℕ
  pub job : Job

abbrev pub sent_jobs : List Sent → List Job
sent_jobs list = map (λ sent. sent.job) list

-- each job is sent and fetched
abbrev pub fetch_steps : List Sent → List Step
fetch_steps [] = []
fetch_steps (sent ∷ list) = Submit sent.client sent.job ∷ Fetch sent.client ∷ fetch_steps list

-- worker 0 takes and finishes each task
abbrev pub work_steps : List Task → List Step
work_steps [] = []
work_steps (task ∷ tasks) = Take 0 ∷ Finish 0 ∷ work_steps tasks

-- for each wave its tasks are done, and it is committed
abbrev pub wave_steps : List Job → ℕ → ℕ → List (List ℕ) → List Step
wave_steps jobs staging chunk [] = []
wave_steps jobs staging chunk (wave ∷ waves) =
    work_steps (tasks_of jobs staging chunk wave) ++ Commit ∷ wave_steps jobs staging chunk waves

-- the steps of a round, behind these jobs of earlier rounds
abbrev pub round_steps : Settings → List Job → List Sent → List Step
round_steps settings earlier list =
    let jobs = earlier ++ sent_jobs list in
    let places = range_with_len (length earlier) (length list) in
    fetch_steps list
    ++ wave_steps jobs settings.staging settings.chunk (planned jobs settings.staging settings.chunk places)

-- those of some rounds, one after another
abbrev pub rounds_steps : Settings → List Job → List (List Sent) → List Step
rounds_steps settings earlier [] = []
rounds_steps settings earlier (list ∷ rounds) =
    round_steps settings earlier list ++ rounds_steps settings (earlier ++ sent_jobs list) rounds

abbrev pub all_sent : List (List Sent) → List Sent
all_sent rounds = flat_map (λ list. list) rounds

-- the fetched list that they leave, with its answers
abbrev pub answered : List Sent → List Record → List Fetched
answered (sent ∷ list) (answer ∷ records) =
    record { client = sent.client; job = sent.job; answer = Some answer } ∷ answered list records
answered list records = []

-- at most 1,024 jobs, of known clients
pub record IsRound (clients : ℕ) (list : List Sent) : Type 0 where
  pub few : length list ≤ 1024
  pub known : All (λ sent. sent.client < clients) list

-- the steps are allowed one after another from a new world, and end with this image and this fetched list
pub record HasRun (settings : Settings) (clients : ℕ) (before after : Memory) (steps : List Step)
    (entries : List Fetched) : Type 0 where
  pub end : World
  pub reaches : Reaches (new_world before settings clients) steps end
  pub image : end.image ≡ after
  pub fetched : end.fetched ≡ entries

-- the steps of any rounds do: image and answers are those of the fold, and each fetched job is committed
abbrev pub RoundsHaveRuns : Type 0
RoundsHaveRuns =
    (settings : Settings) (clients : ℕ) (rounds : List (List Sent)) (image : Memory) → 1 ≤ settings.workers
    → IsWhole image → All (IsRound clients) rounds
    → HasRun settings clients image (memory_after image (sent_jobs (all_sent rounds)) settings.staging)
    (rounds_steps settings [] rounds)
    (answered (all_sent rounds) (records_of image (sent_jobs (all_sent rounds)) settings.staging))

-- of one round
abbrev pub RoundHasRun : Type 0
RoundHasRun =
    (settings : Settings) (clients : ℕ) (list : List Sent) (image : Memory) → 1 ≤ settings.workers
    → IsWhole image → IsRound clients list
    → HasRun settings clients image (memory_after image (sent_jobs list) settings.staging)
    (round_steps settings [] list) (answered list (records_of image (sent_jobs list) settings.staging))
