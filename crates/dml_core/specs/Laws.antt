-- What holds of every list of steps, by any number of clients and workers.
use Rattle.std.specs.Prelude.{◌≡◌, ◌<◌, ℕ, ◌+◌, Bool, true, false, ◌&&◌, List, [], ◌∷◌, ◌++◌, Option, Some, filter, filter_map, find, length, map, if◌then◌else◌, is_some, nat_eq, option_map, slice_get}
use Rattle.dml_types.specs.Limits.{IsValid}
use Rattle.dml_types.specs.Memory.{Memory, IsMemory, IsWhole}
use Rattle.dml_types.specs.Step.{step, memory_after, records_of}
use Rattle.dml_order.specs.Order.{is_in}
use Rattle.dml_core.specs.Types.{Job, Settings, Record, Fetched, Task, Step, Submit, Commit}
use Rattle.dml_core.specs.Plan.{entry_at, is_refused, jobs_of, chunk_tasks}
use Rattle.dml_core.specs.World.{Value, task_value, kept_task, World, new_world, sent_by, part_of, wave_at, wave_tasks, is_allowed, after, run, Reaches}

-- those of the fetched jobs that are committed, in fetch order
abbrev pub committed : List Fetched → List Fetched
committed fetched = filter (λ entry. is_some entry.answer) fetched

abbrev pub held : List (Option Task) → List Task
held hands = filter_map (λ hand. hand) hands

abbrev pub how_many : (Task → Bool) → List Task → ℕ
how_many test tasks = length (filter test tasks)

-- The settings stay, there are as many clients as at first and a hand for each worker, and an image that keeps
-- what every image keeps goes on keeping it. The image is the fold of the committed jobs; each answer is the one
-- that the fold of the whole fetched list gives at its place; what was fetched of a client is the front of what
-- it sent; each task of the first wave stands once among those that are to do, in hand and finished, whatever it
-- is looked for by; and the value kept with a finished task is its value on the image as it stands.
pub record Keeps (start : Memory) (given : Settings) (clients : ℕ) (w : World) : Type 0 where
  pub settings : w.settings ≡ given
  pub as_many_clients : length w.sent ≡ clients
  pub as_many_hands : length w.hands ≡ given.workers
  pub memory : IsMemory start → IsMemory w.image
  pub image : w.image ≡ memory_after start (jobs_of (committed w.fetched)) given.staging
  pub answers :
      (i : ℕ) (answer : Record) → (entry_at w.fetched i).answer ≡ Some answer
      → slice_get (records_of start (jobs_of w.fetched) given.staging) i ≡ Some answer
  pub parts :
      (client : ℕ) → (rest : List Job) × (sent_by w client ≡ jobs_of (part_of client w.fetched) ++ rest)
  pub tasks :
      (test : Task → Bool)
      → how_many test (wave_tasks w)
      ≡ how_many test w.to_do + how_many test (held w.hands)
      + how_many test (map (λ kept. kept.task) w.finished)
  pub values : w.finished ≡ map (kept_task w.fetched w.image) (map (λ kept. kept.task) w.finished)

-- so it is after every list of steps, and before the first step that is not allowed
abbrev pub CoreKeeps : Type 0
CoreKeeps =
    (start : Memory) (settings : Settings) (clients : ℕ) (steps : List Step) → IsWhole start
    → Keeps start settings clients (run (new_world start settings clients) steps).0

-- a run from where another ended is the run of both lists, and stops at the place that is counted on
abbrev pub RunsGoOn : Type 0
RunsGoOn =
    (w middle : World) (first second : List Step) → Reaches w first middle
    → run w (first ++ second)
    ≡ ((run middle second).0, option_map (λ i. length first + i) (run middle second).1)

-- what a client submits in a list of steps
abbrev pub submitted : ℕ → List Step → List Job
submitted client [] = []
submitted client (Submit sender job ∷ steps) =
    if nat_eq sender client then job ∷ submitted client steps else submitted client steps
submitted client (s ∷ steps) = submitted client steps

-- and that is all that it sent
abbrev pub SentIsSubmitted : Type 0
SentIsSubmitted =
    (start : Memory) (settings : Settings) (clients : ℕ) (steps : List Step) (end : World)
    → Reaches (new_world start settings clients) steps end
    → (client : ℕ) → sent_by end client ≡ submitted client steps

abbrev pub is_commit : Step → Bool
is_commit Commit = true
is_commit s = false

abbrev pub OnlyCommitWrites : Type 0
OnlyCommitWrites = (w : World) (s : Step) → is_commit s ≡ false → (after w s).image ≡ w.image

-- the values kept with the tasks of the job at a place, upwards
abbrev pub is_task : Task → Task → Bool
is_task task other = nat_eq task.place other.place && (nat_eq task.from other.from && nat_eq task.to other.to)

abbrev pub kept_value : World → Task → Option Value
kept_value w task = option_map (λ kept. kept.value) (find (λ kept. is_task task kept.task) w.finished)

abbrev pub job_tasks : World → ℕ → List Task
job_tasks w i = chunk_tasks (jobs_of w.fetched) w.settings.staging w.settings.chunk i

abbrev pub kept_values : World → ℕ → List (Option Value)
kept_values w i = map (kept_value w) (job_tasks w i)

-- at a commit there is one for each chunk of each job of the wave: its value on the image
abbrev pub EachHasItsValues : Type 0
EachHasItsValues =
    (start : Memory) (given : Settings) (clients : ℕ) (w : World) → Keeps start given clients w
    → is_allowed w Commit ≡ true → (i : ℕ) → is_in i (wave_at w 0) ≡ true
    → kept_values w i ≡ map (λ task. Some (task_value w.fetched w.image task)) (job_tasks w i)

-- a way to join a job's values that gives its step, where they are those of all its chunks on an image
abbrev pub JoinsToStep : (Memory → Job → List Value → Memory × Record) → Type 0
JoinsToStep join =
    (memory : Memory) (settings : Settings) (fetched : List Fetched) (i : ℕ) → IsMemory memory
    → IsValid settings → is_refused (jobs_of fetched) settings.staging i ≡ false
    → 0 < length (chunk_tasks (jobs_of fetched) settings.staging settings.chunk i)
    → join memory (entry_at fetched i).job
    (map (task_value fetched memory) (chunk_tasks (jobs_of fetched) settings.staging settings.chunk i))
    ≡ step memory (entry_at fetched i).job settings.staging

-- so the kept values of the job at a place that has tasks, joined in any such way, are its step
abbrev pub JoinToStep : World → ℕ → Type 0
JoinToStep w i =
    (join : Memory → Job → List Value → Memory × Record) → JoinsToStep join → 0 < length (job_tasks w i)
    → join w.image (entry_at w.fetched i).job (filter_map (λ kept. kept) (kept_values w i))
    ≡ step w.image (entry_at w.fetched i).job w.settings.staging

-- at a commit, for each job of the wave that is not refused
abbrev pub KeptJoinToStep : Type 0
KeptJoinToStep =
    (start : Memory) (given : Settings) (clients : ℕ) (w : World) → Keeps start given clients w → IsMemory start
    → IsValid given → is_allowed w Commit ≡ true → (i : ℕ) → is_in i (wave_at w 0) ≡ true
    → is_refused (jobs_of w.fetched) given.staging i ≡ false → JoinToStep w i
