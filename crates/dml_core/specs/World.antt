-- The world, its five steps, and the run of a list of steps.
use Rattle.std.specs.Prelude.{◌≡◌, ℕ, ◌+◌, Bool, not, ◌&&◌, List, [], ◌∷◌, ◌++◌, Option, None, Some, drop, filter, length, replicate, is_none, is_some, if◌then◌else◌, nat_eq, nat_lt, option_map, unwrap_or, slice_get, slice_index_or, slice_set}
use Rattle.std.specs.List.{list_all}
use Rattle.dml_types.specs.declared.findings.Found.{Found}
use Rattle.dml_types.specs.Chunk.{scan_found, scan_staged, create_fault, create_staged, apply_bad, apply_first, apply_last, apply_staged}
use Rattle.dml_types.specs.Effect.{Fault}
use Rattle.dml_types.specs.Memory.{Memory}
use Rattle.dml_types.specs.Step.{step}
use Rattle.dml_desc.specs.Checked.{operation_of}
use Rattle.dml_order.specs.Order.{run_all}
use Rattle.dml_core.specs.Types.{Job, Settings, Op, NoOp, CreateDelta, ApplyDelta, Fetched, Task, Step, Submit, Fetch, Take, Finish, Commit}
use Rattle.dml_core.specs.Plan.{no_entry, entry_at, jobs_of, open_places, plan_of, tasks_of}

-- what one chunk of a job gives on an image: of a scan, a create and an apply. A no-op has no chunk
pub data Value : Type 0 where
  Nothing : Value
  Scanned : (found : Found) (staged : List ℕ) → Value
  Created : (fault : Option (ℕ × ℕ)) (staged : List ℕ) → Value
  Applied : (bad : Option (ℕ × Fault)) (first last : Option ℕ) (staged : List ℕ) → Value

abbrev pub operation_value : Op → Memory → Job → ℕ → ℕ → Value
operation_value NoOp memory job from to = Nothing
operation_value CreateDelta memory job from to =
    Created (create_fault memory job from to) (create_staged memory job from to)
operation_value ApplyDelta memory job from to =
    Applied (apply_bad memory job from to) (apply_first memory job from to) (apply_last memory job from to)
    (apply_staged memory job from to)
operation_value op memory job from to =
    Scanned (scan_found op memory job from to) (scan_staged op memory job from to)

abbrev pub task_value : List Fetched → Memory → Task → Value
task_value fetched memory task =
    let job = (entry_at fetched task.place).job in operation_value (operation_of job) memory job task.from task.to

-- a finished task, with its value on the image as it stood when it was finished
pub record Kept : Type 0 where
  pub task : Task
  pub value : Value

abbrev pub kept_task : List Fetched → Memory → Task → Kept
kept_task fetched memory task = record { task = task; value = task_value fetched memory task }

-- the waves that are not committed are lists of places in the fetched list; of the first of them the tasks
-- that are to do, that are in each worker's hand, and that are finished
pub record World : Type 0 where
  pub settings : Settings
  pub image : Memory
  pub sent : List (List Job)
  pub fetched : List Fetched
  pub waves : List (List ℕ)
  pub to_do : List Task
  pub hands : List (Option Task)
  pub finished : List Kept

abbrev pub new_world : Memory → Settings → ℕ → World
new_world image settings clients =
    record {
      settings = settings;
      image = image;
      sent = replicate clients [];
      fetched = [];
      waves = [];
      to_do = [];
      hands = replicate settings.workers None;
      finished = [];
    }

-- what a client sent, and the part of the fetched list that is the client's
abbrev pub sent_by : World → ℕ → List Job
sent_by w client = slice_index_or w.sent client []

abbrev pub part_of : ℕ → List Fetched → List Fetched
part_of client fetched = filter (λ entry. nat_eq entry.client client) fetched

-- the client's next job to be fetched
abbrev pub next_job : World → ℕ → Option Job
next_job w client = slice_get (sent_by w client) (length (part_of client w.fetched))

abbrev pub in_hand : World → ℕ → Option Task
in_hand w worker = slice_index_or w.hands worker None

abbrev pub no_hand : World → Bool
no_hand w = list_all is_none w.hands

abbrev pub is_empty : {X : Type 0} → List X → Bool
is_empty list = nat_eq (length list) 0

abbrev pub is_allowed : World → Step → Bool
is_allowed w (Submit client job) = nat_lt client (length w.sent)
is_allowed w (Fetch client) =
    is_some (next_job w client) && no_hand w && is_empty w.finished
    && nat_lt (length (open_places w.fetched)) 1024
is_allowed w (Take worker) =
    nat_lt worker (length w.hands) && is_none (in_hand w worker) && not (is_empty w.to_do)
is_allowed w (Finish worker) = is_some (in_hand w worker)
is_allowed w Commit = not (is_empty w.waves) && is_empty w.to_do && no_hand w

-- the image, and the fetched list with its answers
pub record Progress : Type 0 where
  pub image : Memory
  pub fetched : List Fetched

abbrev pub progress : Memory → List Fetched → Progress
progress image fetched = record { image = image; fetched = fetched }

abbrev pub world_progress : World → Progress
world_progress w = progress w.image w.fetched

-- the job at a place carried out, with its answer set
abbrev pub carry_out : ℕ → Progress → ℕ → Progress
carry_out staging now i =
    let entry = entry_at now.fetched i in
    let done = step now.image entry.job staging in
    record { image = done.0; fetched = slice_set now.fetched i (record entry { answer = Some done.1 }) }

abbrev pub wave_at : World → ℕ → List ℕ
wave_at w i = slice_index_or w.waves i []

-- the tasks of the first wave
abbrev pub wave_tasks : World → List Task
wave_tasks w = tasks_of (jobs_of w.fetched) w.settings.staging w.settings.chunk (wave_at w 0)

-- all of them are to do
abbrev pub set_out : World → World
set_out w = record w { to_do = wave_tasks w }

abbrev pub new_entry : ℕ → Option Job → Fetched
new_entry client next = record { client = client; job = unwrap_or next no_entry.job; answer = None }

abbrev pub kept_now : World → Option Task → List Kept
kept_now w None = []
kept_now w (Some task) = kept_task w.fetched w.image task ∷ []

abbrev pub after : World → Step → World
after w (Submit client job) = record w { sent = slice_set w.sent client (sent_by w client ++ job ∷ []) }
after w (Fetch client) =
    let fetched = w.fetched ++ new_entry client (next_job w client) ∷ [] in
    set_out (record w { fetched = fetched; waves = plan_of fetched w.settings.staging w.settings.chunk })
after w (Take worker) =
    record w { to_do = drop 1 w.to_do; hands = slice_set w.hands worker (slice_get w.to_do 0) }
after w (Finish worker) =
    record w { hands = slice_set w.hands worker None; finished = w.finished ++ kept_now w (in_hand w worker) }
after w Commit =
    let done = run_all (carry_out w.settings.staging) (world_progress w) (wave_at w 0) in
    set_out (record w { image = done.image; fetched = done.fetched; waves = drop 1 w.waves; finished = [] })

-- the world after the steps, and no place; or the world before the first step that is not allowed, with its
-- place
abbrev pub run : World → List Step → World × Option ℕ
run w [] = (w, None)
run w (s ∷ steps) =
    if is_allowed w s then (let rest = run (after w s) steps in (rest.0, option_map (λ i. i + 1) rest.1))
    else (w, Some 0)

abbrev pub Reaches : World → List Step → World → Type 0
Reaches w steps end = run w steps ≡ (end, None)
