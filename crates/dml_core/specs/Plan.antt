-- What is fetched, the waves of the jobs that are not yet committed, and the tasks of a wave.
use Rattle.std.specs.Prelude.{None, ℕ, ◌+◌, ◌*◌, min, Bool, not, ◌||◌, List, [], ◌∷◌, filter, flat_map, length, map, is_none, is_some, if◌then◌else◌, slice_index, slice_index_or}
use Rattle.std.specs.List.{range_with_len}
use Rattle.dml_types.specs.Job.{no_op_job}
use Rattle.dml_types.specs.Refusal.{refusal}
use Rattle.dml_types.specs.Chunk.{chunk_units, units}
use Rattle.dml_types.specs.Conflict.{levels}
use Rattle.dml_desc.specs.Checked.{operation_of}
use Rattle.dml_order.specs.Order.{is_in}
use Rattle.dml_order.specs.Waves.{is_nil}
use Rattle.dml_levels.specs.Tasks.{task_count}
use Rattle.dml_levels.specs.Waves.{job_at, waves}
use Rattle.dml_core.specs.Types.{Job, Op, Fetched, Task}

abbrev pub no_entry : Fetched
no_entry = record { client = 0; job = no_op_job; answer = None }

abbrev pub entry_at : List Fetched → ℕ → Fetched
entry_at fetched i = slice_index_or fetched i no_entry

abbrev pub jobs_of : List Fetched → List Job
jobs_of fetched = map (λ entry. entry.job) fetched

-- the places that have no answer yet: their jobs are not committed
abbrev pub is_open : List Fetched → ℕ → Bool
is_open fetched i = is_none (entry_at fetched i).answer

abbrev pub open_places : List Fetched → List ℕ
open_places fetched = filter (is_open fetched) (range_with_len 0 (length fetched))

abbrev pub is_refused : List Job → ℕ → ℕ → Bool
is_refused jobs staging i = is_some (refusal (job_at jobs i) staging)

abbrev pub accepted_places : List Job → ℕ → List ℕ → List ℕ
accepted_places jobs staging places = filter (λ i. not (is_refused jobs staging i)) places

-- the waves of the jobs at some places, as places of the whole list
abbrev pub accepted_waves : List Job → ℕ → ℕ → List ℕ → List (List ℕ)
accepted_waves jobs staging chunk places =
    let accepted = map (job_at jobs) places in
    map (map (slice_index places)) (waves accepted (levels accepted) staging chunk)

-- the refused ones stand in the first wave too, in list order; where all are refused, they are a wave of
-- their own
abbrev pub first_wave : List Job → ℕ → List ℕ → List ℕ → List ℕ
first_wave jobs staging places wave = filter (λ i. is_refused jobs staging i || is_in i wave) places

abbrev pub with_refused : List Job → ℕ → List ℕ → List (List ℕ) → List (List ℕ)
with_refused jobs staging places [] =
    let refused = first_wave jobs staging places [] in if is_nil refused then [] else refused ∷ []
with_refused jobs staging places (wave ∷ waves) = first_wave jobs staging places wave ∷ waves

abbrev pub planned : List Job → ℕ → ℕ → List ℕ → List (List ℕ)
planned jobs staging chunk places =
    with_refused jobs staging places (accepted_waves jobs staging chunk (accepted_places jobs staging places))

-- the waves of all jobs that are not committed
abbrev pub plan_of : List Fetched → ℕ → ℕ → List (List ℕ)
plan_of fetched staging chunk = planned (jobs_of fetched) staging chunk (open_places fetched)

-- chunk k of the job at a place: of so many units each, up to the last
abbrev pub task_for : ℕ → ℕ → ℕ → ℕ → Task
task_for i size last k = record { place = i; from = k * size; to = min (k * size + size) last }

abbrev pub chunks_of : Op → Job → ℕ → ℕ → List Task
chunks_of op job chunk i =
    map (task_for i (chunk_units op chunk) (units op job)) (range_with_len 0 (task_count job chunk))

-- the tasks of the job at a place: one a chunk, upwards; a refused job has none
abbrev pub chunk_tasks : List Job → ℕ → ℕ → ℕ → List Task
chunk_tasks jobs staging chunk i =
    let job = job_at jobs i in
    if is_refused jobs staging i then [] else chunks_of (operation_of job) job chunk i

abbrev pub tasks_of : List Job → ℕ → ℕ → List ℕ → List Task
tasks_of jobs staging chunk wave = flat_map (chunk_tasks jobs staging chunk) wave
