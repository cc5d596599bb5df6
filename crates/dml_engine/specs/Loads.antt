-- How much work jobs are, and how many workers they pay for.
use Rattle.std.specs.Prelude.{ℕ, ◌+◌, ◌-◌, ◌*◌, ◌/◌, ◌^◌, max, min, Bool, true, List, [], ◌∷◌, Option, Some, length, map, nat_eq, nat_le, nat_lt, if◌then◌else◌}
use Rattle.std.specs.List.{fold, range_with_len, sum_by}
use Rattle.dml_types.specs.Job.{op_of}
use Rattle.dml_types.specs.declared.jobs.Job.{Job}
use Rattle.dml_types.specs.declared.operations.Op.{Op}
use Rattle.dml_types.specs.declared.operations.Op.TheVariants.{Move, Fill, Compare, ComparePattern, CreateDelta, ApplyDelta, Dualcast}
use Rattle.dml_desc.specs.Checked.{operation_of}
use Rattle.dml_order.specs.Waves.{depth}
use Rattle.dml_levels.specs.Tasks.{task_count}
use Rattle.dml_engine.specs.declared.loads.Load.{Load}
use Rattle.dml_engine.specs.declared.opening.Fences.{Fences}
use Rattle.dml_engine.specs.Lists.{opened}
use Rattle.dml_engine.specs.State.{State}

-- the bytes of a job that workers share: they are faster by compares and creates alone, each of so many tasks
-- costs as much as 2 KiB of them, and for the job itself as much is taken off as for 8 tasks
abbrev pub shared_by : Op → Job → ℕ → ℕ
shared_by Compare job tasks = job.size - 2048 * (tasks + 8)
shared_by ComparePattern job tasks = job.size - 2048 * (tasks + 8)
shared_by CreateDelta job tasks = job.size - 2048 * (tasks + 8)
shared_by _ job tasks = 0

-- the bytes that the calling thread writes alone behind a wave, at most, where one worker writes them at once
abbrev pub staged_by : Op → Job → ℕ
staged_by Move job = job.size
staged_by Fill job = job.size
staged_by ApplyDelta job = job.delta_size
staged_by Dualcast job = 2 * job.size
staged_by _ job = 0

-- sums of 64 bits, which stop at the greatest
abbrev pub capped : ℕ → ℕ
capped n = min n (2 ^ 64 - 1)

abbrev pub no_load : Load
no_load = record { shared = 0; staged = 0 }

abbrev pub with_job : ℕ → Load → Job → Load
with_job chunk load job =
    let op = operation_of job in
    record {
      shared = capped (load.shared + shared_by op job (task_count job chunk));
      staged = capped (load.staged + staged_by op job);
    }

-- the work of jobs, in chunks of so many bytes
abbrev pub load_of : ℕ → List Job → Load
load_of chunk jobs = fold (with_job chunk) no_load jobs

-- a worker for every mebibyte, to the nearest; at least one, and at most so many
abbrev pub workers_for : ℕ → ℕ → ℕ
workers_for most bytes = max 1 (min most ((bytes / 524288 + 1) / 2))

-- how many workers a list is given, of at most so many, where no gate was given
abbrev pub list_workers : ℕ → Load → ℕ
list_workers most load = workers_for most load.shared

-- how many a wave is given; where no gate was given, a byte to be staged costs as much as three shared ones bring
abbrev pub wave_workers : Bool → ℕ → Load → ℕ
wave_workers watched most load =
    if watched then most else workers_for most (load.shared - 3 * load.staged)

-- the bytes that the jobs of one level share
abbrev pub shared_at : ℕ → List Job → List ℕ → ℕ → ℕ
shared_at chunk [] levels level = 0
shared_at chunk (job ∷ jobs) [] level = 0
shared_at chunk (job ∷ jobs) (height ∷ levels) level =
    (if nat_eq height level then (with_job chunk no_load job).shared else 0) + shared_at chunk jobs levels level

-- what a level brings: nothing where its jobs share too few bytes for a second worker
abbrev pub brought : ℕ → ℕ
brought shared = if nat_lt shared 1572864 then 0 else shared

-- what the levels of a list bring, of which there are no more than 1,024
unfoldable pub brought_by_levels : ℕ → List Job → List ℕ → ℕ
brought_by_levels chunk jobs levels =
    capped (sum_by brought (map (λ level. capped (shared_at chunk jobs levels level)) (range_with_len 0 1024)))

-- whether a list that is worth a second worker has levels that are: it has but one, or what they bring is enough for a
-- worker, and makes up for the cut of its waves, counted as a look at every job for every level
abbrev pub levels_pay : ℕ → List Job → List ℕ → Bool
levels_pay chunk jobs levels =
    if nat_le (depth levels) 1
    then true
    else nat_le (max 1572864 (capped (depth levels * (32 * length jobs)))) (brought_by_levels chunk jobs levels)

-- the bytes that a job's workers share at most, whatever a check says of it
abbrev pub shareable_by : Option Op → Job → ℕ
shareable_by (Some Compare) job = job.size - 2048 * 8
shareable_by (Some ComparePattern) job = job.size - 2048 * 8
shareable_by (Some CreateDelta) job = job.size - 2048 * 8
shareable_by _ job = 0

abbrev pub shareable : List Job → ℕ
shareable jobs = sum_by (λ job. shareable_by (op_of job) job) jobs

-- whether a list of jobs, as far as they do anything, is given more than one where no gate was given
abbrev pub is_for_waves : State → Fences → List Job → Bool
is_for_waves engine fences jobs =
    let settings = engine.settings in
    let load = load_of settings.chunk (map (opened fences settings.staging) jobs) in
    nat_lt 1 (list_workers settings.workers load)
