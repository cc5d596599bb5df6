-- The tasks of one more job behind those of a wave.
use Rattle.std.proofs.Common.{◌≡◌, ℕ, ◌+◌, ◌<◌, ◌≤◌, List, [], ◌∷◌, ◌++◌, length, take, drop, get_or, All, refl, ap, sym, ◌∙◌, subst, arith, append_assoc, length-append, add-one, drop-cons}
use Rattle.std.proofs.lemmas.List.{append-nil, take_more}
use Rattle.std.proofs.lemmas.List.Elements.{All-append}
use Rattle.std.proofs.lemmas.List.Sums.{sum_by-cons, sum_by_push, sum_by-take-le}
use Rattle.dml_types.specs.declared.jobs.Job.{Job}
use Rattle.dml_types.specs.Refusal.{need}
use Rattle.dml_levels.specs.Tasks.{task_count}
use Rattle.dml_levels.specs.Waves.{job_at, needs_of, tasks_of}
use Rattle.dml_pool.specs.declared.tasks.Task.{Task}
use Rattle.dml_pool.specs.Tasks.{IsRunnable}
use Rattle.dml_wave.specs.Tasks.{AreWaveTasks, AreJobTasks, AddsTasks}

pub tasks_pushed : (jobs : List Job) (chunk : ℕ) (places : List ℕ) (i : ℕ) (tasks mine : List Task) → AreWaveTasks jobs chunk places tasks
    → length mine ≡ task_count (job_at jobs i) chunk → AreJobTasks (job_at jobs i) chunk mine
    → AreWaveTasks jobs chunk (places ++ i ∷ []) (tasks ++ mine)
tasks_pushed jobs chunk [] i tasks mine none count chunks =
    (mine, [], ap (λ (list : List Task). list ++ mine) none ∙ sym (append-nil mine), count, chunks, refl)
tasks_pushed jobs chunk (k ∷ places) i tasks mine are count chunks = (
  are.0,
  are.1 ++ mine,
  ap (λ (list : List Task). list ++ mine) are.2 ∙ append_assoc are.0 are.1 mine,
  are.3,
  are.4,
  tasks_pushed jobs chunk places i are.1 mine are.5 count chunks,
)

pub tasks_added : (jobs : List Job) (chunk : ℕ) (wave : List ℕ) (i : ℕ) (old new : List Task) → i < length wave
    → AreWaveTasks jobs chunk (take i wave) old → AddsTasks (job_at jobs (get_or wave i 0)) chunk old new
    → AreWaveTasks jobs chunk (take (i + 1) wave) new
tasks_added jobs chunk wave i old new below are adds =
    let places = take_more wave i 0 below in
    subst (λ (front : List ℕ). AreWaveTasks jobs chunk front new) (sym places)
    (subst (λ (list : List Task). AreWaveTasks jobs chunk (take i wave ++ get_or wave i 0 ∷ []) list) (sym adds.list)
    (tasks_pushed jobs chunk (take i wave) (get_or wave i 0) old adds.mine are adds.count adds.tasks))

pub all_added : (job : Job) (chunk : ℕ) (old new : List Task) → All IsRunnable old → AddsTasks job chunk old new → All IsRunnable new
all_added job chunk old new runnable adds =
    subst (λ (list : List Task). All IsRunnable list) (sym adds.list) (All-append IsRunnable old adds.mine runnable adds.runnable)

pub count_added : (job : Job) (chunk : ℕ) (old new : List Task) → AddsTasks job chunk old new → length new ≡ length old + task_count job chunk
count_added job chunk old new adds = omega (arith, ap length adds.list, length-append old adds.mine, adds.count)

-- the chunks of the first places of a wave, and the needs of the others
pub tasks_more : (jobs : List Job) (chunk : ℕ) (wave : List ℕ) (i : ℕ) → i < length wave
    → tasks_of jobs chunk (take (i + 1) wave) ≡ tasks_of jobs chunk (take i wave) + task_count (job_at jobs (get_or wave i 0)) chunk
tasks_more jobs chunk wave i below =
    ap (tasks_of jobs chunk) (take_more wave i 0 below)
    ∙ sum_by_push (λ k. task_count (job_at jobs k) chunk) (take i wave) (get_or wave i 0)

pub tasks_within : (jobs : List Job) (chunk : ℕ) (wave : List ℕ) (i : ℕ) → tasks_of jobs chunk (take i wave) ≤ tasks_of jobs chunk wave
tasks_within jobs chunk wave i = sum_by-take-le (λ k. task_count (job_at jobs k) chunk) wave i

pub needs_less : (jobs : List Job) (wave : List ℕ) (i : ℕ) → i < length wave
    → needs_of jobs (drop i wave) ≡ need (job_at jobs (get_or wave i 0)) + needs_of jobs (drop (i + 1) wave)
needs_less jobs wave i below =
    let rest : drop i wave ≡ get_or wave i 0 ∷ drop (i + 1) wave = rw (add-one, drop-cons wave i 0) in
    ap (needs_of jobs) rest ∙ sum_by-cons (λ k. need (job_at jobs k)) (get_or wave i 0) (drop (i + 1) wave)
