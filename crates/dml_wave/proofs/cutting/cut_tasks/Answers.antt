use Rattle.std.proofs.Common.{◌≡◌, ℕ, ◌+◌, ◌<◌, List, length, get_or, All, arith, ap, subst, sym, ◌∙◌}
use Rattle.std.proofs.lemmas.List.{get_or_default}
use Rattle.std.proofs.lemmas.List.Elements.{All-get_or}
use Rattle.dml_types.specs.declared.jobs.Job.{Job}
use Rattle.dml_types.specs.Job.{no_op_job}
use Rattle.dml_types.specs.Refusal.{need}
use Rattle.dml_levels.specs.Tasks.{task_count}
use Rattle.dml_levels.specs.Waves.{job_at}
use Rattle.dml_wave.specs.Tasks.{AddsTasks}
use Rattle.dml_wave.proofs.Lists.{tasks_added, all_added, count_added, tasks_more, tasks_within, needs_less}
use Rattle.dml_wave.proofs.cutting.cut_tasks.Goals as goal

-- the job that is read is the one at the place
read : (jobs : List Job) (wave : List ℕ) (i : ℕ) (job : Job) → All (λ (k : ℕ). k < length jobs) wave → i < length wave
    → job ≡ get_or jobs (get_or wave i 0) job → job ≡ job_at jobs (get_or wave i 0)
read jobs wave i job places below is =
    is ∙ get_or_default jobs (get_or wave i 0) job no_op_job (All-get_or (λ (k : ℕ). k < length jobs) wave i 0 below places)

pub cut_job-rest-requires-clause-fits : goal.cut_job-rest-requires-clause-fits
cut_job-rest-requires-clause-fits c =
    let jobs = c.args.jobs.now in
    let wave = c.args.wave.now in
    let i = c.loop-place.place-index in
    let at = read jobs wave i c.index-jobs-place.result c.requires.places c.loop-place-test.true c.index-jobs-place.is in
    omega (arith, needs_less jobs wave i c.loop-place-test.true, c.loop-place.invariant.fits, ap need at)

pub cut_job-rest-requires-clause-reserved : goal.cut_job-rest-requires-clause-reserved
cut_job-rest-requires-clause-reserved c =
    let jobs = c.args.jobs.now in
    let wave = c.args.wave.now in
    let i = c.loop-place.place-index in
    let at = read jobs wave i c.index-jobs-place.result c.requires.places c.loop-place-test.true c.index-jobs-place.is in
    let count = ap (λ (job : Job). task_count job c.args.chunk) at in
    let more = tasks_more jobs c.args.chunk wave i c.loop-place-test.true in
    let within = tasks_within jobs c.args.chunk wave (i + 1) in
    omega (arith, count, more, within, c.loop-place.invariant.count, c.loop-place.invariant.capacity)

pub loop-place-preserved : goal.loop-place-preserved
loop-place-preserved c =
    let jobs = c.args.jobs.now in
    let wave = c.args.wave.now in
    let chunk = c.args.chunk in
    let i = c.loop-place.place-index in
    let old = c.loop-place.queue.tasks in
    let new = c.cut_job-rest.new.queue.tasks in
    let at = read jobs wave i c.index-jobs-place.result c.requires.places c.loop-place-test.true c.index-jobs-place.is in
    let adds = subst (λ (job : Job). AddsTasks job chunk old new) at c.cut_job-rest.ensures.tasks in record {
      tasks = tasks_added jobs chunk wave i old new c.loop-place-test.true c.loop-place.invariant.tasks adds;
      runnable = all_added _ chunk old new c.loop-place.invariant.runnable adds;
      count =
          count_added _ chunk old new adds
          ∙ (ap (λ (n : ℕ). n + task_count (job_at jobs (get_or wave i 0)) chunk) c.loop-place.invariant.count
          ∙ sym (tasks_more jobs chunk wave i c.loop-place-test.true));
      empty = c.cut_job-rest.ensures.rest.0;
      fits =
          omega
          (arith, c.cut_job-rest.ensures.rest.1, needs_less jobs wave i c.loop-place-test.true, c.loop-place.invariant.fits, ap need at);
      capacity = c.cut_job-rest.ensures.capacity ∙ c.loop-place.invariant.capacity;
    }
