use Rattle.std.proofs.Common.{ℕ, List, map, ap, sym, ◌∙◌, arith}
use Rattle.std.specs.Prelude.{slice_index}
use Rattle.dml_types.specs.declared.jobs.Job.{Job}
use Rattle.dml_types.specs.Conflict.{fenced_clash, fenced_levels}
use Rattle.dml_levels.specs.Laws.{unless_refused}
use Rattle.dml_levels.specs.Waves.{job_at, waves}
use Rattle.dml_core.specs.Plan.{jobs_of}
use Rattle.dml_core.proofs.FewWaves.{few_planned}
use Rattle.dml_core.proofs.PlanFacts.{accepted_inside, few_jobs, plan_inside, plan_made, waves_inside}
use Rattle.dml_core.proofs.planning.plan.Goals as goal

pub checked_jobs-requires : goal.checked_jobs-requires
checked_jobs-requires c = record {
  inside = accepted_inside c.args.fetched.now c.args.places.now c.as_slice.result.now c.args.settings.now.staging
      c.requires.all_open (c.as_slice.ensures.value ∙ c.in_ok-accepted.ensures);
}

pub levels-requires : goal.levels-requires
levels-requires c =
    let few = few_jobs c.args.fetched.now c.args.places.now c.as_slice.result.now c.as_slice-2.result.now c.args.settings.now.staging
    c.requires.all_open (c.as_slice.ensures.value ∙ c.in_ok-accepted.ensures)
    (c.as_slice-2.ensures.value ∙ c.in_ok-jobs.ensures.jobs) c.requires.few in
    omega (arith, few)

pub waves-requires-clause-few : goal.waves-requires-clause-few
waves-requires-clause-few c =
    let few = few_jobs c.args.fetched.now c.args.places.now c.as_slice.result.now c.as_slice-3.result.now c.args.settings.now.staging
    c.requires.all_open (c.as_slice.ensures.value ∙ c.in_ok-accepted.ensures)
    (c.as_slice-3.ensures.value ∙ c.in_ok-jobs.ensures.jobs) c.requires.few in
    omega (arith, few)

pub to_places-requires : goal.to_places-requires
to_places-requires c = record {
  inside = waves_inside c.as_slice-3.result.now c.as_slice.result.now c.as_slice-5.result.now c.as_slice-6.result.now c.in_ok-waves.waves.items
      (λ i. unless_refused c.args.settings.now.staging (job_at (jobs_of c.args.fetched.now) i))
      (fenced_clash c.as_slice-3.result.now)
      (c.as_slice-3.ensures.value ∙ c.in_ok-jobs.ensures.jobs)
      (c.as_slice-5.ensures.value ∙ sym c.as_slice.ensures.value)
      c.as_slice-6.ensures.value c.in_ok-waves.ensures.each_once;
}

pub returns-clause-waves : goal.returns-clause-waves
returns-clause-waves c =
    let fetched = c.args.fetched.now in
    let staging = c.args.settings.now.staging in
    let chunk = c.args.settings.now.chunk in
    let jobs = c.in_ok-jobs.jobs.items in
    let list = c.in_ok-levels.levels.items in
    plan_made fetched staging chunk c.args.places.now c.in_ok-accepted.accepted.items jobs list c.in_ok-waves.waves.items c.in_ok-plan.plan.items c.in_ok-with_refused.field-0.items
    c.requires.all_open
    c.in_ok-accepted.ensures
    (c.in_ok-jobs.ensures.jobs ∙ ap (map (λ i. unless_refused staging (job_at (jobs_of fetched) i))) c.as_slice.ensures.value)
    (c.in_ok-levels.ensures ∙ ap fenced_levels c.as_slice-2.ensures.value)
    (c.in_ok-waves.ensures.cut
    ∙ (ap (λ (own : List Job). waves own c.as_slice-4.result.now staging chunk) c.as_slice-3.ensures.value
    ∙ ap (λ (own : List ℕ). waves jobs own staging chunk) c.as_slice-4.ensures.value))
    (c.in_ok-plan.ensures
    ∙ (ap (λ (own : List ℕ). map (map (slice_index own)) c.as_slice-6.result.now) c.as_slice-5.ensures.value
    ∙ ap (map (map (slice_index c.in_ok-accepted.accepted.items))) c.as_slice-6.ensures.value))
    c.in_ok-with_refused.ensures

pub returns-clause-inside : goal.returns-clause-inside
returns-clause-inside c =
    plan_inside c.args.fetched.now c.args.settings.now.staging c.args.settings.now.chunk c.in_ok-with_refused.field-0.items (returns-clause-waves c)

pub returns-clause-few_waves : goal.returns-clause-few_waves
returns-clause-few_waves c =
    few_planned c.args.fetched.now c.args.settings.now.staging c.args.settings.now.chunk c.in_ok-with_refused.field-0.items (returns-clause-waves c) c.requires.few
