use Rattle.dml_types.proofs.HomeLemmas.{home_after_step, step_elsewhere, record_elsewhere, home_after_jobs, jobs_elsewhere, records_elsewhere}
use Rattle.dml_types.proofs.laws.law_of_homes.Goals as goal

pub returns-clause-kept : goal.returns-clause-kept
returns-clause-kept c = home_after_step

pub returns-clause-image_elsewhere : goal.returns-clause-image_elsewhere
returns-clause-image_elsewhere c = step_elsewhere

pub returns-clause-record_elsewhere : goal.returns-clause-record_elsewhere
returns-clause-record_elsewhere c = record_elsewhere

pub returns-clause-kept_by_jobs : goal.returns-clause-kept_by_jobs
returns-clause-kept_by_jobs c = home_after_jobs

pub returns-clause-images_elsewhere : goal.returns-clause-images_elsewhere
returns-clause-images_elsewhere c = jobs_elsewhere

pub returns-clause-records_elsewhere : goal.returns-clause-records_elsewhere
returns-clause-records_elsewhere c = records_elsewhere
