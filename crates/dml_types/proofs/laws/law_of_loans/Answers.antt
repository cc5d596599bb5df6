use Rattle.dml_types.proofs.LoanLemmas.{loan_after_step, step_otherwise, record_otherwise, loan_after_jobs, jobs_otherwise, records_otherwise}
use Rattle.dml_types.proofs.laws.law_of_loans.Goals as goal

pub returns-clause-kept : goal.returns-clause-kept
returns-clause-kept c = loan_after_step

pub returns-clause-image_otherwise : goal.returns-clause-image_otherwise
returns-clause-image_otherwise c = step_otherwise

pub returns-clause-record_otherwise : goal.returns-clause-record_otherwise
returns-clause-record_otherwise c = record_otherwise

pub returns-clause-kept_by_jobs : goal.returns-clause-kept_by_jobs
returns-clause-kept_by_jobs c = loan_after_jobs

pub returns-clause-images_otherwise : goal.returns-clause-images_otherwise
returns-clause-images_otherwise c = jobs_otherwise

pub returns-clause-records_otherwise : goal.returns-clause-records_otherwise
returns-clause-records_otherwise c = records_otherwise
