use Rattle.dml_script.proofs.AnswerLawLemmas.{answers_batch, answers_in_parts, answers_jobs, leaves_batch, leaves_jobs}
use Rattle.dml_script.proofs.laws.law_of_answers.Goals as goal

pub returns-clause-parts : goal.returns-clause-parts
returns-clause-parts c = answers_in_parts

pub returns-clause-jobs : goal.returns-clause-jobs
returns-clause-jobs c = answers_jobs

pub returns-clause-batch : goal.returns-clause-batch
returns-clause-batch c = answers_batch

pub returns-clause-after_jobs : goal.returns-clause-after_jobs
returns-clause-after_jobs c = leaves_jobs

pub returns-clause-after_batch : goal.returns-clause-after_batch
returns-clause-after_batch c = leaves_batch
