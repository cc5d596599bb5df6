use Rattle.dml_types.proofs.BatchLemmas.{batch_without_fences, length_batch_records}
use Rattle.dml_types.proofs.laws.law_of_batches.Goals as goal

pub returns-clause-without_fences : goal.returns-clause-without_fences
returns-clause-without_fences c = batch_without_fences

pub returns-clause-as_many : goal.returns-clause-as_many
returns-clause-as_many c = length_batch_records
