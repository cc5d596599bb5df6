use Rattle.dml_desc.proofs.LayoutLemmas.{record_has_its_fields, batch_has_its_fields}
use Rattle.dml_desc.proofs.laws.law_of_records.Goals as goal

pub returns-clause-job : goal.returns-clause-job
returns-clause-job c = record_has_its_fields

pub returns-clause-batch : goal.returns-clause-batch
returns-clause-batch c = batch_has_its_fields
