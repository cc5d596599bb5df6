use Rattle.dml_types.proofs.StepLemmas.{memory_after_append, records_of_append, length_records_of, memory_after_present}
use Rattle.dml_types.proofs.laws.law_of_folds.Goals as goal

pub returns-clause-image_in_parts : goal.returns-clause-image_in_parts
returns-clause-image_in_parts c = memory_after_append

pub returns-clause-records_in_parts : goal.returns-clause-records_in_parts
returns-clause-records_in_parts c = records_of_append

pub returns-clause-as_many : goal.returns-clause-as_many
returns-clause-as_many c = length_records_of

pub returns-clause-presence : goal.returns-clause-presence
returns-clause-presence c = memory_after_present
