use Rattle.dml_desc.proofs.EncodingLemmas.{descriptor_is_whole, decoded_back, record_read_back}
use Rattle.dml_desc.proofs.encoding.law_of_encoding.Goals as goal

pub returns-clause-size : goal.returns-clause-size
returns-clause-size c = descriptor_is_whole

pub returns-clause-job : goal.returns-clause-job
returns-clause-job c = decoded_back

pub returns-clause-answer : goal.returns-clause-answer
returns-clause-answer c = record_read_back
