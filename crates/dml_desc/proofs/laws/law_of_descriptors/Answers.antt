use Rattle.dml_desc.proofs.LayoutLemmas.{decoded_by_meaning}
use Rattle.dml_desc.proofs.laws.law_of_descriptors.Goals as goal

pub returns : goal.returns
returns c = decoded_by_meaning
