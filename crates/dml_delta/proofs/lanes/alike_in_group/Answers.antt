use Rattle.dml_delta.proofs.LaneLemmas.{alike_are}
use Rattle.dml_delta.proofs.lanes.alike_in_group.Goals as goal

pub returns : goal.returns
returns c = λ i. alike_are c.args.one.now c.args.other.now i c.requires.lengths.0 c.requires.lengths.1 c.type_inv.one c.type_inv.other
