use Rattle.dml_delta.proofs.lanes.marks_of_group.Goals as goal

pub returns : goal.returns
returns c = c.alike_in_group.ensures
