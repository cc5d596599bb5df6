use Rattle.std.proofs.Common.{refl}
use Rattle.dml_types.specs.Memory.{first, overwrite}
use Rattle.dml_types.specs.Bytewise.{pattern_bytes, moved, filled, compared}
use Rattle.dml_types.specs.Delta.{created}
use Rattle.dml_types.specs.Step.{effect}
use Rattle.dml_plain.specs.RestRows as row
use Rattle.dml_plain.proofs.rows.rows_of_rests.Goals as goal

pub returns-clause-resume_a_fill : goal.returns-clause-resume_a_fill
unfolding row.resume_a_fill first overwrite pattern_bytes filled effect
returns-clause-resume_a_fill c = (refl, refl, refl, refl)

pub returns-clause-resume_a_compare : goal.returns-clause-resume_a_compare
unfolding row.resume_a_compare first overwrite compared effect
returns-clause-resume_a_compare c = (refl, refl, refl, refl)

pub returns-clause-resume_a_backward_move : goal.returns-clause-resume_a_backward_move
unfolding row.resume_a_backward_move first overwrite moved effect
returns-clause-resume_a_backward_move c = (refl, refl, refl, refl)

pub returns-clause-rest_of_moves : goal.returns-clause-rest_of_moves
unfolding row.rest_of_moves first overwrite moved created effect
returns-clause-rest_of_moves c = (refl, refl, refl, refl, refl, refl, refl)
