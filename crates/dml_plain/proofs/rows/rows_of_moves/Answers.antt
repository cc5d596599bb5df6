use Rattle.std.proofs.Common.{refl}
use Rattle.dml_types.specs.Memory.{first, overwrite}
use Rattle.dml_types.specs.Bytewise.{moved, dualcast}
use Rattle.dml_types.specs.Step.{effect}
use Rattle.dml_plain.specs.MoveRows as row
use Rattle.dml_plain.proofs.rows.rows_of_moves.Goals as goal

pub returns-clause-backward_move_into_absent_page : goal.returns-clause-backward_move_into_absent_page
unfolding row.backward_move_into_absent_page first overwrite moved effect
returns-clause-backward_move_into_absent_page c = (refl, refl)

pub returns-clause-forward_move_over_itself : goal.returns-clause-forward_move_over_itself
unfolding row.forward_move_over_itself first overwrite moved effect
returns-clause-forward_move_over_itself c = (refl, refl, refl)

pub returns-clause-backward_move_stops_at_page_edge : goal.returns-clause-backward_move_stops_at_page_edge
unfolding row.backward_move_stops_at_page_edge first overwrite moved effect
returns-clause-backward_move_stops_at_page_edge c = (refl, refl)

pub returns-clause-end_of_address_space : goal.returns-clause-end_of_address_space
unfolding row.end_of_address_space first overwrite moved effect
returns-clause-end_of_address_space c = refl

pub returns-clause-dualcast_refusals : goal.returns-clause-dualcast_refusals
unfolding row.dualcast_refusals first overwrite dualcast effect
returns-clause-dualcast_refusals c = refl

pub returns-clause-dualcast_write_fault : goal.returns-clause-dualcast_write_fault
unfolding row.dualcast_write_fault first overwrite dualcast effect
returns-clause-dualcast_write_fault c = (refl, refl, refl)

pub returns-clause-write_over_page_edge : goal.returns-clause-write_over_page_edge
unfolding row.write_over_page_edge overwrite
returns-clause-write_over_page_edge c = refl
