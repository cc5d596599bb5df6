use Rattle.std.proofs.Common.{refl}
use Rattle.dml_plain.specs.RefusalRows as row
use Rattle.dml_plain.proofs.rows.rows_of_refusals.Goals as goal

pub returns-clause-dualcast_bits_refused : goal.returns-clause-dualcast_bits_refused
unfolding row.dualcast_bits_refused
returns-clause-dualcast_bits_refused c = refl

pub returns-clause-create_size_refused : goal.returns-clause-create_size_refused
unfolding row.create_size_refused
returns-clause-create_size_refused c = refl

pub returns-clause-create_delta_size_refused : goal.returns-clause-create_delta_size_refused
unfolding row.create_delta_size_refused
returns-clause-create_delta_size_refused c = (refl, refl)

pub returns-clause-apply_overlap_refused : goal.returns-clause-apply_overlap_refused
unfolding row.apply_overlap_refused
returns-clause-apply_overlap_refused c = (refl, refl)

pub returns-clause-create_overlap_refused : goal.returns-clause-create_overlap_refused
unfolding row.create_overlap_refused
returns-clause-create_overlap_refused c = refl

pub returns-clause-opcode_before_flags : goal.returns-clause-opcode_before_flags
unfolding row.opcode_before_flags
returns-clause-opcode_before_flags c = (refl, refl)
