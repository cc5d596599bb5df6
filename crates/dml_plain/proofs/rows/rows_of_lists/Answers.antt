use Rattle.std.proofs.Common.{refl}
use Rattle.dml_types.specs.Memory.{first, overwrite}
use Rattle.dml_types.specs.Bytewise.{pattern_bytes, moved, filled}
use Rattle.dml_types.specs.Step.{effect}
use Rattle.dml_desc.specs.Descriptor.{decoded}
use Rattle.dml_plain.specs.ListRows as row
use Rattle.dml_plain.proofs.rows.rows_of_lists.Goals as goal

pub returns-clause-batch_with_bad_opcode : goal.returns-clause-batch_with_bad_opcode
unfolding row.batch_with_bad_opcode first overwrite pattern_bytes filled effect decoded
returns-clause-batch_with_bad_opcode c = (refl, refl)

pub returns-clause-bare_image : goal.returns-clause-bare_image
unfolding row.bare_image
returns-clause-bare_image c = (refl, refl)

pub returns-clause-more_lines_than_one_list : goal.returns-clause-more_lines_than_one_list
unfolding row.more_lines_than_one_list effect
returns-clause-more_lines_than_one_list c = refl

pub returns-clause-staging_refusal_and_two_waves : goal.returns-clause-staging_refusal_and_two_waves
unfolding row.staging_refusal_and_two_waves first overwrite moved effect
returns-clause-staging_refusal_and_two_waves c = (refl, refl)

pub returns-clause-conflict_chain : goal.returns-clause-conflict_chain
unfolding row.conflict_chain first overwrite pattern_bytes moved filled effect
returns-clause-conflict_chain c = (refl, refl, refl, refl, refl)

pub returns-clause-levels_of_four_jobs : goal.returns-clause-levels_of_four_jobs
unfolding row.levels_of_four_jobs
returns-clause-levels_of_four_jobs c = refl

pub returns-clause-flags_before_size : goal.returns-clause-flags_before_size
unfolding row.flags_before_size first overwrite moved effect
returns-clause-flags_before_size c = (refl, (refl, refl))
