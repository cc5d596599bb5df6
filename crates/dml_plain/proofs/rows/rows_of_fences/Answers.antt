use Rattle.std.proofs.Common.{refl}
use Rattle.dml_types.specs.Memory.{first, overwrite}
use Rattle.dml_types.specs.Bytewise.{compared, pattern_bytes, filled}
use Rattle.dml_types.specs.Step.{effect}
use Rattle.dml_desc.specs.Descriptor.{decoded}
use Rattle.dml_plain.specs.FenceRows as row
use Rattle.dml_plain.proofs.rows.rows_of_fences.Goals as goal

pub returns-clause-fence_in_batch : goal.returns-clause-fence_in_batch
unfolding row.fence_in_batch first overwrite pattern_bytes filled compared effect decoded
returns-clause-fence_in_batch c = (refl, refl)

pub returns-clause-fence_orders : goal.returns-clause-fence_orders
unfolding row.fence_orders first overwrite pattern_bytes filled compared effect decoded
returns-clause-fence_orders c = ((refl, refl), refl)

pub returns-clause-fence_abandons : goal.returns-clause-fence_abandons
unfolding row.fence_abandons first overwrite pattern_bytes filled compared effect decoded
returns-clause-fence_abandons c = ((refl, refl), refl)

pub returns-clause-fence_after_false_predicate : goal.returns-clause-fence_after_false_predicate
unfolding row.fence_after_false_predicate first overwrite pattern_bytes filled compared effect decoded
returns-clause-fence_after_false_predicate c = (refl, refl)

pub returns-clause-refused_fenced_job : goal.returns-clause-refused_fenced_job
unfolding row.refused_fenced_job first overwrite pattern_bytes filled compared effect decoded
returns-clause-refused_fenced_job c = (refl, refl)

pub returns-clause-refused_fenced_job_after_fault : goal.returns-clause-refused_fenced_job_after_fault
unfolding row.refused_fenced_job_after_fault first overwrite pattern_bytes filled compared effect decoded
returns-clause-refused_fenced_job_after_fault c = (refl, refl)

pub returns-clause-levels_behind_a_fence : goal.returns-clause-levels_behind_a_fence
unfolding row.levels_behind_a_fence
returns-clause-levels_behind_a_fence c = refl
