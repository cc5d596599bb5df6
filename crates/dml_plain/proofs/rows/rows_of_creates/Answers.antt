use Rattle.std.proofs.Common.{refl}
use Rattle.dml_types.specs.Memory.{first, overwrite}
use Rattle.dml_types.specs.Delta.{created}
use Rattle.dml_types.specs.Step.{effect}
use Rattle.dml_plain.specs.CreateRows as row
use Rattle.dml_plain.proofs.rows.rows_of_creates.Goals as goal

pub returns-clause-delta_record_and_overflow : goal.returns-clause-delta_record_and_overflow
unfolding row.delta_record_and_overflow first overwrite created effect
returns-clause-delta_record_and_overflow c = (refl, refl, refl, refl)

pub returns-clause-overflow_before_write_fault : goal.returns-clause-overflow_before_write_fault
unfolding row.overflow_before_write_fault first overwrite created effect
returns-clause-overflow_before_write_fault c = refl

pub returns-clause-delta_stops_at_absent_source : goal.returns-clause-delta_stops_at_absent_source
unfolding row.delta_stops_at_absent_source first overwrite created effect
returns-clause-delta_stops_at_absent_source c = (refl, refl, refl)
