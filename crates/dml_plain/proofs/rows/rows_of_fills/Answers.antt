use Rattle.std.proofs.Common.{refl}
use Rattle.dml_types.specs.Memory.{first, overwrite}
use Rattle.dml_types.specs.Bytewise.{pattern_bytes, moved, dualcast, filled, compared}
use Rattle.dml_types.specs.Delta.{created, applied}
use Rattle.dml_types.specs.Step.{effect}
use Rattle.dml_plain.specs.FillRows as row
use Rattle.dml_plain.proofs.rows.rows_of_fills.Goals as goal

pub returns-clause-fill_into_absent_page : goal.returns-clause-fill_into_absent_page
unfolding row.fill_into_absent_page first overwrite pattern_bytes filled effect
returns-clause-fill_into_absent_page c = (refl, refl)

pub returns-clause-fill_refusals : goal.returns-clause-fill_refusals
unfolding row.fill_refusals first overwrite pattern_bytes filled effect
returns-clause-fill_refusals c = refl

pub returns-clause-empty_ranges : goal.returns-clause-empty_ranges
unfolding row.empty_ranges first overwrite created applied effect
returns-clause-empty_ranges c = refl

pub returns-clause-every_page_absent : goal.returns-clause-every_page_absent
unfolding row.every_page_absent first overwrite pattern_bytes moved dualcast filled compared created applied effect
returns-clause-every_page_absent c = λ bytes. (refl, refl)
