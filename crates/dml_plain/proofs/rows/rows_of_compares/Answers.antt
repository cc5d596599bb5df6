use Rattle.std.proofs.Common.{refl, replicate}
use Rattle.dml_types.specs.Memory.{first, overwrite}
use Rattle.dml_types.specs.Bytewise.{compared}
use Rattle.dml_types.specs.Delta.{created}
use Rattle.dml_types.specs.Step.{effect}
use Rattle.dml_plain.specs.CompareRows as row
use Rattle.dml_plain.proofs.CompareRowLemmas.{full_mismatch, full_page_edge, zeros_of}
use Rattle.dml_plain.proofs.rows.rows_of_compares.Goals as goal

pub returns-clause-mismatch_before_fault : goal.returns-clause-mismatch_before_fault
unfolding row.mismatch_before_fault
returns-clause-mismatch_before_fault c = full_mismatch (replicate 16384 0) (zeros_of 16384 refl)

pub returns-clause-compare_stops_at_page_edge : goal.returns-clause-compare_stops_at_page_edge
unfolding row.compare_stops_at_page_edge
returns-clause-compare_stops_at_page_edge c = full_page_edge (replicate 16384 0) (zeros_of 16384 refl)

pub returns-clause-expected_results : goal.returns-clause-expected_results
unfolding row.expected_results first overwrite compared created effect
returns-clause-expected_results c = (refl, refl)

pub returns-clause-pattern_expected : goal.returns-clause-pattern_expected
unfolding row.pattern_expected first overwrite compared effect
returns-clause-pattern_expected c = refl
