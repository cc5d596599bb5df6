use Rattle.std.proofs.Common.{◌-◌, ◌≤◌}
use Rattle.dml_types.specs.declared.operations.Op.TheVariants.{ComparePattern}
use Rattle.dml_scan.proofs.CompareLemmas.{Passed}
use Rattle.dml_scan.proofs.compares.compare_pattern_found.Given as goal

abbrev pub invariant-loop-at : goal.invariant-loop-at
invariant-loop-at l = record {
  order : l.from ≤ l.at;
  within : l.at ≤ l.to;
  passed : Passed ComparePattern l.image l.job l.from l.at;
}

abbrev pub decreases-loop-at : goal.decreases-loop-at
decreases-loop-at l = l.to - l.at
