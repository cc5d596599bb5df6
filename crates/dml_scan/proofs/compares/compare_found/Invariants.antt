use Rattle.std.proofs.Common.{◌+◌, ◌-◌, ◌≤◌, length}
use Rattle.dml_types.specs.declared.operations.Op.TheVariants.{Compare}
use Rattle.dml_buffers.specs.Holds.{Holds}
use Rattle.dml_scan.proofs.CompareLemmas.{Passed}
use Rattle.dml_scan.proofs.compares.compare_found.Given as goal

abbrev pub invariant-loop-at : goal.invariant-loop-at
invariant-loop-at l = record {
  order : l.from ≤ l.at;
  within : l.at ≤ l.to;
  left : Holds l.image (l.job.source + l.at) l.left;
  right : Holds l.image (l.job.target + l.at) l.right;
  left_within : length l.left ≤ l.to - l.at;
  right_within : length l.right ≤ l.to - l.at;
  passed : Passed Compare l.image l.job l.from l.at;
}

abbrev pub decreases-loop-at : goal.decreases-loop-at
decreases-loop-at l = l.to - l.at
