-- What the checks say of the sizes and addresses of each scanned job.
use Rattle.std.proofs.Common.{◌≡◌, Some}
use Rattle.dml_types.specs.declared.jobs.Job.{Job}
use Rattle.dml_types.specs.declared.operations.Op.TheVariants.{Dualcast, Fill, Move}
use Rattle.dml_types.specs.Job.{op_of}
use Rattle.dml_desc.specs.Checked.{IsChecked, DualcastLimits, PairLimits, TargetLimits}
use Rattle.dml_desc.proofs.CheckedLemmas.{limits_of}

pub move_limits : (job : Job) → IsChecked job → op_of job ≡ Some Move → PairLimits job
move_limits job checked operation = limits_of Move job checked operation

pub fill_limits : (job : Job) → IsChecked job → op_of job ≡ Some Fill → TargetLimits job
fill_limits job checked operation = limits_of Fill job checked operation

pub dualcast_limits : (job : Job) → IsChecked job → op_of job ≡ Some Dualcast → DualcastLimits job
dualcast_limits job checked operation = limits_of Dualcast job checked operation
