-- What the checks say of the sizes and addresses of a create and of an apply.
use Rattle.std.proofs.Common.{◌≡◌, ℕ, ◌+◌, ◌*◌, ◌/◌, ◌^◌, ◌<◌, Some, subst, sym, arith}
use Rattle.dml_types.specs.declared.jobs.Job.{Job}
use Rattle.dml_types.specs.declared.operations.Op.TheVariants.{ApplyDelta, CreateDelta}
use Rattle.dml_types.specs.Job.{op_of}
use Rattle.dml_desc.specs.Checked.{IsChecked, ApplyLimits, CreateLimits}
use Rattle.dml_desc.proofs.CheckedLemmas.{limits_of}

pub create_limits : (job : Job) → IsChecked job → op_of job ≡ Some CreateDelta → CreateLimits job
create_limits job checked operation = limits_of CreateDelta job checked operation

pub apply_limits : (job : Job) → IsChecked job → op_of job ≡ Some ApplyDelta → ApplyLimits job
apply_limits job checked operation = limits_of ApplyDelta job checked operation

-- an apply's blocks lie within the address space
pub block_within : (job given : Job) (x i : ℕ) → IsChecked job → op_of job ≡ Some ApplyDelta → given ≡ job → x < given.size / 8 → i < 8 → given.target + 8 * x + i < 2 ^ 64
block_within job given x i checked operation same below within =
    let limits : ApplyLimits given = subst ApplyLimits (sym same) (apply_limits job checked operation) in
    omega (arith, limits.target, below, within)
