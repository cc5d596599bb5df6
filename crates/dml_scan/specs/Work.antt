-- The order of work of a job.
use Rattle.std.specs.Prelude.{◌≡◌, Some}
use Rattle.dml_types.specs.declared.jobs.Job.{Job}
use Rattle.dml_types.specs.declared.operations.Direction.{Direction}
use Rattle.dml_types.specs.declared.operations.Op.{Op}
use Rattle.dml_types.specs.Job.{op_of}
use Rattle.dml_types.specs.Bytewise.{operation_direction}

-- the direction in which the job's operation goes over its offsets
abbrev pub IsWorkDirection : Job → Direction → Type 0
IsWorkDirection job direction = (op : Op) → op_of job ≡ Some op → direction ≡ operation_direction op job
