-- The chunks of a job: of so many bytes each, in an apply of one entry for each 8 bytes.
use Rattle.std.specs.Prelude.{ℕ, ◌/◌, unwrap_or, option_map}
use Rattle.std.specs.Int.{div_ceil}
use Rattle.dml_types.specs.declared.jobs.Job.{Job}
use Rattle.dml_types.specs.declared.operations.Op.{Op}
use Rattle.dml_types.specs.declared.operations.Op.TheVariants.{NoOp, ApplyDelta}
use Rattle.dml_types.specs.Job.{op_of}
pub use Rattle.dml_types.specs.Limits.{IsChunk}

-- a size over that of a chunk, rounded up: the last chunk may be a short one
abbrev pub task_count_by : Op → Job → ℕ → ℕ
task_count_by NoOp job chunk = 0
task_count_by ApplyDelta job chunk = div_ceil (job.delta_size / 10) (chunk / 8)
task_count_by _ job chunk = div_ceil job.size chunk

-- how many chunks a job has
abbrev pub task_count : Job → ℕ → ℕ
task_count job chunk = unwrap_or (option_map (λ op. task_count_by op job chunk) (op_of job)) 0
