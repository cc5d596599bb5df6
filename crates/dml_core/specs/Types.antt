-- What the definitions are written in: the declared types with their variants.
pub use Rattle.dml_types.specs.declared.jobs.Job.{Job}
pub use Rattle.dml_types.specs.declared.limits.Settings.{Settings}
pub use Rattle.dml_types.specs.declared.operations.Op.TheVariants.{NoOp, CreateDelta, ApplyDelta}
pub use Rattle.dml_types.specs.declared.operations.Op.{Op}
pub use Rattle.dml_types.specs.declared.records.Record.{Record}
pub use Rattle.dml_core.specs.declared.values.Fetched.{Fetched}
pub use Rattle.dml_core.specs.declared.values.Step.{Step}
pub use Rattle.dml_core.specs.declared.values.Step.TheVariants.{Submit, Fetch, Take, Finish, Commit}
pub use Rattle.dml_core.specs.declared.values.Task.{Task}
