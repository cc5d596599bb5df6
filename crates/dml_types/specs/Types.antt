-- What the definitions are written in: the types of the crate's code with their variants, and std's words.
pub use Rattle.dml_types.specs.declared.jobs.Job.{Job}
pub use Rattle.dml_types.specs.declared.limits.Settings.{Settings}
pub use Rattle.dml_types.specs.declared.operations.Direction.TheVariants.{Forward, Backward}
pub use Rattle.dml_types.specs.declared.operations.Direction.{Direction}
pub use Rattle.dml_types.specs.declared.operations.Op.TheVariants.{NoOp, Move, Fill, Compare, ComparePattern, CreateDelta, ApplyDelta, Dualcast}
pub use Rattle.dml_types.specs.declared.operations.Op.{Op}
pub use Rattle.dml_types.specs.declared.records.BatchRecord.{BatchRecord}
pub use Rattle.dml_types.specs.declared.records.Record.{Record}
pub use Rattle.dml_types.specs.declared.spans.Span.{Span}
pub use Rattle.dml_types.specs.declared.statuses.Status.TheVariants.{Abandoned, Success, FalsePredicate, ReadFault, BatchFailed, NotRising, OffsetRange, BadOpcode, BadFlags, BadSize, BadDeltaSize, Overlap, DualcastBits, Misaligned, RangePast, StagingRefused, WriteFault}
pub use Rattle.dml_types.specs.declared.statuses.Status.{Status}
pub use Rattle.std.specs.Int.{from_le_bytes, rotate_right, to_le_bytes, w16, w32, w64}
pub use Rattle.std.specs.List.{list_all, list_any, position_or_len, range_with_len}
