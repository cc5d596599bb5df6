use Rattle.std.proofs.Common.{◌≡◌, length, replicate}
use Rattle.std.specs.Prelude.{vec_capacity}
use Rattle.dml_types.specs.declared.statuses.Status.TheVariants.{Abandoned}
use Rattle.dml_types.specs.Effect.{ended}
use Rattle.dml_engine.proofs.batches.abandoned.Given as goal

abbrev pub invariant-loop : goal.invariant-loop
invariant-loop l = (l.records.items ≡ replicate l.index (ended Abandoned 0 0 0)) × (vec_capacity l.records ≡ length l.jobs)
