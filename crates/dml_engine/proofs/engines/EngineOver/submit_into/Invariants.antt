use Rattle.std.proofs.Common.{◌≡◌, length}
use Rattle.std.specs.Prelude.{vec_capacity}
use Rattle.dml_engine.proofs.engines.EngineOver.submit_into.Given as goal

abbrev pub invariant-loop : goal.invariant-loop
invariant-loop g l =
    (length l.records.items ≡ l.index) × (vec_capacity l.records ≡ vec_capacity l.initial.records)
