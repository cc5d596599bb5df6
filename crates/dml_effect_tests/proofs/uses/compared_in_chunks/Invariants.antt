use Rattle.std.proofs.Common.{◌≡◌, ◌-◌, ◌≤◌, []}
use Rattle.dml_effect.specs.Chunks.{IsScanFrom}
use Rattle.dml_effect.proofs.ChunkListLemmas.{AreChunksBefore}
use Rattle.dml_effect_tests.proofs.uses.compared_in_chunks.Given as goal

abbrev pub invariant-loop-from : goal.invariant-loop-from
invariant-loop-from l = record {
  within : l.from ≤ l.size;
  empty : l.rest.bytes ≡ [];
  chunks : AreChunksBefore (IsScanFrom l.op l.image l.job) (λ p. p.to) (λ p. p.staged) l.rest l.from 0 l.pieces.items;
}

abbrev pub decreases-loop-from : goal.decreases-loop-from
decreases-loop-from l = l.size - l.from
