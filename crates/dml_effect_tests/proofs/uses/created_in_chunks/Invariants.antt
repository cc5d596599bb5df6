use Rattle.std.proofs.Common.{◌≡◌, ◌-◌, ◌*◌, ◌≤◌, []}
use Rattle.dml_effect.specs.Chunks.{IsCreateFrom}
use Rattle.dml_effect.proofs.ChunkListLemmas.{AreChunksBefore}
use Rattle.dml_effect_tests.proofs.uses.created_in_chunks.Given as goal

abbrev pub invariant-loop-from : goal.invariant-loop-from
invariant-loop-from l = record {
  within : l.from ≤ l.blocks;
  empty : l.rest.bytes ≡ [];
  fits : 10 * (l.blocks - l.from) ≤ l.rest.room;
  chunks : AreChunksBefore (IsCreateFrom l.image l.job) (λ p. p.to) (λ p. p.staged) l.rest l.from 0 l.pieces.items;
}

abbrev pub decreases-loop-from : goal.decreases-loop-from
decreases-loop-from l = l.blocks - l.from
