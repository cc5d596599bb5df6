use Rattle.dml_effect.proofs.ApplyChunkLemmas.{IsApplyJoined}
use Rattle.dml_effect.proofs.applying.join_pieces.Given as goal

abbrev pub invariant-loop-piece : goal.invariant-loop-piece
invariant-loop-piece g l = record {
  can : (goal.iterator-loop-piece g).can_next l.piece-iterator;
  finite : (goal.iterator-loop-piece g).is_finite l.piece-iterator;
  joined : IsApplyJoined l.image l.job (goal.iterator-loop-piece g).next_gives l.whole l.piece-iterator;
}
