use Rattle.dml_effect.proofs.CreateJoinLemmas.{IsCreateJoined}
use Rattle.dml_effect.proofs.creating.join_pieces.Given as goal

abbrev pub invariant-loop-piece : goal.invariant-loop-piece
invariant-loop-piece g l = record {
  can : (goal.iterator-loop-piece g).can_next l.piece-iterator;
  finite : (goal.iterator-loop-piece g).is_finite l.piece-iterator;
  joined : IsCreateJoined (goal.iterator-loop-piece g).next_gives l._image l._job l.whole l.piece-iterator;
}
