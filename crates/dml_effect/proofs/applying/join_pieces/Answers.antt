use Rattle.std.proofs.Common.{Option, Some, rules, sym, subst}
use Rattle.dml_delta.specs.declared.applies.ApplyPiece.{ApplyPiece}
use Rattle.dml_effect.proofs.ApplyChunkLemmas.{IsApplyJoined}
use Rattle.dml_effect.proofs.JoinLemmas.{all_joined, both_joined, first_joined, next_piece}
use Rattle.dml_effect.proofs.applying.join_pieces.Goals.{in-None-whole, in-Some-whole}
use Rattle.dml_effect.proofs.applying.join_pieces.Goals as goal

pub join_neighbours-requires-clause-below : goal.join_neighbours-requires-clause-below
join_neighbours-requires-clause-below g c =
    let before = subst (λ (w : Option ApplyPiece). IsApplyJoined c.args.image.now c.args.job.now g.I.Iterator.next_gives w c.loop-piece.piece-iterator) c.in-Some-whole.is c.loop-piece.invariant.joined in
    before.joined.0

pub join_neighbours-requires-clause-above : goal.join_neighbours-requires-clause-above
join_neighbours-requires-clause-above g c =
    let before = subst (λ (w : Option ApplyPiece). IsApplyJoined c.args.image.now c.args.job.now g.I.Iterator.next_gives w c.loop-piece.piece-iterator) c.in-Some-whole.is c.loop-piece.invariant.joined in
    (next_piece _ _ _ _ _ g.I.Iterator.next_gives c.loop-piece.piece-iterator c.next.new.self c.in-Some-whole.below c.in-Some.piece before c.in-Some.ensures.steps).2.high

pub join_neighbours-requires-clause-beside : goal.join_neighbours-requires-clause-beside
join_neighbours-requires-clause-beside g c =
    let before = subst (λ (w : Option ApplyPiece). IsApplyJoined c.args.image.now c.args.job.now g.I.Iterator.next_gives w c.loop-piece.piece-iterator) c.in-Some-whole.is c.loop-piece.invariant.joined in
    (next_piece _ _ _ _ _ g.I.Iterator.next_gives c.loop-piece.piece-iterator c.next.new.self c.in-Some-whole.below c.in-Some.piece before c.in-Some.ensures.steps).2.beside

pub loop-piece-preserved : goal.loop-piece-preserved
loop-piece-preserved g c = record {
  can = search rules;
  finite = search rules;
  joined =
      let steps = g.I.Iterator.next_gives in
      let rest = c.loop-piece.piece-iterator in
      let next = c.next.new.self in
      let so_far = λ (w : Option ApplyPiece). IsApplyJoined c.args.image.now c.args.job.now steps w rest in
      let after = λ (p : ApplyPiece). IsApplyJoined c.args.image.now c.args.job.now steps (Some p) next in
      elim c.match-whole.branch [
        | in-None-whole w ↦
            let before = subst so_far w.in-None-whole.is c.loop-piece.invariant.joined in
            subst after (sym w.whole-is) (first_joined _ _ _ _ _ steps rest next c.in-Some.piece before c.in-Some.ensures.steps)
        | in-Some-whole w ↦
            let before = subst so_far w.in-Some-whole.is c.loop-piece.invariant.joined in
            let both = w.join_neighbours.ensures in
            subst after (sym w.whole-is)
            (both_joined _ _ _ _ _ steps rest next w.in-Some-whole.below c.in-Some.piece w.join_neighbours.result before c.in-Some.ensures.steps
            both.value both.to both.opening both.end)
      ];
}

pub returns : goal.returns
returns g c = record {
  whole = all_joined _ _ _ _ _ g.I.Iterator.next_gives c.loop-piece.piece-iterator c.next.new.self c.loop-piece.whole c.loop-piece.invariant.joined c.in-None.ensures.steps;
}
