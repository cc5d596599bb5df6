use Rattle.std.proofs.Common.{Option, Some, rules, sym, subst}
use Rattle.dml_delta.specs.declared.creates.CreatePiece.{CreatePiece}
use Rattle.dml_effect.proofs.CreateJoinLemmas.{IsCreateJoined, creates_first, creates_next, creates_all, next_create}
use Rattle.dml_effect.proofs.creating.join_pieces.Goals.{in-None-whole, in-Some-whole}
use Rattle.dml_effect.proofs.creating.join_pieces.Goals as goal

pub join_neighbours-requires : goal.join_neighbours-requires
join_neighbours-requires g c =
    let steps = g.I.Iterator.next_gives in
    let before = subst (λ (w : Option CreatePiece). IsCreateJoined steps c.args._image.now c.args._job.now w c.loop-piece.piece-iterator) c.in-Some-whole.is c.loop-piece.invariant.joined in
    let given = next_create steps c.args._image.now c.args._job.now c.loop-piece.piece-iterator c.next.new.self c.in-Some-whole.below c.in-Some.piece before c.in-Some.ensures.steps in
    record { beside = given.2.beside }

pub loop-piece-preserved : goal.loop-piece-preserved
loop-piece-preserved g c = record {
  can = search rules;
  finite = search rules;
  joined =
      let steps = g.I.Iterator.next_gives in
      let image = c.args._image.now in
      let job = c.args._job.now in
      let rest = c.loop-piece.piece-iterator in
      let so_far = λ (w : Option CreatePiece). IsCreateJoined steps image job w rest in
      let after = λ (p : CreatePiece). IsCreateJoined steps image job (Some p) c.next.new.self in
      elim c.match-whole.branch [
        | in-None-whole w ↦
            let before = subst so_far w.in-None-whole.is c.loop-piece.invariant.joined in
            subst after (sym w.whole-is) (creates_first steps image job rest c.next.new.self c.in-Some.piece before c.in-Some.ensures.steps)
        | in-Some-whole w ↦
            let before = subst so_far w.in-Some-whole.is c.loop-piece.invariant.joined in
            let both = w.join_neighbours.ensures in
            subst after (sym w.whole-is)
            (creates_next steps image job rest c.next.new.self w.in-Some-whole.below c.in-Some.piece w.join_neighbours.result before c.in-Some.ensures.steps
            both.chunk.0 both.chunk.1 both.fault both.staged both.opening both.end)
      ];
}

pub returns : goal.returns
returns g c = record {
  whole = creates_all g.I.Iterator.next_gives c.args._image.now c.args._job.now c.loop-piece.piece-iterator c.next.new.self c.loop-piece.whole c.loop-piece.invariant.joined c.in-None.ensures.steps;
}
