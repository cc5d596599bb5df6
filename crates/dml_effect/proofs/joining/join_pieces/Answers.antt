use Rattle.std.proofs.Common.{Option, Some, rules, sym, subst}
use Rattle.dml_scan.specs.declared.scans.ScanPiece.{ScanPiece}
use Rattle.dml_effect.proofs.JoinLemmas.{IsJoinedSoFar, value_done, joined_first, joined_next, joined_all, neighbour}
use Rattle.dml_effect.proofs.joining.join_pieces.Goals.{in-None-whole, in-Some-whole}
use Rattle.dml_effect.proofs.joining.join_pieces.Goals as goal

pub join_neighbours-requires-clause-below_done : goal.join_neighbours-requires-clause-below_done
join_neighbours-requires-clause-below_done g c =
    let before = subst (λ (w : Option ScanPiece). IsJoinedSoFar g.I.Iterator.next_gives c.args._image.now c.args.job.now c.args.direction w c.loop-piece.piece-iterator) c.in-Some-whole.is c.loop-piece.invariant.joined in
    value_done before.op c.args._image.now c.args.job.now 0 c.in-Some-whole.below before.scans.joined.0

pub join_neighbours-requires-clause-above_done : goal.join_neighbours-requires-clause-above_done
join_neighbours-requires-clause-above_done g c =
    let before = subst (λ (w : Option ScanPiece). IsJoinedSoFar g.I.Iterator.next_gives c.args._image.now c.args.job.now c.args.direction w c.loop-piece.piece-iterator) c.in-Some-whole.is c.loop-piece.invariant.joined in
    let given = neighbour g.I.Iterator.next_gives c.args._image.now c.args.job.now c.args.direction c.loop-piece.piece-iterator c.next.new.self c.in-Some-whole.below c.in-Some.piece before c.in-Some.ensures.steps in
    value_done before.op c.args._image.now c.args.job.now c.in-Some-whole.below.to c.in-Some.piece given.2.high

pub loop-piece-preserved : goal.loop-piece-preserved
loop-piece-preserved g c = record {
  can = search rules;
  finite = search rules;
  joined =
      let steps = g.I.Iterator.next_gives in
      let image = c.args._image.now in
      let job = c.args.job.now in
      let direction = c.args.direction in
      let rest = c.loop-piece.piece-iterator in
      let so_far = λ (w : Option ScanPiece). IsJoinedSoFar steps image job direction w rest in
      let after = λ (p : ScanPiece). IsJoinedSoFar steps image job direction (Some p) c.next.new.self in
      elim c.match-whole.branch [
        | in-None-whole w ↦
            let before = subst so_far w.in-None-whole.is c.loop-piece.invariant.joined in
            subst after (sym w.whole-is) (joined_first steps image job direction rest c.next.new.self c.in-Some.piece before c.in-Some.ensures.steps)
        | in-Some-whole w ↦
            let before = subst so_far w.in-Some-whole.is c.loop-piece.invariant.joined in
            let both = w.join_neighbours.ensures in
            subst after (sym w.whole-is)
            (joined_next steps image job direction rest c.next.new.self w.in-Some-whole.below c.in-Some.piece w.join_neighbours.result before c.in-Some.ensures.steps
            both.chunk.0 both.chunk.1 both.found both.staged both.opening both.end)
      ];
}

pub returns : goal.returns
returns g c = record {
  whole = joined_all g.I.Iterator.next_gives c.args._image.now c.args.job.now c.args.direction c.loop-piece.piece-iterator c.next.new.self c.loop-piece.whole c.loop-piece.invariant.joined c.in-None.ensures.steps;
}
