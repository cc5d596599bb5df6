use Rattle.std.proofs.Common.{◌≡◌, ◌+◌, suc, length, take, ◌∙◌, ap, subst, arith}
use Rattle.std.proofs.lemmas.Bool.{false≢true}
use Rattle.dml_segments.specs.declared.segments.Segment.{Segment}
use Rattle.dml_segments.specs.Pieces.{AreInOrder, marks_from, pieces_of}
use Rattle.dml_segments.proofs.SegmentLemmas.{front_more, next_in_order}
use Rattle.dml_segments.proofs.segments.are_segments.Goals as goal
use Rattle.dml_segments.proofs.segments.are_segments.Goals.{then-first-end-via-then-first-end, then-first-end-via-else-first-end+then-len-ne0}

pub returns-then-first-end : goal.returns-then-first-end
returns-then-first-end c = (
  λ no. absurd (false≢true no),
  λ are.
      let here = next_in_order 0 c.args.list.now c.loop-segment.segment-index c.segment-item.result are.order c.loop-segment-test.true in
      let first = ap (λ (s : Segment). s.first) c.segment-item.is in
      let long = ap (λ (s : Segment). length s.content.now) c.segment-item.is in
      elim c.then-first-end.branch [
        | then-first-end-via-then-first-end w ↦ absurd (omega (arith, w.if-first-end.true, here.0, first, c.from-first.ensures, c.loop-segment.invariant.end))
        | then-first-end-via-else-first-end+then-len-ne0 w ↦ absurd (w.if-len-ne0.true (omega (arith, here.1, long)))
      ],
)

pub loop-segment-preserved : goal.loop-segment-preserved
loop-segment-preserved c =
    let list = c.args.list.now in
    let k = c.loop-segment.segment-index in
    let first = ap (λ (s : Segment). s.first) c.segment-item.is in
    let long = ap (λ (s : Segment). length s.content.now) c.segment-item.is in
    let more = front_more 0 list k c.segment-item.result c.loop-segment.invariant.order c.loop-segment-test.true
    (omega (arith, c.if-first-end.false, first, c.from-first.ensures, c.loop-segment.invariant.end))
    (omega (arith, long, c.if-len-ne0.false)) in
    let next : suc k ≡ k + 1 = omega arith in
    record {
      order = subst (λ n. AreInOrder 0 (pieces_of (take n list))) next more.0;
      end =
          omega (arith, more.1, long, first, c.from-first.ensures)
          ∙ ap (λ n. length (marks_from 0 (pieces_of (take n list)))) next;
    }
