use Rattle.std.proofs.Common.{◌≡◌, length, take}
use Rattle.dml_segments.specs.Pieces.{AreInOrder, marks_from, pieces_of}
use Rattle.dml_segments.proofs.segments.are_segments.Given as goal

abbrev pub invariant-loop-segment : goal.invariant-loop-segment
invariant-loop-segment l = record {
  order : AreInOrder 0 (pieces_of (take l.segment-index l.list));
  end : l.end ≡ length (marks_from 0 (pieces_of (take l.segment-index l.list)));
}
