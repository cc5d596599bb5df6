use Rattle.std.proofs.Common.{◌≡◌, ℕ, ◌<◌, ◌≤◌, get_or, length, take, vec_capacity}
use Rattle.dml_segments.specs.declared.segments.Segment.{Segment}
use Rattle.dml_segments.specs.Pieces.{IsTakenOut, piece_at, pieces_of}
use Rattle.dml_segments.proofs.arrays.take_out.Given as goal

abbrev pub invariant-loop-k : goal.invariant-loop-k
invariant-loop-k l = record {
  taken : pieces_of l.list.items ≡ pieces_of (take l.k l.fn.segments);
  rest : (j : ℕ) (default : Segment) → l.k ≤ j → get_or l.segments j default ≡ get_or l.fn.segments j default;
  left : (j : ℕ) → j < l.k → IsTakenOut (piece_at (pieces_of l.segments) j) (piece_at (pieces_of l.fn.segments) j);
  size : length l.segments ≡ length l.fn.segments;
  count : length l.list.items ≡ l.k;
  room : vec_capacity l.list ≡ vec_capacity l.fn.list;
}
