use Rattle.std.proofs.Common.{◌≡◌, ℕ, ◌-◌, ◌*◌, ◌<◌, ◌≤◌, ◌⊎◌, length}
use Rattle.dml_segments.specs.Pieces.{piece_at, pieces_of}
use Rattle.dml_segments.proofs.segments.nearest.Given as goal

abbrev pub invariant-loop-high : goal.invariant-loop-high
invariant-loop-high l = record {
  order : (l.low < l.high) ⊎ ((l.low ≡ 0) × (length l.list ≡ 0));
  within : l.high ≤ length l.list;
  before : (k : ℕ) → k < l.low → 4096 * (piece_at (pieces_of l.list) k).first ≤ l.addr;
  begins : 0 < l.low → 4096 * (piece_at (pieces_of l.list) l.low).first ≤ l.addr;
  behind : (k : ℕ) → l.high ≤ k → k < length l.list → l.addr < 4096 * (piece_at (pieces_of l.list) k).first;
}

abbrev pub decreases-loop-high : goal.decreases-loop-high
decreases-loop-high l = l.high - l.low
