use Rattle.std.proofs.Common.{◌≡◌, ◌+◌, ◌-◌, ◌≤◌}
use Rattle.dml_types.specs.Memory.{bytes_at, put}
use Rattle.dml_image.proofs.parts.move_down.Given as goal

abbrev pub invariant-loop-left : goal.invariant-loop-left
invariant-loop-left g l = record {
  within : l.left ≤ l.len;
  moved : g.P.Parts.held l.parts ≡ put (g.P.Parts.held l.fn.parts) (l.target + l.left) (bytes_at (g.P.Parts.held l.fn.parts) (l.source + l.left) (l.len - l.left));
}

abbrev pub decreases-loop-left : goal.decreases-loop-left
decreases-loop-left g l = l.left
