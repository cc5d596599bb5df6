use Rattle.std.proofs.Common.{◌≡◌, ◌-◌, ◌≤◌}
use Rattle.dml_types.specs.Memory.{bytes_at, put}
use Rattle.dml_image.proofs.parts.move_up.Given as goal

abbrev pub invariant-loop-done : goal.invariant-loop-done
invariant-loop-done g l = record {
  within : l.done ≤ l.len;
  moved : g.P.Parts.held l.parts ≡ put (g.P.Parts.held l.fn.parts) l.target (bytes_at (g.P.Parts.held l.fn.parts) l.source l.done);
}

abbrev pub decreases-loop-done : goal.decreases-loop-done
decreases-loop-done g l = l.len - l.done
