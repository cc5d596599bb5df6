use Rattle.std.proofs.Common.{◌≡◌, false, length}
use Rattle.dml_script.specs.Watching.{inner_of, has_failed, IsWritten}
use Rattle.dml_script.proofs.writing.write_all.Given as goal

abbrev pub invariant-loop-left : goal.invariant-loop-left
invariant-loop-left g l = record {
  passed : has_failed l.writer ≡ false;
  written : IsWritten (g.W.Write.contents (inner_of l.initial.writer)) (g.W.Write.contents (inner_of l.writer)) l.left l.bytes;
}

abbrev pub decreases-loop-left : goal.decreases-loop-left
decreases-loop-left g l = length l.left
