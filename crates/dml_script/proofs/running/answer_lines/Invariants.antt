use Rattle.std.proofs.Common.{◌≡◌, false, length}
use Rattle.dml_script.specs.Run.{answer_of, lines_from}
use Rattle.dml_script.specs.Runnable.{MayCome}
use Rattle.dml_script.specs.Watching.{inner_of, has_failed, IsWritten}
use Rattle.dml_script.proofs.running.answer_lines.Given as goal

abbrev pub invariant-loop-ahead : goal.invariant-loop-ahead
invariant-loop-ahead g l = record {
  passed : has_failed l.writer ≡ false;
  come : MayCome l.session (lines_from l.ahead l.lines);
  written : IsWritten (g.W.Write.contents (inner_of l.fn.writer)) (g.W.Write.contents (inner_of l.writer))
      (answer_of l.session (lines_from l.ahead l.lines)) (answer_of l.fn.session l.fn.lines);
}

abbrev pub decreases-loop-ahead : goal.decreases-loop-ahead
decreases-loop-ahead g l = length (lines_from l.ahead l.lines)
