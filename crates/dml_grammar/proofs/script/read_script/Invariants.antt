use Rattle.std.proofs.Common.{length, ◌≡◌}
use Rattle.dml_grammar.specs.Left.{all_left}
use Rattle.dml_grammar.proofs.script.read_script.Given as goal

abbrev pub invariant-loop-lines : goal.invariant-loop-lines
invariant-loop-lines l = l.lines.fault ≡ (all_left l.bytes).fault

abbrev pub decreases-loop-lines : goal.decreases-loop-lines
decreases-loop-lines l = length l.lines.lines
