use Rattle.std.proofs.Common.{length, ◌≡◌, ◌+◌, ◌≤◌}
use Rattle.std.specs.Str.Lines.{lines}
use Rattle.dml_grammar.specs.Left.{left_from}
use Rattle.dml_grammar.proofs.reader.find_line.Given as goal

abbrev pub invariant-loop-rest : goal.invariant-loop-rest
invariant-loop-rest l = record {
  count : l.number + length l.rest ≤ 4194305;
  left : left_from l.number l.opened l.progress (lines l.rest) ≡ left_from l.initial.number l.opened l.progress (lines l.text);
}

abbrev pub decreases-loop-rest : goal.decreases-loop-rest
decreases-loop-rest l = length l.rest
