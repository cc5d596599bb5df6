use Rattle.std.proofs.Common.{◌≡◌, ◌+◌, ◌≤◌, ◌++◌, length, drop}
use Rattle.std.specs.Fmt.{decimal}
use Rattle.dml_script.proofs.digits.put_number.Given as goal

-- what is written and what is left to write are the whole
abbrev pub invariant-loop-left : goal.invariant-loop-left
invariant-loop-left l = record {
  within : l.at ≤ l.end;
  places : l.at + length (decimal l.number) ≡ l.end + length (decimal l.left);
  written : decimal l.left ++ drop l.at l.buffer ≡ decimal l.number ++ drop l.end l.fn.buffer;
}

abbrev pub decreases-loop-left : goal.decreases-loop-left
decreases-loop-left l = l.left
