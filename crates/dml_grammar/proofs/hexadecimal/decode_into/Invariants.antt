use Rattle.std.proofs.Common.{◌≡◌, length}
use Rattle.dml_grammar.specs.Digits.{HasPairs}
use Rattle.dml_grammar.proofs.hexadecimal.decode_into.Given as goal

abbrev pub invariant-loop-i : goal.invariant-loop-i
invariant-loop-i l = record {
  long : length l.bytes ≡ length l.initial.bytes;
  pairs : HasPairs l.word l.bytes l.i;
}
