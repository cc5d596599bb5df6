use Rattle.std.proofs.Common.{◌≡◌, ◌*◌, length}
use Rattle.dml_grammar.specs.Digits.{HasPairs}
use Rattle.dml_grammar.proofs.hexadecimal.decode_steps.Given as goal

abbrev pub invariant-loop-step : goal.invariant-loop-step
invariant-loop-step l = record {
  long : length l.bytes ≡ length l.initial.bytes;
  pairs : HasPairs l.word l.bytes (8 * l.step);
}
