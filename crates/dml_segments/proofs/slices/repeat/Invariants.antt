use Rattle.std.proofs.Common.{◌≡◌, ◌*◌, take}
use Rattle.dml_types.specs.Bytewise.{pattern_bytes}
use Rattle.dml_segments.proofs.slices.repeat.Given as goal

abbrev pub invariant-loop-k : goal.invariant-loop-k
invariant-loop-k l = take (8 * l.k) l.target ≡ pattern_bytes l.pattern (8 * l.k)
