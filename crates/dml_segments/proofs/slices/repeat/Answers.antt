use Rattle.std.proofs.Common.{arith, rules}
use Rattle.dml_segments.proofs.PatternLemmas.{repeated}
use Rattle.dml_segments.proofs.slices.repeat.Goals as goal

pub returns : goal.returns
returns c =
    repeated c.loop-k.target _ _ _ _ _ c.loop-k.invariant c.loop-k.auto.target (omega arith) c.repeat_short.ensures (search rules)
