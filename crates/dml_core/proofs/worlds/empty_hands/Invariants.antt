use Rattle.std.proofs.Common.{◌≡◌, None, replicate}
use Rattle.dml_core.proofs.worlds.empty_hands.Given as goal

abbrev pub invariant-loop-k : goal.invariant-loop-k
invariant-loop-k l = l.hands.items ≡ replicate l.k None
