use Rattle.std.proofs.Common.{◌≡◌, [], replicate}
use Rattle.dml_core.specs.Gather.{counted}
use Rattle.dml_core.proofs.worlds.empty_lists.Given as goal

abbrev pub invariant-loop-k : goal.invariant-loop-k
invariant-loop-k l = l.lists.items ≡ replicate l.k (counted [] 0)
