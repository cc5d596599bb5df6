use Rattle.std.proofs.Common.{◌≡◌, ◌++◌, map}
use Rattle.std.specs.List.{range_with_len}
use Rattle.dml_core.specs.Plan.{task_for}
use Rattle.dml_core.proofs.tasks.push_chunks.Given as goal

abbrev pub invariant-loop-k : goal.invariant-loop-k
invariant-loop-k l = l.tasks.items ≡ l.initial.tasks.items ++ map (task_for l.place l.size l.last) (range_with_len 0 l.k)
