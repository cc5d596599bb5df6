use Rattle.std.specs.List.{All}
use Rattle.dml_pool.specs.Tasks.{IsRunnable}
use Rattle.dml_bench.proofs.waves.tasks_of.Given as goal

abbrev pub invariant-loop-place : goal.invariant-loop-place
invariant-loop-place l = All IsRunnable l.tasks.items
