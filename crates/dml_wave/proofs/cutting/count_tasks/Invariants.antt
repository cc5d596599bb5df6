use Rattle.std.proofs.Common.{◌≡◌, take}
use Rattle.dml_levels.specs.Waves.{tasks_of}
use Rattle.dml_wave.proofs.cutting.count_tasks.Given as goal

abbrev pub invariant-loop-place : goal.invariant-loop-place
invariant-loop-place l = l.count ≡ tasks_of l.jobs l.chunk (take l.place-index l.wave)
