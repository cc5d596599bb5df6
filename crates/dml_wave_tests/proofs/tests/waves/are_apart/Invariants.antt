use Rattle.std.proofs.Common.{drop}
use Rattle.dml_wave.specs.Waves.{AreApart}
use Rattle.dml_wave_tests.proofs.tests.waves.are_apart.Given as goal

abbrev pub invariant-loop-from : goal.invariant-loop-from
invariant-loop-from l = AreApart l.jobs (drop l.from l.wave) → AreApart l.jobs l.wave
