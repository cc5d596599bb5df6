use Rattle.std.proofs.Common.{◌≡◌, false, take}
use Rattle.std.specs.List.{All}
use Rattle.dml_types.specs.Conflict.{conflict}
use Rattle.dml_levels.specs.Waves.{job_at}
use Rattle.dml_wave_tests.proofs.tests.waves.is_clear.Given as goal

abbrev pub invariant-loop-place : goal.invariant-loop-place
invariant-loop-place l =
    All (λ k. conflict l.job (job_at l.jobs k) ≡ false) (take l.place-index l.places)
