use Rattle.std.proofs.Common.{◌≡◌, drop, fold, map}
use Rattle.dml_levels.specs.Waves.{job_at}
use Rattle.dml_engine.specs.Loads.{load_of, with_job}
use Rattle.dml_engine.proofs.loads.Load.of_wave.Given as goal

abbrev pub invariant-loop-place : goal.invariant-loop-place
invariant-loop-place l =
    fold (with_job l.chunk) l.load (map (job_at l.jobs) (drop l.place-index l.wave))
    ≡ load_of l.chunk (map (job_at l.jobs) l.wave)
