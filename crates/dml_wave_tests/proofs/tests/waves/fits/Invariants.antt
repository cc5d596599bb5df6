use Rattle.std.proofs.Common.{◌≡◌, ◌≤◌, ◌+◌, drop}
use Rattle.dml_levels.specs.Waves.{needs_of, tasks_of}
use Rattle.dml_wave_tests.proofs.tests.waves.fits.Given as goal

abbrev pub invariant-loop-place : goal.invariant-loop-place
invariant-loop-place l =
    record {
      needs : l.needs + needs_of l.jobs (drop l.place-index l.wave) ≡ needs_of l.jobs l.wave;
      tasks : l.tasks + tasks_of l.jobs l.settings.chunk (drop l.place-index l.wave) ≡ tasks_of l.jobs l.settings.chunk l.wave;
      within_staging : l.needs ≤ l.settings.staging;
      within_tasks : l.tasks ≤ 131072;
    }
