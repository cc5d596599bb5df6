use Rattle.std.proofs.Common.{◌≡◌, take}
use Rattle.dml_core.specs.Plan.{jobs_of, tasks_of}
use Rattle.dml_core.proofs.tasks.tasks_of.Given as goal

abbrev pub invariant-loop-place : goal.invariant-loop-place
invariant-loop-place l = l.tasks.items ≡ tasks_of (jobs_of l.fetched) l.settings.staging l.settings.chunk (take l.place-index l.wave)
