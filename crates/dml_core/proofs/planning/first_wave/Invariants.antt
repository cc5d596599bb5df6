use Rattle.std.proofs.Common.{◌≡◌, ◌≤◌, take}
use Rattle.dml_core.specs.Plan.{first_wave, jobs_of}
use Rattle.dml_core.proofs.planning.first_wave.Given as goal

abbrev pub invariant-loop-place : goal.invariant-loop-place
invariant-loop-place l =
    (l.list.items ≡ first_wave (jobs_of l.fetched) l.staging (take l.place-index l.places) l.chosen)
    × (l.seen ≤ l.place-index)
