use Rattle.std.proofs.Common.{◌≡◌, take}
use Rattle.dml_core.specs.Plan.{accepted_places, jobs_of}
use Rattle.dml_core.proofs.planning.accepted_places.Given as goal

abbrev pub invariant-loop-place : goal.invariant-loop-place
invariant-loop-place l = l.accepted.items ≡ accepted_places (jobs_of l.fetched) l.staging (take l.place-index l.places)
