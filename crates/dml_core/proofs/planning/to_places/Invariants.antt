use Rattle.std.proofs.Common.{◌≡◌, map, take}
use Rattle.std.specs.Prelude.{slice_index}
use Rattle.dml_core.proofs.planning.to_places.Given as goal

abbrev pub invariant-loop-wave : goal.invariant-loop-wave
invariant-loop-wave l = l.plan.items ≡ map (map (slice_index l.places)) (take l.wave-index l.waves)
