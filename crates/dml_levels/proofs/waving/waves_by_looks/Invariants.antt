use Rattle.std.proofs.Common.{◌≡◌, All}
use Rattle.dml_order.specs.Waves.{higher_waves}
use Rattle.dml_levels.specs.Waves.{fits_wave, IsSmall, IsUnfilled}
use Rattle.dml_levels.proofs.waving.waves_by_looks.Given as goal

abbrev pub invariant-loop-level : goal.invariant-loop-level
invariant-loop-level l =
    (l.waves.items ≡ higher_waves (fits_wave l.jobs l.staging l.chunk) l.levels 0 l.level) × All (IsSmall l.jobs l.staging l.chunk) l.waves.items × IsUnfilled l.filling
