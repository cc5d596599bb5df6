use Rattle.std.proofs.Common.{◌≡◌, ◌-◌, ◌++◌, length, All}
use Rattle.dml_order.specs.Waves.{cut, cut_behind, level_places, later_places}
use Rattle.dml_levels.specs.Waves.{fits_wave, IsFilling, IsSmall}
use Rattle.dml_levels.proofs.waving.cut_level.Given as goal

abbrev pub invariant-loop-place : goal.invariant-loop-place
invariant-loop-place l =
    (l.waves.items ++ cut_behind (fits_wave l.jobs l.staging l.chunk) l.filling.room.wave (later_places l.levels l.level l.place (length l.levels - l.place))
    ≡ l.initial.waves.items ++ cut (fits_wave l.jobs l.staging l.chunk) (level_places l.levels l.level))
    × IsFilling l.jobs l.staging l.chunk l.filling × All (IsSmall l.jobs l.staging l.chunk) l.waves.items
