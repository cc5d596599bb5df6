use Rattle.std.proofs.Common.{◌≡◌, length}
use Rattle.dml_levels.specs.Laws.{begun}
use Rattle.dml_engine.proofs.IdleLemmas.{Remaining}
use Rattle.dml_engine.proofs.engines.EngineOver.carry_out_places.Given as goal

abbrev pub invariant-loop-place : goal.invariant-loop-place
invariant-loop-place g l =
    let staging = l.initial.self.settings.staging in
    (Remaining l.jobs staging l.places (begun l.self.image l.records) l.place-index
    ≡ Remaining l.jobs staging l.places (begun l.initial.self.image l.initial.records) 0)
    × (length l.records ≡ length l.jobs)
    × (l.self.settings ≡ l.initial.self.settings)
    × (l.self.watched ≡ l.initial.self.watched)
