use Rattle.std.proofs.Common.{◌≡◌, drop}
use Rattle.dml_order.specs.Order.{run_all}
use Rattle.dml_order.specs.Waves.{joined}
use Rattle.dml_levels.specs.Laws.{begun, carried}
use Rattle.dml_engine.specs.Lists.{AreOpened}
use Rattle.dml_engine.proofs.engines.EngineOver.in_waves.Given as goal

abbrev pub invariant-loop-wave : goal.invariant-loop-wave
invariant-loop-wave g l =
    let staging = l.initial.self.settings.staging in
    let after = carried l.jobs staging in
    (run_all after (begun l.self.image l.records) (joined (drop l.wave-index l.wave-items))
    ≡ run_all after (begun l.initial.self.image l.initial.records) (joined l.wave-items))
    × AreOpened l.jobs staging l.records
    × (l.self.settings ≡ l.initial.self.settings)
    × (l.self.watched ≡ l.initial.self.watched)
