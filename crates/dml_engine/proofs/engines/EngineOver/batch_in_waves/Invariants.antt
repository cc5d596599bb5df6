use Rattle.std.proofs.Common.{◌≡◌, map, take}
use Rattle.dml_types.specs.Job.{unfenced}
use Rattle.dml_order.specs.Order.{run_all}
use Rattle.dml_order.specs.Waves.{joined}
use Rattle.dml_levels.specs.Laws.{begun, carried}
use Rattle.dml_engine.specs.Lists.{AreOpened}
use Rattle.dml_engine.proofs.FenceWalks.{Reached}
use Rattle.dml_engine.proofs.engines.EngineOver.batch_in_waves.Given as goal

abbrev pub invariant-loop-wave : goal.invariant-loop-wave
invariant-loop-wave g l =
    let staging = l.initial.self.settings.staging in
    let free = map unfenced l.jobs in
    let done = joined (take l.wave-index l.wave-items) in
    (begun l.self.image l.records ≡ run_all (carried free staging) (begun l.initial.self.image l.initial.records) done)
    × Reached l.initial.self.image l.jobs staging l.fence done
    × AreOpened free staging l.records
    × (l.self.settings ≡ l.initial.self.settings)
    × (l.self.watched ≡ l.initial.self.watched)
