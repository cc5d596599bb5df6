use Rattle.std.proofs.Common.{◌≡◌, ◌+◌, ◌<◌, take}
use Rattle.dml_engine.specs.Loads.{shareable}
use Rattle.dml_engine.proofs.loads.may_pay.Given as goal

abbrev pub invariant-loop-job : goal.invariant-loop-job
invariant-loop-job l = (0 < l.left) × (l.left + shareable (take l.job-index l.jobs) ≡ 1572864)
