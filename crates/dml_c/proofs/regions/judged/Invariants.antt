use Rattle.std.proofs.Common.{◌≡◌, drop}
use Rattle.dml_c.specs.Regions.{first_fault}
use Rattle.dml_c.proofs.regions.judged.Given as goal

abbrev pub invariant-loop-region : goal.invariant-loop-region
invariant-loop-region l = first_fault 0 l.regions ≡ first_fault l.end (drop l.region-index l.regions)
