use Rattle.std.proofs.Common.{◌≡◌, ◌+◌, ◌^◌, ◌<◌, drop}
use Rattle.std.specs.List.{sum_by}
use Rattle.dml_engine.specs.Loads.{brought, capped}
use Rattle.dml_engine.proofs.loads.brought_by_levels.Given as goal

abbrev pub invariant-loop-shared : goal.invariant-loop-shared
invariant-loop-shared l =
    record {
      fits : l.all < 2 ^ 64;
      brought : capped (l.all + sum_by brought (drop l.shared-index l.shared-items)) ≡ capped (sum_by brought l.shared-items);
    }
