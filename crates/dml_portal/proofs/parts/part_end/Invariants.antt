use Rattle.std.proofs.Common.{◌≡◌, ◌+◌, ◌<◌, ◌≤◌, ◌⊎◌}
use Rattle.dml_portal.specs.Parts.{bytes_of}
use Rattle.dml_portal.proofs.parts.part_end.Given as goal

abbrev pub invariant-loop-to : goal.invariant-loop-to
invariant-loop-to l =
    record {
      more : l.from < l.to;
      is : l.bytes ≡ bytes_of l.jobs l.from l.to;
      few : (l.to ≡ l.from + 1) ⊎ (l.bytes ≤ 8388608);
    }
