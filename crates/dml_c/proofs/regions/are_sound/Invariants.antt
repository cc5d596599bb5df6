use Rattle.std.proofs.Common.{◌≡◌, ◌%◌, ◌≤◌, drop}
use Rattle.dml_c.specs.Regions.{first_fault, most_end}
use Rattle.dml_c.proofs.regions.are_sound.Given as goal

abbrev pub invariant-loop-region : goal.invariant-loop-region
invariant-loop-region l = record {
  front : l.bits % 4096 ≡ 0 → l.end ≤ most_end
      → first_fault 0 l.regions ≡ first_fault l.end (drop l.region-index l.regions);
  sound : first_fault 0 l.regions ≡ 0 → (l.bits % 4096 ≡ 0) × (l.end ≤ most_end);
}
