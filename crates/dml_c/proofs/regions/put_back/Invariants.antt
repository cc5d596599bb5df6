use Rattle.std.proofs.Common.{◌≡◌, ℕ, ◌*◌, ◌<◌, ◌≤◌, get_or, length, take}
use Rattle.dml_c.specs.declared.regions.CRegion.{CRegion}
use Rattle.dml_segments.specs.declared.segments.Segment.{Segment}
use Rattle.dml_image.specs.Pieces.{piece_of}
use Rattle.dml_c.specs.Regions.{piece_of_region}
use Rattle.dml_c.proofs.regions.put_back.Given as goal

abbrev pub invariant-loop-k : goal.invariant-loop-k
invariant-loop-k l = record {
  within : l.k ≤ length l.fn.list.items;
  size : length l.regions ≡ length l.fn.list.items;
  front : l.list.items ≡ take l.k l.fn.list.items;
  back : (j : ℕ) (region : CRegion) (segment : Segment) → l.k ≤ j → j < length l.fn.list.items → piece_of_region (get_or l.regions j region) ≡ piece_of (get_or l.fn.list.items j segment);
  places : (j : ℕ) (region : CRegion) (segment : Segment) → j < length l.fn.list.items → (get_or l.regions j region).address ≡ 4096 * (get_or l.fn.list.items j segment).first;
}

abbrev pub decreases-loop-k : goal.decreases-loop-k
decreases-loop-k l = l.k
