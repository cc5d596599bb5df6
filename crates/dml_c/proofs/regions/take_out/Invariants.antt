use Rattle.std.proofs.Common.{◌≡◌, ℕ, ◌≤◌, get_or, length, take, vec_capacity}
use Rattle.dml_c.specs.declared.regions.CRegion.{CRegion}
use Rattle.dml_image.specs.Pieces.{pieces_of}
use Rattle.dml_c.specs.Regions.{pieces_of_regions}
use Rattle.dml_c.proofs.regions.take_out.Given as goal

abbrev pub invariant-loop-k : goal.invariant-loop-k
invariant-loop-k l = record {
  taken : pieces_of l.list.items ≡ pieces_of_regions (take l.k l.fn.regions);
  rest : (j : ℕ) (default : CRegion) → l.k ≤ j → get_or l.regions j default ≡ get_or l.fn.regions j default;
  addresses : (j : ℕ) (default : CRegion) → (get_or l.regions j default).address ≡ (get_or l.fn.regions j default).address;
  size : length l.regions ≡ length l.fn.regions;
  count : length l.list.items ≡ l.k;
  room : vec_capacity l.list ≡ vec_capacity l.fn.list;
}
