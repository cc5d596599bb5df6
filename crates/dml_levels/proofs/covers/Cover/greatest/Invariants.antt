use Rattle.std.proofs.Common.{take}
use Rattle.dml_levels.specs.Cells.{IsCovered, IsGreatest}
use Rattle.dml_levels.proofs.covers.Cover.greatest.Given as goal

abbrev pub invariant-loop-cells : goal.invariant-loop-cells
invariant-loop-cells l = IsGreatest l.heights (IsCovered (take l.cells-index l.self)) l.greatest
