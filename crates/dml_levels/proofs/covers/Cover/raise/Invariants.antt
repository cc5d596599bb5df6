use Rattle.std.proofs.Common.{take}
use Rattle.dml_levels.specs.Cells.{IsCovered, IsRaised}
use Rattle.dml_levels.proofs.covers.Cover.raise.Given as goal

abbrev pub invariant-loop-cells : goal.invariant-loop-cells
invariant-loop-cells l = IsRaised l.initial.heights (IsCovered (take l.cells-index l.self)) l.height l.heights
