use Rattle.std.proofs.Common.{◌≤◌, max}
use Rattle.dml_levels.specs.Cells.{IsRaised}
use Rattle.dml_levels.proofs.CellLemmas.{Between}
use Rattle.dml_levels.proofs.cells.Cells.raise.Given as goal

abbrev pub invariant-loop-cell : goal.invariant-loop-cell
invariant-loop-cell l = (l.fn.self.first ≤ l.cell) × (l.cell ≤ max l.fn.self.first l.fn.self.end) × (IsRaised l.initial.heights (Between l.fn.self.first l.cell) l.height l.heights)
