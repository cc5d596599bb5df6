use Rattle.std.proofs.Common.{arith}
use Rattle.dml_levels.proofs.CellLemmas.{greatest_all}
use Rattle.dml_levels.proofs.cells.Cells.greatest.Goals as goal

pub returns : goal.returns
returns c = greatest_all c.args.heights.now c.args.self c.loop-cell.cell c.loop-cell.greatest c.loop-cell.invariant.2 (omega arith) c.loop-cell.invariant.1
