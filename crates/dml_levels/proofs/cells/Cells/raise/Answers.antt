use Rattle.std.proofs.Common.{arith}
use Rattle.dml_levels.proofs.CellLemmas.{raised_all}
use Rattle.dml_levels.proofs.cells.Cells.raise.Goals as goal

pub returns : goal.returns
returns c = raised_all c.args.heights.now c.loop-cell.heights c.args.self c.loop-cell.cell c.args.height c.loop-cell.invariant.2 (omega arith) c.loop-cell.invariant.1
