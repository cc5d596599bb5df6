use Rattle.std.proofs.Common.{arith}
use Rattle.dml_levels.proofs.CellLemmas.{cell_within}
use Rattle.dml_levels.proofs.starts.Starts.end_at.Goals as goal

pub overflow_add-result : goal.overflow_add-result
overflow_add-result c = omega (arith, c.search.ensures, c.part_from-first.ensures.few, cell_within c.args.self.now c.args.address)
