use Rattle.std.proofs.Common.{sym, arith}
use Rattle.dml_levels.proofs.CellLemmas.{cell_is}
use Rattle.dml_levels.proofs.StartLemmas.{same_count}
use Rattle.dml_levels.proofs.starts.Starts.cell_at.Goals as goal

pub returns-then-precedes : goal.returns-then-precedes
returns-then-precedes c =
    cell_is c.args.self.now c.args.address c.args.likely (omega (arith, c.if-likely-count.true, c.len-count.ensures, same_count c.args.self.now c.self.inside.list.items (sym c.self.view_is)))
    (c.follows.ensures c.if-follows.true) (λ k from below. c.precedes.ensures c.if-precedes.true k (omega (arith, from)) below)
