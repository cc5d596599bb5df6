use Rattle.std.proofs.Common.{◌≡◌, sym, get_or, arith}
use Rattle.std.proofs.lemmas.Bool.{ltb-true}
use Rattle.dml_levels.proofs.StartLemmas.{high_from, read_at}
use Rattle.dml_levels.proofs.starts.Starts.precedes.Goals as goal

pub returns-else-place-len : goal.returns-else-place-len
returns-else-place-len c = λ high k from below.
    let starts = c.args.self.now in
    let place = c.args.place in
    let here : get_or starts place 0 ≡ c.index.result.now.address =
    read_at starts c.self.inside.list.items place c.index.result.now (sym c.self.view_is) (omega (arith, from, below)) c.index.ensures in
    high_from starts c.args.address place c.requires.sorted (omega (arith, here, ltb-true c.args.address c.index.result.now.address high)) k from below
