use Rattle.std.proofs.Common.{◌≡◌, sym, ◌-◌, get_or, arith}
use Rattle.std.proofs.lemmas.Bool.{leb-true}
use Rattle.dml_levels.proofs.StartLemmas.{low_before, read_at}
use Rattle.dml_levels.proofs.starts.Starts.follows.Goals as goal

pub returns-else-place-eq0 : goal.returns-else-place-eq0
returns-else-place-eq0 c = λ low k below.
    let starts = c.args.self.now in
    let place = c.args.place in
    let here : get_or starts (place - 1) 0 ≡ c.index.result.now.address =
    read_at starts c.self.inside.list.items (place - 1) c.index.result.now (sym c.self.view_is) (omega (arith, below, c.requires.within)) c.index.ensures in
    low_before starts c.args.address place c.requires.sorted c.requires.within (omega (arith, here, leb-true c.index.result.now.address c.args.address low)) k below
