use Rattle.std.proofs.Common.{◌≡◌, sym, ℕ, ◌+◌, ◌-◌, ◌*◌, ◌/◌, get_or, ap, arith, ⊎_elim}
use Rattle.std.proofs.lemmas.Bool.{cases_lt}
use Rattle.dml_levels.proofs.CellLemmas.{sought_found, sought_high, sought_low}
use Rattle.dml_levels.proofs.StartLemmas.{read_at}
use Rattle.dml_levels.proofs.starts.Starts.search.Goals as goal

pub loop-left-preserved : goal.loop-left-preserved
loop-left-preserved c =
    let starts = c.args.self.now in
    let address = c.args.address in
    let first = c.loop-left.first in
    let left = c.loop-left.left in
    let half : ℕ = left - left / 2 in
    let added : ℕ = c.from.result in
    let here : get_or starts (first + half - 1) 0 ≡ c.index.result.now.address =
    read_at starts c.self.inside.list.items (first + half - 1) c.index.result.now (sym c.self.view_is) (omega (arith, c.loop-left.invariant.within)) c.index.ensures in
    ⊎_elim (λ high.
    let none : added ≡ 0 = grind (arith, high, here, c.from.ensures) in
    let next : first + half * added ≡ first + half * 0 = ap (λ n. first + half * n) none in
    sought_high starts address first left half (first + half * added) (left - half) c.requires.sorted c.loop-left.invariant (omega arith) (omega arith) (omega arith) high (omega (arith, next)) (omega arith))
    (λ low.
    let one : added ≡ 1 = grind (arith, low, here, c.from.ensures) in
    let next : first + half * added ≡ first + half * 1 = ap (λ n. first + half * n) one in
    sought_low starts address first left half (first + half * added) (left - half) c.requires.sorted c.loop-left.invariant (omega arith) (omega arith) low (omega (arith, next)) (omega arith))
    (cases_lt address (get_or starts (first + half - 1) 0))

pub returns : goal.returns
returns c = sought_found c.args.self.now c.args.address c.loop-left.first c.loop-left.left c.loop-left.invariant (omega arith)
