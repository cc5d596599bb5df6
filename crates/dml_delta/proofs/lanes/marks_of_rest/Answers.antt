use Rattle.std.proofs.Common.{ℕ, ◌-◌, ◌++◌, List, replicate, sym, ◌∙◌, ap, ap₂, length}
use Rattle.dml_delta.specs.Entries.{nth_differs}
use Rattle.dml_delta.proofs.LaneLemmas.{differs_filled}
use Rattle.dml_delta.proofs.lanes.marks_of_rest.Goals as goal

pub returns : goal.returns
returns c =
    λ i.
    let one = c.args.one.now in
    let other = c.args.other.now in
    c.marks_of_group.ensures i
    ∙ (ap₂ (λ (a b : List ℕ). nth_differs a b i) c.filled_up.ensures c.filled_up-2.ensures
    ∙ (ap (λ (n : ℕ). nth_differs (one ++ replicate (64 - length one) 0) (other ++ replicate (64 - n) 0) i) c.requires.lengths
    ∙ differs_filled one other (replicate (64 - length one) 0) i (sym c.requires.lengths) c.requires.whole))
