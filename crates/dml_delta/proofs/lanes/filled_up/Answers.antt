use Rattle.std.proofs.Common.{ℕ, ◌++◌, List, length, ap₂}
use Rattle.dml_delta.proofs.LaneLemmas.{zeros_left}
use Rattle.dml_delta.proofs.lanes.filled_up.Goals as goal

pub returns : goal.returns
returns c = ap₂ (λ (xs ys : List ℕ). xs ++ ys) c.copy_from_slice.ensures.after (zeros_left 64 (length c.args.blocks.now) c.requires)
