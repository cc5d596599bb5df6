use Rattle.dml_scan.proofs.LaneLemmas.{both_alike}
use Rattle.dml_scan.proofs.lanes.is_equal_block.Goals as goal

pub returns : goal.returns
returns c =
    let both = both_alike c.args.a.now c.args.b.now c.args.at 256 256 in
    let first = c.alike_steps.ensures in
    let second = c.alike_steps-2.ensures in (
      λ full. (let parts = c.both.ensures.0 (c.is_full.ensures.0 full) in both.1 (first.0 parts.0, second.0 parts.1)),
      λ alike. (let parts = both.0 alike in c.is_full.ensures.1 (c.both.ensures.1 (first.1 parts.0, second.1 parts.1))),
    )
