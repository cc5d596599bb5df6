use Rattle.std.proofs.Common.{arith}
use Rattle.dml_scan.proofs.LaneLemmas.{both_repeated}
use Rattle.dml_scan.proofs.lanes.is_repeated_block.Goals as goal

pub returns : goal.returns
returns c =
    let both = both_repeated c.args.bytes.now c.args.repeated c.args.at 256 256 (omega arith) in
    let first = c.repeated_steps.ensures in
    let second = c.repeated_steps-2.ensures in (
      λ full. (let parts = c.both.ensures.0 (c.is_full.ensures.0 full) in both.1 (first.0 parts.0, second.0 parts.1)),
      λ repeats. (let parts = both.0 repeats in c.is_full.ensures.1 (c.both.ensures.1 (first.1 parts.0, second.1 parts.1))),
    )
