use Rattle.std.proofs.Common.{arith}
use Rattle.dml_scan.proofs.LaneLemmas.{alike_more, slices_alike}
use Rattle.dml_scan.proofs.lanes.first_difference.Goals as goal

pub loop-at-preserved : goal.loop-at-preserved
loop-at-preserved c = record {
  within = omega (arith, c.loop-at-test.true, c.loop-at.invariant.within);
  alike = alike_more c.args.a.now c.args.b.now c.loop-at.at 512 c.loop-at.invariant.alike (c.is_equal_block.ensures.0 c.if-is_equal_block.true);
}

pub returns-then-at-a-clause-value : goal.returns-then-at-a-clause-value
returns-then-at-a-clause-value c =
    slices_alike c.args.a.now c.args.b.now c.loop-at.at (omega (arith, c.if-at-a.true)) c.loop-at.invariant.alike
