use Rattle.std.proofs.Common.{arith, inl}
use Rattle.dml_segments.proofs.SegmentLemmas.{begins_before, begins_behind}
use Rattle.dml_segments.proofs.segments.nearest.Goals as goal

pub loop-high-preserved-then-start-addr : goal.loop-high-preserved-then-start-addr
loop-high-preserved-then-start-addr c =
    let low = begins_before c.args.list.now _ c.args.addr c.index-list-middle.result c.requires (omega (arith, c.loop-high.invariant.within, c.loop-high-test.true)) c.index-list-middle.is
    (omega (arith, c.if-start-addr.true, c.start.ensures)) in
    record {
      order = inl (omega (arith, c.loop-high-test.true));
      within = c.loop-high.invariant.within;
      before = λ k front. low k (omega arith);
      begins = λ _. low _ (omega arith);
      behind = c.loop-high.invariant.behind;
    }

pub loop-high-preserved : goal.loop-high-preserved
loop-high-preserved c = record {
  order = inl (omega (arith, c.loop-high-test.true));
  within = omega (arith, c.loop-high.invariant.within);
  before = c.loop-high.invariant.before;
  begins = c.loop-high.invariant.begins;
  behind =
      begins_behind c.args.list.now _ c.args.addr c.index-list-middle.result c.requires (omega (arith, c.loop-high.invariant.within, c.loop-high-test.true)) c.index-list-middle.is
      (omega (arith, c.if-start-addr.false, c.start.ensures));
}
