use Rattle.std.proofs.Common.{◌-◌, refl, ap, arith}
use Rattle.dml_segments.proofs.SegmentLemmas.{before_near, behind_near, in_near}
use Rattle.dml_segments.proofs.segments.find.Goals as goal

pub returns-then-addr-start-clause-outside : goal.returns-then-addr-start-clause-outside
returns-then-addr-start-clause-outside c = λ _.
    before_near c.args.list.now c.args.addr c.nearest-segment.result c.requires c.in_ok-here.ensures.lookup.3.0 c.nearest-segment.ensures.begins c.nearest-segment.ensures.behind c.in_ok-here.here.now c.in_ok-here.ensures.lookup.1
    (omega (arith, c.if-addr-start.true, c.start-start.ensures))

pub returns-then-place-len-clause-outside : goal.returns-then-place-len-clause-outside
returns-then-place-len-clause-outside c = λ _.
    behind_near c.args.list.now c.args.addr c.nearest-segment.result c.requires c.in_ok-here.ensures.lookup.3.0 c.nearest-segment.ensures.begins c.nearest-segment.ensures.behind c.in_ok-here.here.now c.in_ok-here.ensures.lookup.1
    (omega (arith, c.if-addr-start.false, c.start-start.ensures, c.if-place-len.true))

pub returns-clause-found : goal.returns-clause-found
returns-clause-found c =
    in_near c.args.list.now c.args.addr c.nearest-segment.result c.requires c.in_ok-here.ensures.lookup.3.0 c.nearest-segment.ensures.begins c.nearest-segment.ensures.behind c.in_ok-here.here.now c.in_ok-here.ensures.lookup.1 _ _
    (omega (arith, c.if-addr-start.false, c.start-start.ensures)) (ap (λ n. c.args.addr - n) c.start-start.ensures) refl c.if-place-len.false
