use Rattle.std.proofs.Common.{◌+◌, ◌-◌, ◌/◌, length, ◌∙◌, ap₂, arith}
use Rattle.dml_segments.proofs.SegmentLemmas.{end_here}
use Rattle.dml_segments.proofs.segmented.Segments.pages.Goals as goal

pub returns : goal.returns
returns c =
    ap₂ (λ first bytes. first + length bytes / 4096) c.first.ensures c.bytes.ensures
    ∙ end_here c.self.inside.list.items c.args.self.now (c.len-count.result - 1) c.index-last.result.now c.self.invariant c.self.view_is
    (omega (arith, c.len-count.ensures, c.if-count-eq0.false)) c.index-last.ensures
