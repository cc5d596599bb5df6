use Rattle.std.proofs.Common.{◌∙◌}
use Rattle.dml_segments.proofs.SegmentLemmas.{has_is}
use Rattle.dml_segments.proofs.segmented.Segments.has.Goals as goal

pub returns : goal.returns
returns c =
    c.is_some.ensures
    ∙ has_is c.as_slice.result.now c.self.inside.list.items c.args.self.now c.as_slice.ensures.value c.self.invariant c.self.view_is c.args.addr c.find.result c.find.ensures.found c.find.ensures.outside
