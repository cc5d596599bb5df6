use Rattle.std.proofs.Common.{ℕ, List, ap, arith}
use Rattle.dml_types.specs.Bytewise.{pattern_bytes}
use Rattle.dml_segments.proofs.PatternLemmas.{length_pattern_bytes}
use Rattle.dml_segments.proofs.SegmentLemmas.{written_here}
use Rattle.dml_segments.proofs.segmented.Segments.fill_some.Goals as goal

pub invariant_of-self : goal.invariant_of-self
invariant_of-self c =
    (written_here c.as_slice.result.now c.self.inside.list.items c.args.self.now c.as_slice.ensures.value c.self.invariant c.self.view_is c.spot_of-spot.result c.args.addr c.spot_of-spot.ensures c.index_mut.result.now c.index_mut.ensures.value _ (pattern_bytes c.args.pattern c.whole_words-count.result)
    (omega (arith, length_pattern_bytes c.args.pattern c.whole_words-count.result, c.whole_words-count.ensures.room))
    (ap (λ (bytes : List ℕ). record { first = c.index_mut.result.now.first; bytes = bytes; name = c.index_mut.result.now.content.ghost_name }) c.fill_at.ensures)).1

pub returns-clause-filled : goal.returns-clause-filled
returns-clause-filled c =
    (written_here c.as_slice.result.now c.self.inside.list.items c.args.self.now c.as_slice.ensures.value c.self.invariant c.self.view_is c.spot_of-spot.result c.args.addr c.spot_of-spot.ensures c.index_mut.result.now c.index_mut.ensures.value _ (pattern_bytes c.args.pattern c.whole_words-count.result)
    (omega (arith, length_pattern_bytes c.args.pattern c.whole_words-count.result, c.whole_words-count.ensures.room))
    (ap (λ (bytes : List ℕ). record { first = c.index_mut.result.now.first; bytes = bytes; name = c.index_mut.result.now.content.ghost_name }) c.fill_at.ensures)).0
