use Rattle.std.proofs.Common.{ℕ, ◌-◌, List, refl, ap, arith}
use Rattle.dml_segments.specs.Blocks.{block_puts_from}
use Rattle.dml_segments.proofs.SegmentLemmas.{blocks_here, end_fits}
use Rattle.dml_segments.proofs.segmented.Segments.put_in_segment.Goals as goal

pub put_inside-requires-clause-end : goal.put_inside-requires-clause-end
put_inside-requires-clause-end c =
    omega (
      arith,
      end_fits c.as_slice.result.now c.self.inside.list.items c.args.self.now c.as_slice.ensures.value c.self.invariant c.self.view_is c.spot_of-spot.result c.args.addr c.spot_of-spot.ensures c.index_mut.result.now c.index_mut.ensures.value,
      c.requires.memory.whole.each_page,
      c.requires.memory.most_pages,
    )

pub invariant_of-self : goal.invariant_of-self
invariant_of-self c =
    (blocks_here c.as_slice.result.now c.self.inside.list.items c.args.self.now c.as_slice.ensures.value c.self.invariant c.self.view_is c.spot_of-spot.result c.args.addr c.spot_of-spot.ensures c.index_mut.result.now c.index_mut.ensures.value (c.args.addr - c.spot_of-spot.result.place) _ (block_puts_from c.args.target c.args.entries.now c.args.first (c.put_inside.result - c.args.first)) refl
    c.put_inside.ensures.inside
    (ap (λ (bytes : List ℕ). record { first = c.index_mut.result.now.first; bytes = bytes; name = c.index_mut.result.now.content.ghost_name }) c.put_inside.ensures.bytes)).1

pub returns-clause-made : goal.returns-clause-made
returns-clause-made c =
    (blocks_here c.as_slice.result.now c.self.inside.list.items c.args.self.now c.as_slice.ensures.value c.self.invariant c.self.view_is c.spot_of-spot.result c.args.addr c.spot_of-spot.ensures c.index_mut.result.now c.index_mut.ensures.value (c.args.addr - c.spot_of-spot.result.place) _ (block_puts_from c.args.target c.args.entries.now c.args.first (c.put_inside.result - c.args.first)) refl
    c.put_inside.ensures.inside
    (ap (λ (bytes : List ℕ). record { first = c.index_mut.result.now.first; bytes = bytes; name = c.index_mut.result.now.content.ghost_name }) c.put_inside.ensures.bytes)).0
