use Rattle.std.proofs.Common.{rules, arith, refl}
use Rattle.std.proofs.lemmas.Slice.{overwrites}
use Rattle.dml_types.proofs.MemoryLemmas.{has_all_at}
use Rattle.dml_segments.proofs.RangeLemmas.{read_more}
use Rattle.dml_image.proofs.tables.Table.read_into.Goals as goal

pub part-part-requires : goal.part-part-requires
part-part-requires c = has_all_at c.args.self.now _ _ _ c.requires.present (omega (arith, c.loop-done.invariant.size))

pub loop-done-preserved : goal.loop-done-preserved
loop-done-preserved c = record {
  within = omega (arith, c.part-part.ensures.length, c.loop-done.invariant.size);
  size = search (rules, overwrites);
  front =
      read_more c.args.self.now c.args.addr c.loop-done.done _ c.loop-done.buffer _ c.part-part.result.now
      c.loop-done.invariant.front c.part-part.ensures.bytes refl (search (rules, overwrites));
}
