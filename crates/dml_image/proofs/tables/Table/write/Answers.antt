use Rattle.std.proofs.Common.{rules, arith, sym}
use Rattle.dml_types.proofs.MemoryLemmas.{put_nil}
use Rattle.dml_segments.proofs.RangeLemmas.{next_present, range_fits, write_more}
use Rattle.dml_image.proofs.tables.Table.write.Goals as goal

pub loop-done-init : goal.loop-done-init
loop-done-init c = record { within = omega arith; written = sym (put_nil _ _) }

pub overflow_add-place : goal.overflow_add-place
overflow_add-place c = search (rules, range_fits _ _ _ _ c.requires.memory c.requires.present c.loop-done-test.true)

pub write_part-requires-clause-present : goal.write_part-requires-clause-present
write_part-requires-clause-present c =
    next_present _ _ _ _ _ _ c.loop-done.invariant.written c.requires.present c.loop-done-test.true

pub loop-done-preserved : goal.loop-done-preserved
loop-done-preserved c = record {
  within = omega (arith, c.min.ensures);
  written =
      write_more _ _ _ _ c.loop-done.done _ c.args.bytes.now c.requires.memory c.requires.present
      c.loop-done.invariant.written (omega (arith, c.min.ensures, c.rest_of_page.ensures)) (omega (arith, c.min.ensures)) c.write_part.ensures;
}
