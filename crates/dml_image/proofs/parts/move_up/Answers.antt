use Rattle.std.proofs.Common.{arith, rules}
use Rattle.dml_image.proofs.MoveLemmas.{nothing_moved, part_after, up_kept, up_more}
use Rattle.dml_segments.proofs.RangeLemmas.{range_fits}
use Rattle.dml_image.proofs.parts.move_up.Goals as goal

pub loop-done-init : goal.loop-done-init
loop-done-init g c = record { within = omega arith; moved = nothing_moved _ _ _ }

pub overflow_add-from : goal.overflow_add-from
overflow_add-from g c = search (rules, range_fits _ _ _ _ c.requires.memory c.requires.source c.loop-done-test.true)

pub overflow_add-to : goal.overflow_add-to
overflow_add-to g c = search (rules, range_fits _ _ _ _ c.requires.memory c.requires.target c.loop-done-test.true)

pub copy_behind-part-requires-clause-memory : goal.copy_behind-part-requires-clause-memory
copy_behind-part-requires-clause-memory g c =
    up_kept _ _ c.args.source _ _ _ c.requires.memory c.requires.source c.requires.target c.loop-done.invariant.moved c.loop-done.invariant.within

pub copy_behind-part-requires-clause-from : goal.copy_behind-part-requires-clause-from
copy_behind-part-requires-clause-from g c =
    part_after _ _ _ c.args.source _ _ _ _ c.loop-done.invariant.moved c.requires.source (omega arith) (omega (arith, c.loop-done.invariant.within))

pub copy_behind-part-requires-clause-to : goal.copy_behind-part-requires-clause-to
copy_behind-part-requires-clause-to g c =
    part_after _ _ _ c.args.target _ _ _ _ c.loop-done.invariant.moved c.requires.target (omega arith) (omega (arith, c.loop-done.invariant.within))

pub loop-done-preserved : goal.loop-done-preserved
loop-done-preserved g c = record {
  within = omega (arith, c.copy_behind-part.ensures.most);
  moved =
      up_more (g.P.Parts.held c.args.parts.now) _ _ c.args.source _ _ _ _ c.requires.memory c.requires.source c.requires.target c.requires.order
      c.loop-done.invariant.moved c.copy_behind-part.ensures.some (omega (arith, c.copy_behind-part.ensures.most)) c.copy_behind-part.ensures.copied;
}
