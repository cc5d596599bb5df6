use Rattle.std.proofs.Common.{◌≡◌, ◌+◌, ◌-◌, arith, rules, ap, ap₂, ◌∙◌}
use Rattle.dml_types.specs.Memory.{bytes_at, put}
use Rattle.dml_image.proofs.MoveLemmas.{down_kept, down_more, down_start, part_after}
use Rattle.dml_segments.proofs.RangeLemmas.{range_fits}
use Rattle.dml_image.proofs.parts.move_down.Goals as goal

pub loop-left-init : goal.loop-left-init
loop-left-init g c = record { within = omega arith; moved = down_start _ _ _ _ }

pub overflow_add-source : goal.overflow_add-source
overflow_add-source g c = search (rules, range_fits _ _ _ 0 c.requires.memory c.requires.source (omega arith))

pub overflow_add-target : goal.overflow_add-target
overflow_add-target g c = search (rules, range_fits _ _ _ 0 c.requires.memory c.requires.target (omega arith))

pub copy_before-part-requires-clause-memory : goal.copy_before-part-requires-clause-memory
copy_before-part-requires-clause-memory g c =
    down_kept _ _ c.args.source _ _ _ c.requires.memory c.requires.source c.requires.target c.loop-left.invariant.moved c.loop-left.invariant.within

pub copy_before-part-requires-clause-from : goal.copy_before-part-requires-clause-from
copy_before-part-requires-clause-from g c =
    part_after _ _ _ c.args.source _ _ _ _ c.loop-left.invariant.moved c.requires.source (omega arith) (omega (arith, c.loop-left.invariant.within))

pub copy_before-part-requires-clause-to : goal.copy_before-part-requires-clause-to
copy_before-part-requires-clause-to g c =
    part_after _ _ _ c.args.target _ _ _ _ c.loop-left.invariant.moved c.requires.target (omega arith) (omega (arith, c.loop-left.invariant.within))

pub loop-left-preserved : goal.loop-left-preserved
loop-left-preserved g c =
    let left = c.loop-left.left in
    let part = c.copy_before-part.result in
    let both : left ≡ left - part + part = omega (arith, c.copy_before-part.ensures.most) in
    let from : c.args.source + left - part ≡ c.args.source + (left - part) = omega (arith, c.copy_before-part.ensures.most) in
    let to : c.args.target + left - part ≡ c.args.target + (left - part) = omega (arith, c.copy_before-part.ensures.most) in
    record {
      within = omega (arith, c.copy_before-part.ensures.most);
      moved =
          down_more (g.P.Parts.held c.args.parts.now) _ _ c.args.source _ _ _ _ c.requires.memory c.requires.source c.requires.target c.requires.order
          (c.loop-left.invariant.moved
          ∙ ap (λ n. put (g.P.Parts.held c.args.parts.now) (c.args.target + n) (bytes_at (g.P.Parts.held c.args.parts.now) (c.args.source + n) (c.args.len - n))) both)
          c.copy_before-part.ensures.some (omega (arith, c.copy_before-part.ensures.most))
          (c.copy_before-part.ensures.copied
          ∙ ap₂ (λ a b. put (g.P.Parts.held c.loop-left.parts) b (bytes_at (g.P.Parts.held c.loop-left.parts) a part)) from to);
    }
