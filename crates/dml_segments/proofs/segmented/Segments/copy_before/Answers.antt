use Rattle.std.proofs.Common.{◌+◌, ◌-◌, sym, ◌∙◌, ap, subst, arith}
use Rattle.std.proofs.lemmas.List.{with_items_is}
use Rattle.dml_segments.specs.Pieces.{AreInOrder, pieces_memory, pieces_of}
use Rattle.dml_segments.proofs.SegmentLemmas.{copied_here, spot_here}
use Rattle.dml_segments.proofs.segmented.Segments.copy_before.Goals as goal

pub invariant_of-self : goal.invariant_of-self
invariant_of-self c =
    let source = c.spot_of-source.result in
    let target = c.spot_of-target.result in
    let n = c.min-count.result in
    let at_source = spot_here c.as_slice.result.now c.self.inside.list.items c.args.self.now c.as_slice.ensures.value c.self.invariant c.self.view_is source (c.args.from - 1) c.spot_of-source.ensures in
    let at_target = spot_here c.as_slice-2.result.now c.self.inside.list.items c.args.self.now c.as_slice-2.ensures.value c.self.invariant c.self.view_is target (c.args.to - 1) c.spot_of-target.ensures in
    let same = with_items_is c.self.inside.list c.copy_between.new.list (c.copy_between.auto.list ∙ c.as_mut_slice-list.ensures.len) in
    subst (λ l. AreInOrder 0 (pieces_of l)) (sym same) (copied_here c.as_mut_slice-list.result.now c.self.inside.list.items c.args.self.now c.as_mut_slice-list.ensures.value c.self.invariant c.self.view_is c.copy_between.new.list source.segment (source.place + 1 - n) target.segment (target.place + 1 - n) n (c.args.from - n) (c.args.to - n)
    at_source.below (omega (arith, at_source.room, at_source.some, c.min.ensures, c.min-count.ensures)) (omega (arith, at_source.here, c.min.ensures, c.min-count.ensures, c.at_once.ensures.most, c.requires.within.0))
    at_target.below (omega (arith, at_target.room, at_target.some, c.min.ensures, c.min-count.ensures)) (omega (arith, at_target.here, c.min.ensures, c.min-count.ensures, c.at_once.ensures.most, c.requires.within.1))
    c.copy_between.ensures).1

pub returns-clause-copied : goal.returns-clause-copied
returns-clause-copied c =
    let source = c.spot_of-source.result in
    let target = c.spot_of-target.result in
    let n = c.min-count.result in
    let at_source = spot_here c.as_slice.result.now c.self.inside.list.items c.args.self.now c.as_slice.ensures.value c.self.invariant c.self.view_is source (c.args.from - 1) c.spot_of-source.ensures in
    let at_target = spot_here c.as_slice-2.result.now c.self.inside.list.items c.args.self.now c.as_slice-2.ensures.value c.self.invariant c.self.view_is target (c.args.to - 1) c.spot_of-target.ensures in
    let same = with_items_is c.self.inside.list c.copy_between.new.list (c.copy_between.auto.list ∙ c.as_mut_slice-list.ensures.len) in
    ap (λ l. pieces_memory (pieces_of l)) same ∙ (copied_here c.as_mut_slice-list.result.now c.self.inside.list.items c.args.self.now c.as_mut_slice-list.ensures.value c.self.invariant c.self.view_is c.copy_between.new.list source.segment (source.place + 1 - n) target.segment (target.place + 1 - n) n (c.args.from - n) (c.args.to - n)
    at_source.below (omega (arith, at_source.room, at_source.some, c.min.ensures, c.min-count.ensures)) (omega (arith, at_source.here, c.min.ensures, c.min-count.ensures, c.at_once.ensures.most, c.requires.within.0))
    at_target.below (omega (arith, at_target.room, at_target.some, c.min.ensures, c.min-count.ensures)) (omega (arith, at_target.here, c.min.ensures, c.min-count.ensures, c.at_once.ensures.most, c.requires.within.1))
    c.copy_between.ensures).0

pub returns-clause-page : goal.returns-clause-page
returns-clause-page c one =
    let from = spot_here c.as_slice.result.now c.self.inside.list.items c.args.self.now c.as_slice.ensures.value c.self.invariant c.self.view_is c.spot_of-source.result (c.args.from - 1) c.spot_of-source.ensures in
    let to = spot_here c.as_slice-2.result.now c.self.inside.list.items c.args.self.now c.as_slice-2.ensures.value c.self.invariant c.self.view_is c.spot_of-target.result (c.args.to - 1) c.spot_of-target.ensures in
    omega (arith, from.here, to.here, c.at_once.ensures.goes one, c.min.ensures, c.min-count.ensures)
