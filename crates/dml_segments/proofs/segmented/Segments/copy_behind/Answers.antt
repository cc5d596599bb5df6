use Rattle.std.proofs.Common.{sym, ◌∙◌, ap, subst, arith}
use Rattle.std.proofs.lemmas.List.{with_items_is}
use Rattle.dml_segments.specs.Pieces.{AreInOrder, pieces_memory, pieces_of}
use Rattle.dml_segments.proofs.SegmentLemmas.{copied_here, room_here, spot_here}
use Rattle.dml_segments.proofs.segmented.Segments.copy_behind.Goals as goal

pub invariant_of-self : goal.invariant_of-self
invariant_of-self c =
    let source = c.spot_of-source.result in
    let target = c.spot_of-target.result in
    let n = c.min-count.result in
    let at_source = spot_here c.as_slice.result.now c.self.inside.list.items c.args.self.now c.as_slice.ensures.value c.self.invariant c.self.view_is source c.args.from c.spot_of-source.ensures in
    let at_target = spot_here c.as_slice-2.result.now c.self.inside.list.items c.args.self.now c.as_slice-2.ensures.value c.self.invariant c.self.view_is target c.args.to c.spot_of-target.ensures in
    let same = with_items_is c.self.inside.list c.copy_between.new.list (c.copy_between.auto.list ∙ c.as_mut_slice-list.ensures.len) in
    subst (λ l. AreInOrder 0 (pieces_of l)) (sym same) (copied_here c.as_mut_slice-list.result.now c.self.inside.list.items c.args.self.now c.as_mut_slice-list.ensures.value c.self.invariant c.self.view_is c.copy_between.new.list source.segment source.place target.segment target.place n c.args.from c.args.to
    at_source.below (omega (arith, at_source.room, at_source.some, c.min.ensures, c.min-count.ensures)) (omega (arith, at_source.here, c.min.ensures, c.min-count.ensures, c.at_once.ensures.most))
    at_target.below (omega (arith, at_target.room, at_target.some, c.min.ensures, c.min-count.ensures)) (omega (arith, at_target.here, c.min.ensures, c.min-count.ensures, c.at_once.ensures.most))
    c.copy_between.ensures).1

pub returns-clause-copied : goal.returns-clause-copied
returns-clause-copied c =
    let source = c.spot_of-source.result in
    let target = c.spot_of-target.result in
    let n = c.min-count.result in
    let at_source = spot_here c.as_slice.result.now c.self.inside.list.items c.args.self.now c.as_slice.ensures.value c.self.invariant c.self.view_is source c.args.from c.spot_of-source.ensures in
    let at_target = spot_here c.as_slice-2.result.now c.self.inside.list.items c.args.self.now c.as_slice-2.ensures.value c.self.invariant c.self.view_is target c.args.to c.spot_of-target.ensures in
    let same = with_items_is c.self.inside.list c.copy_between.new.list (c.copy_between.auto.list ∙ c.as_mut_slice-list.ensures.len) in
    ap (λ l. pieces_memory (pieces_of l)) same ∙ (copied_here c.as_mut_slice-list.result.now c.self.inside.list.items c.args.self.now c.as_mut_slice-list.ensures.value c.self.invariant c.self.view_is c.copy_between.new.list source.segment source.place target.segment target.place n c.args.from c.args.to
    at_source.below (omega (arith, at_source.room, at_source.some, c.min.ensures, c.min-count.ensures)) (omega (arith, at_source.here, c.min.ensures, c.min-count.ensures, c.at_once.ensures.most))
    at_target.below (omega (arith, at_target.room, at_target.some, c.min.ensures, c.min-count.ensures)) (omega (arith, at_target.here, c.min.ensures, c.min-count.ensures, c.at_once.ensures.most))
    c.copy_between.ensures).0

pub returns-clause-page : goal.returns-clause-page
returns-clause-page c one =
    let from = room_here c.as_slice.result.now c.self.inside.list.items c.args.self.now c.as_slice.ensures.value c.self.invariant c.self.view_is c.spot_of-source.result c.args.from c.spot_of-source.ensures in
    let to = room_here c.as_slice-2.result.now c.self.inside.list.items c.args.self.now c.as_slice-2.ensures.value c.self.invariant c.self.view_is c.spot_of-target.result c.args.to c.spot_of-target.ensures in
    omega (arith, from, to, c.at_once.ensures.goes one, c.min.ensures, c.min-count.ensures)
