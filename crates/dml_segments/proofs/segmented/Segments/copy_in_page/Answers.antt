use Rattle.std.proofs.Common.{length, sym, ◌∙◌, ap, subst, arith, Some}
use Rattle.std.proofs.lemmas.Bool.{and_from}
use Rattle.std.proofs.lemmas.List.{with_items_is}
use Rattle.dml_segments.specs.Pieces.{AreInOrder, piece_at, pieces_memory, pieces_of}
use Rattle.dml_segments.proofs.SegmentLemmas.{below_here, copied_here, has_is, room_here, spot_here}
use Rattle.dml_segments.proofs.segmented.Segments.copy_in_page.Goals as goal

pub copy_between-requires-clause-source : goal.copy_between-requires-clause-source
copy_between-requires-clause-source c =
    let spot = c.in-Some.source in
    let here = spot_here c.as_slice.result.now c.self.inside.list.items c.args.self.now c.as_slice.ensures.value c.self.invariant c.self.view_is c.in-Some.source c.args.from c.in-Some.ensures.found in
    let room = room_here c.as_slice.result.now c.self.inside.list.items c.args.self.now c.as_slice.ensures.value c.self.invariant c.self.view_is c.in-Some.source c.args.from c.in-Some.ensures.found in
    let same = c.as_mut_slice-list.ensures.value in
    (omega (arith, below_here c.as_slice.result.now c.self.inside.list.items c.args.self.now c.as_slice.ensures.value c.self.invariant c.self.view_is c.in-Some.source c.args.from c.in-Some.ensures.found, ap length same), omega (arith, here.room, room, c.requires.within.0, ap (λ l. length (piece_at (pieces_of l) spot.segment).bytes) same))

pub copy_between-requires-clause-target : goal.copy_between-requires-clause-target
copy_between-requires-clause-target c =
    let spot = c.in-Some-find.target in
    let here = spot_here c.as_slice-2.result.now c.self.inside.list.items c.args.self.now c.as_slice-2.ensures.value c.self.invariant c.self.view_is c.in-Some-find.target c.args.to c.in-Some-find.ensures.found in
    let room = room_here c.as_slice-2.result.now c.self.inside.list.items c.args.self.now c.as_slice-2.ensures.value c.self.invariant c.self.view_is c.in-Some-find.target c.args.to c.in-Some-find.ensures.found in
    let same = c.as_mut_slice-list.ensures.value in
    (omega (arith, below_here c.as_slice-2.result.now c.self.inside.list.items c.args.self.now c.as_slice-2.ensures.value c.self.invariant c.self.view_is c.in-Some-find.target c.args.to c.in-Some-find.ensures.found, ap length same), omega (arith, here.room, room, c.requires.within.1, ap (λ l. length (piece_at (pieces_of l) spot.segment).bytes) same))

pub invariant_of-self : goal.invariant_of-self
invariant_of-self c =
    let source = c.in-Some.source in
    let target = c.in-Some-find.target in
    let at_source = spot_here c.as_slice.result.now c.self.inside.list.items c.args.self.now c.as_slice.ensures.value c.self.invariant c.self.view_is c.in-Some.source c.args.from c.in-Some.ensures.found in
    let at_target = spot_here c.as_slice-2.result.now c.self.inside.list.items c.args.self.now c.as_slice-2.ensures.value c.self.invariant c.self.view_is c.in-Some-find.target c.args.to c.in-Some-find.ensures.found in
    let from_room = room_here c.as_slice.result.now c.self.inside.list.items c.args.self.now c.as_slice.ensures.value c.self.invariant c.self.view_is c.in-Some.source c.args.from c.in-Some.ensures.found in
    let to_room = room_here c.as_slice-2.result.now c.self.inside.list.items c.args.self.now c.as_slice-2.ensures.value c.self.invariant c.self.view_is c.in-Some-find.target c.args.to c.in-Some-find.ensures.found in
    let same = with_items_is c.self.inside.list c.copy_between.new.list (c.copy_between.auto.list ∙ c.as_mut_slice-list.ensures.len) in
    subst (λ l. AreInOrder 0 (pieces_of l)) (sym same) (copied_here c.as_mut_slice-list.result.now c.self.inside.list.items c.args.self.now c.as_mut_slice-list.ensures.value c.self.invariant c.self.view_is c.copy_between.new.list source.segment source.place target.segment target.place c.args.len c.args.from c.args.to
    at_source.below (omega (arith, at_source.room, from_room, c.requires.within.0)) at_source.here
    at_target.below (omega (arith, at_target.room, to_room, c.requires.within.1)) at_target.here
    c.copy_between.ensures).1

pub returns-clause-present : goal.returns-clause-present
returns-clause-present c =
    let from = has_is c.as_slice.result.now c.self.inside.list.items c.args.self.now c.as_slice.ensures.value c.self.invariant c.self.view_is c.args.from (Some c.in-Some.source) c.in-Some.ensures.found c.in-Some.ensures.outside in
    let to = has_is c.as_slice-2.result.now c.self.inside.list.items c.args.self.now c.as_slice-2.ensures.value c.self.invariant c.self.view_is c.args.to (Some c.in-Some-find.target) c.in-Some-find.ensures.found c.in-Some-find.ensures.outside in
    sym (and_from _ _ (sym from) (sym to))

pub returns-clause-copied : goal.returns-clause-copied
returns-clause-copied c _done =
    let source = c.in-Some.source in
    let target = c.in-Some-find.target in
    let at_source = spot_here c.as_slice.result.now c.self.inside.list.items c.args.self.now c.as_slice.ensures.value c.self.invariant c.self.view_is c.in-Some.source c.args.from c.in-Some.ensures.found in
    let at_target = spot_here c.as_slice-2.result.now c.self.inside.list.items c.args.self.now c.as_slice-2.ensures.value c.self.invariant c.self.view_is c.in-Some-find.target c.args.to c.in-Some-find.ensures.found in
    let from_room = room_here c.as_slice.result.now c.self.inside.list.items c.args.self.now c.as_slice.ensures.value c.self.invariant c.self.view_is c.in-Some.source c.args.from c.in-Some.ensures.found in
    let to_room = room_here c.as_slice-2.result.now c.self.inside.list.items c.args.self.now c.as_slice-2.ensures.value c.self.invariant c.self.view_is c.in-Some-find.target c.args.to c.in-Some-find.ensures.found in
    let same = with_items_is c.self.inside.list c.copy_between.new.list (c.copy_between.auto.list ∙ c.as_mut_slice-list.ensures.len) in
    ap (λ l. pieces_memory (pieces_of l)) same ∙ (copied_here c.as_mut_slice-list.result.now c.self.inside.list.items c.args.self.now c.as_mut_slice-list.ensures.value c.self.invariant c.self.view_is c.copy_between.new.list source.segment source.place target.segment target.place c.args.len c.args.from c.args.to
    at_source.below (omega (arith, at_source.room, from_room, c.requires.within.0)) at_source.here
    at_target.below (omega (arith, at_target.room, to_room, c.requires.within.1)) at_target.here
    c.copy_between.ensures).0
