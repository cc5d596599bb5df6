use Rattle.std.proofs.Common.{◌≤◌, length, sym, ◌∙◌, ap, subst, arith, Some}
use Rattle.std.proofs.lemmas.Bool.{and_from}
use Rattle.std.proofs.lemmas.List.{with_items_is}
use Rattle.dml_segments.specs.Pieces.{AreInOrder, piece_at, pieces_memory, pieces_of}
use Rattle.dml_segments.proofs.SegmentLemmas.{below_here, copied_twice, has_is, room_here, second_stays, source_stays, spot_here}
use Rattle.dml_segments.proofs.segmented.Segments.copy_twice_in_page.Goals as goal

pub copy_between-requires-clause-source : goal.copy_between-requires-clause-source
copy_between-requires-clause-source c =
    let spot = c.in-Some-find.source in
    let here = spot_here c.as_slice-2.result.now c.self.inside.list.items c.args.self.now c.as_slice-2.ensures.value c.self.invariant c.self.view_is c.in-Some-find.source c.args.from c.in-Some-find.ensures.found in
    let room = room_here c.as_slice-2.result.now c.self.inside.list.items c.args.self.now c.as_slice-2.ensures.value c.self.invariant c.self.view_is c.in-Some-find.source c.args.from c.in-Some-find.ensures.found in
    let same = c.as_mut_slice-list.ensures.value in
    (omega (arith, below_here c.as_slice-2.result.now c.self.inside.list.items c.args.self.now c.as_slice-2.ensures.value c.self.invariant c.self.view_is c.in-Some-find.source c.args.from c.in-Some-find.ensures.found, ap length same), omega (arith, here.room, room, c.requires.within.0, ap (λ l. length (piece_at (pieces_of l) spot.segment).bytes) same))

pub copy_between-requires-clause-target : goal.copy_between-requires-clause-target
copy_between-requires-clause-target c =
    let spot = c.in-Some-find-2.target in
    let here = spot_here c.as_slice-3.result.now c.self.inside.list.items c.args.self.now c.as_slice-3.ensures.value c.self.invariant c.self.view_is c.in-Some-find-2.target c.args.first c.in-Some-find-2.ensures.found in
    let room = room_here c.as_slice-3.result.now c.self.inside.list.items c.args.self.now c.as_slice-3.ensures.value c.self.invariant c.self.view_is c.in-Some-find-2.target c.args.first c.in-Some-find-2.ensures.found in
    let same = c.as_mut_slice-list.ensures.value in
    (omega (arith, below_here c.as_slice-3.result.now c.self.inside.list.items c.args.self.now c.as_slice-3.ensures.value c.self.invariant c.self.view_is c.in-Some-find-2.target c.args.first c.in-Some-find-2.ensures.found, ap length same), omega (arith, here.room, room, c.requires.within.1, ap (λ l. length (piece_at (pieces_of l) spot.segment).bytes) same))

pub copy_between-requires-2-clause-source : goal.copy_between-requires-2-clause-source
copy_between-requires-2-clause-source c =
    let source = c.in-Some-find.source in
    let first = c.in-Some-find-2.target in
    let second = c.in-Some.other in
    let at_source = spot_here c.as_slice-2.result.now c.self.inside.list.items c.args.self.now c.as_slice-2.ensures.value c.self.invariant c.self.view_is c.in-Some-find.source c.args.from c.in-Some-find.ensures.found in
    let at_first = spot_here c.as_slice-3.result.now c.self.inside.list.items c.args.self.now c.as_slice-3.ensures.value c.self.invariant c.self.view_is c.in-Some-find-2.target c.args.first c.in-Some-find-2.ensures.found in
    let at_second = spot_here c.as_slice.result.now c.self.inside.list.items c.args.self.now c.as_slice.ensures.value c.self.invariant c.self.view_is c.in-Some.other c.args.second c.in-Some.ensures.found in
    let source_room : c.args.len ≤ source.room = omega (arith, room_here c.as_slice-2.result.now c.self.inside.list.items c.args.self.now c.as_slice-2.ensures.value c.self.invariant c.self.view_is c.in-Some-find.source c.args.from c.in-Some-find.ensures.found, c.requires.within.0) in
    let first_room : c.args.len ≤ first.room = omega (arith, room_here c.as_slice-3.result.now c.self.inside.list.items c.args.self.now c.as_slice-3.ensures.value c.self.invariant c.self.view_is c.in-Some-find-2.target c.args.first c.in-Some-find-2.ensures.found, c.requires.within.1) in
    let second_room : c.args.len ≤ second.room = omega (arith, room_here c.as_slice.result.now c.self.inside.list.items c.args.self.now c.as_slice.ensures.value c.self.invariant c.self.view_is c.in-Some.other c.args.second c.in-Some.ensures.found, c.requires.within.2) in
    source_stays c.as_mut_slice-list.result.now c.self.inside.list.items c.copy_between.new.list c.args.self.now c.as_mut_slice-list.ensures.value c.self.invariant c.self.view_is source first second c.args.from c.args.first c.args.second c.args.len at_source at_first at_second source_room first_room second_room c.copy_between.ensures

pub copy_between-requires-2-clause-target : goal.copy_between-requires-2-clause-target
copy_between-requires-2-clause-target c =
    let source = c.in-Some-find.source in
    let first = c.in-Some-find-2.target in
    let second = c.in-Some.other in
    let at_source = spot_here c.as_slice-2.result.now c.self.inside.list.items c.args.self.now c.as_slice-2.ensures.value c.self.invariant c.self.view_is c.in-Some-find.source c.args.from c.in-Some-find.ensures.found in
    let at_first = spot_here c.as_slice-3.result.now c.self.inside.list.items c.args.self.now c.as_slice-3.ensures.value c.self.invariant c.self.view_is c.in-Some-find-2.target c.args.first c.in-Some-find-2.ensures.found in
    let at_second = spot_here c.as_slice.result.now c.self.inside.list.items c.args.self.now c.as_slice.ensures.value c.self.invariant c.self.view_is c.in-Some.other c.args.second c.in-Some.ensures.found in
    let source_room : c.args.len ≤ source.room = omega (arith, room_here c.as_slice-2.result.now c.self.inside.list.items c.args.self.now c.as_slice-2.ensures.value c.self.invariant c.self.view_is c.in-Some-find.source c.args.from c.in-Some-find.ensures.found, c.requires.within.0) in
    let first_room : c.args.len ≤ first.room = omega (arith, room_here c.as_slice-3.result.now c.self.inside.list.items c.args.self.now c.as_slice-3.ensures.value c.self.invariant c.self.view_is c.in-Some-find-2.target c.args.first c.in-Some-find-2.ensures.found, c.requires.within.1) in
    let second_room : c.args.len ≤ second.room = omega (arith, room_here c.as_slice.result.now c.self.inside.list.items c.args.self.now c.as_slice.ensures.value c.self.invariant c.self.view_is c.in-Some.other c.args.second c.in-Some.ensures.found, c.requires.within.2) in
    second_stays c.as_mut_slice-list.result.now c.self.inside.list.items c.copy_between.new.list c.args.self.now c.as_mut_slice-list.ensures.value c.self.invariant c.self.view_is source first second c.args.from c.args.first c.args.second c.args.len at_source at_first at_second source_room first_room second_room c.copy_between.ensures

pub invariant_of-self : goal.invariant_of-self
invariant_of-self c =
    let source = c.in-Some-find.source in
    let first = c.in-Some-find-2.target in
    let second = c.in-Some.other in
    let at_source = spot_here c.as_slice-2.result.now c.self.inside.list.items c.args.self.now c.as_slice-2.ensures.value c.self.invariant c.self.view_is c.in-Some-find.source c.args.from c.in-Some-find.ensures.found in
    let at_first = spot_here c.as_slice-3.result.now c.self.inside.list.items c.args.self.now c.as_slice-3.ensures.value c.self.invariant c.self.view_is c.in-Some-find-2.target c.args.first c.in-Some-find-2.ensures.found in
    let at_second = spot_here c.as_slice.result.now c.self.inside.list.items c.args.self.now c.as_slice.ensures.value c.self.invariant c.self.view_is c.in-Some.other c.args.second c.in-Some.ensures.found in
    let source_room : c.args.len ≤ source.room = omega (arith, room_here c.as_slice-2.result.now c.self.inside.list.items c.args.self.now c.as_slice-2.ensures.value c.self.invariant c.self.view_is c.in-Some-find.source c.args.from c.in-Some-find.ensures.found, c.requires.within.0) in
    let first_room : c.args.len ≤ first.room = omega (arith, room_here c.as_slice-3.result.now c.self.inside.list.items c.args.self.now c.as_slice-3.ensures.value c.self.invariant c.self.view_is c.in-Some-find-2.target c.args.first c.in-Some-find-2.ensures.found, c.requires.within.1) in
    let second_room : c.args.len ≤ second.room = omega (arith, room_here c.as_slice.result.now c.self.inside.list.items c.args.self.now c.as_slice.ensures.value c.self.invariant c.self.view_is c.in-Some.other c.args.second c.in-Some.ensures.found, c.requires.within.2) in
    let same = with_items_is c.self.inside.list c.copy_between-2.new.list (c.copy_between-2.auto.list ∙ (c.copy_between.auto.list ∙ c.as_mut_slice-list.ensures.len)) in
    subst (λ l. AreInOrder 0 (pieces_of l)) (sym same) (copied_twice c.as_mut_slice-list.result.now c.self.inside.list.items c.copy_between.new.list c.args.self.now c.as_mut_slice-list.ensures.value c.self.invariant c.self.view_is source first second c.args.from c.args.first c.args.second c.args.len at_source at_first at_second source_room first_room second_room c.copy_between.ensures c.copy_between-2.new.list c.copy_between-2.ensures).1

pub returns-clause-present : goal.returns-clause-present
returns-clause-present c =
    let second = has_is c.as_slice.result.now c.self.inside.list.items c.args.self.now c.as_slice.ensures.value c.self.invariant c.self.view_is c.args.second (Some c.in-Some.other) c.in-Some.ensures.found c.in-Some.ensures.outside in
    let from = has_is c.as_slice-2.result.now c.self.inside.list.items c.args.self.now c.as_slice-2.ensures.value c.self.invariant c.self.view_is c.args.from (Some c.in-Some-find.source) c.in-Some-find.ensures.found c.in-Some-find.ensures.outside in
    let first = has_is c.as_slice-3.result.now c.self.inside.list.items c.args.self.now c.as_slice-3.ensures.value c.self.invariant c.self.view_is c.args.first (Some c.in-Some-find-2.target) c.in-Some-find-2.ensures.found c.in-Some-find-2.ensures.outside in
    sym (and_from _ _ (sym second) (and_from _ _ (sym from) (sym first)))

pub returns-clause-copied : goal.returns-clause-copied
returns-clause-copied c _done =
    let source = c.in-Some-find.source in
    let first = c.in-Some-find-2.target in
    let second = c.in-Some.other in
    let at_source = spot_here c.as_slice-2.result.now c.self.inside.list.items c.args.self.now c.as_slice-2.ensures.value c.self.invariant c.self.view_is c.in-Some-find.source c.args.from c.in-Some-find.ensures.found in
    let at_first = spot_here c.as_slice-3.result.now c.self.inside.list.items c.args.self.now c.as_slice-3.ensures.value c.self.invariant c.self.view_is c.in-Some-find-2.target c.args.first c.in-Some-find-2.ensures.found in
    let at_second = spot_here c.as_slice.result.now c.self.inside.list.items c.args.self.now c.as_slice.ensures.value c.self.invariant c.self.view_is c.in-Some.other c.args.second c.in-Some.ensures.found in
    let source_room : c.args.len ≤ source.room = omega (arith, room_here c.as_slice-2.result.now c.self.inside.list.items c.args.self.now c.as_slice-2.ensures.value c.self.invariant c.self.view_is c.in-Some-find.source c.args.from c.in-Some-find.ensures.found, c.requires.within.0) in
    let first_room : c.args.len ≤ first.room = omega (arith, room_here c.as_slice-3.result.now c.self.inside.list.items c.args.self.now c.as_slice-3.ensures.value c.self.invariant c.self.view_is c.in-Some-find-2.target c.args.first c.in-Some-find-2.ensures.found, c.requires.within.1) in
    let second_room : c.args.len ≤ second.room = omega (arith, room_here c.as_slice.result.now c.self.inside.list.items c.args.self.now c.as_slice.ensures.value c.self.invariant c.self.view_is c.in-Some.other c.args.second c.in-Some.ensures.found, c.requires.within.2) in
    let same = with_items_is c.self.inside.list c.copy_between-2.new.list (c.copy_between-2.auto.list ∙ (c.copy_between.auto.list ∙ c.as_mut_slice-list.ensures.len)) in
    ap (λ l. pieces_memory (pieces_of l)) same ∙ (copied_twice c.as_mut_slice-list.result.now c.self.inside.list.items c.copy_between.new.list c.args.self.now c.as_mut_slice-list.ensures.value c.self.invariant c.self.view_is source first second c.args.from c.args.first c.args.second c.args.len at_source at_first at_second source_room first_room second_room c.copy_between.ensures c.copy_between-2.new.list c.copy_between-2.ensures).0
