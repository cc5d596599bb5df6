use Rattle.std.proofs.Common.{ℕ, ◌≤◌, List, Some, length, ap, arith}
use Rattle.dml_types.specs.Bytewise.{pattern_bytes}
use Rattle.dml_segments.proofs.PatternLemmas.{length_pattern_bytes}
use Rattle.dml_segments.proofs.SegmentLemmas.{has_is, long_here, room_here, written_here}
use Rattle.dml_segments.proofs.segmented.Segments.fill_in_page.Goals as goal

pub fill_at-requires : goal.fill_at-requires
fill_at-requires c =
    let room = room_here c.as_slice.result.now c.self.inside.list.items c.args.self.now c.as_slice.ensures.value c.self.invariant c.self.view_is c.in-Some.spot c.args.addr c.in-Some.ensures.found in
    let long = long_here c.as_slice.result.now c.self.inside.list.items c.args.self.now c.as_slice.ensures.value c.self.invariant c.self.view_is c.in-Some.spot c.args.addr c.in-Some.ensures.found c.index_mut.result.now c.index_mut.ensures.value in
    omega (arith, room, long, c.requires)

pub invariant_of-self : goal.invariant_of-self
invariant_of-self c =
    let room = room_here c.as_slice.result.now c.self.inside.list.items c.args.self.now c.as_slice.ensures.value c.self.invariant c.self.view_is c.in-Some.spot c.args.addr c.in-Some.ensures.found in
    let size : length (pattern_bytes c.args.pattern c.args.len) ≤ c.in-Some.spot.room = omega (arith, length_pattern_bytes c.args.pattern c.args.len, room, c.requires) in
    (written_here c.as_slice.result.now c.self.inside.list.items c.args.self.now c.as_slice.ensures.value c.self.invariant c.self.view_is c.in-Some.spot c.args.addr c.in-Some.ensures.found c.index_mut.result.now c.index_mut.ensures.value _ (pattern_bytes c.args.pattern c.args.len) size
    (ap (λ (bytes : List ℕ). record { first = c.index_mut.result.now.first; bytes = bytes; name = c.index_mut.result.now.content.ghost_name }) c.fill_at.ensures)).1

pub returns-clause-present : goal.returns-clause-present
returns-clause-present c =
    has_is c.as_slice.result.now c.self.inside.list.items c.args.self.now c.as_slice.ensures.value c.self.invariant c.self.view_is c.args.addr (Some c.in-Some.spot) c.in-Some.ensures.found c.in-Some.ensures.outside

pub returns-clause-filled : goal.returns-clause-filled
returns-clause-filled c _done =
    let room = room_here c.as_slice.result.now c.self.inside.list.items c.args.self.now c.as_slice.ensures.value c.self.invariant c.self.view_is c.in-Some.spot c.args.addr c.in-Some.ensures.found in
    let size : length (pattern_bytes c.args.pattern c.args.len) ≤ c.in-Some.spot.room = omega (arith, length_pattern_bytes c.args.pattern c.args.len, room, c.requires) in
    (written_here c.as_slice.result.now c.self.inside.list.items c.args.self.now c.as_slice.ensures.value c.self.invariant c.self.view_is c.in-Some.spot c.args.addr c.in-Some.ensures.found c.index_mut.result.now c.index_mut.ensures.value _ (pattern_bytes c.args.pattern c.args.len) size
    (ap (λ (bytes : List ℕ). record { first = c.index_mut.result.now.first; bytes = bytes; name = c.index_mut.result.now.content.ghost_name }) c.fill_at.ensures)).0
