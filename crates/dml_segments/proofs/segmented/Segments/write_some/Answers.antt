use Rattle.std.proofs.Common.{ℕ, ◌≤◌, List, length, take, ap, rules}
use Rattle.std.proofs.lemmas.List.{places}
use Rattle.dml_segments.proofs.SegmentLemmas.{written_here}
use Rattle.dml_segments.proofs.segmented.Segments.write_some.Goals as goal

pub invariant_of-self : goal.invariant_of-self
invariant_of-self c =
    let part = take c.min-count.result c.args.bytes.now in
    let size : length part ≤ c.spot_of-spot.result.room = search (rules, places, c.min-count.ensures) in
    (written_here c.as_slice.result.now c.self.inside.list.items c.args.self.now c.as_slice.ensures.value c.self.invariant c.self.view_is c.spot_of-spot.result c.args.addr c.spot_of-spot.ensures c.index_mut.result.now c.index_mut.ensures.value _ part size
    (ap (λ (bytes : List ℕ). record { first = c.index_mut.result.now.first; bytes = bytes; name = c.index_mut.result.now.content.ghost_name }) c.write_at.ensures)).1

pub returns-clause-written : goal.returns-clause-written
returns-clause-written c =
    let part = take c.min-count.result c.args.bytes.now in
    let size : length part ≤ c.spot_of-spot.result.room = search (rules, places, c.min-count.ensures) in
    (written_here c.as_slice.result.now c.self.inside.list.items c.args.self.now c.as_slice.ensures.value c.self.invariant c.self.view_is c.spot_of-spot.result c.args.addr c.spot_of-spot.ensures c.index_mut.result.now c.index_mut.ensures.value _ part size
    (ap (λ (bytes : List ℕ). record { first = c.index_mut.result.now.first; bytes = bytes; name = c.index_mut.result.now.content.ghost_name }) c.write_at.ensures)).0
