use Rattle.std.proofs.Common.{◌≡◌, ℕ, zero, suc, ◌*◌, ◌≤◌, Bool, true, false, List, [], ◌∷◌, Some, length, get_or, set, refl, sym, ◌∙◌, ap, arith}
use Rattle.dml_types.specs.Memory.{put}
use Rattle.dml_segments.proofs.SegmentLemmas.{has_is, long_here, room_here, written_here}
use Rattle.dml_segments.proofs.segmented.Segments.bring.Goals as goal

pub write_at-requires : goal.write_at-requires
write_at-requires c =
    let room = room_here c.as_slice.result.now c.self.inside.list.items c.args.self.now c.as_slice.ensures.value c.self.invariant c.self.view_is c.in-Some.spot (4096 * c.args.page) c.in-Some.ensures.found in
    let long = long_here c.as_slice.result.now c.self.inside.list.items c.args.self.now c.as_slice.ensures.value c.self.invariant c.self.view_is c.in-Some.spot (4096 * c.args.page) c.in-Some.ensures.found c.index_mut.result.now c.index_mut.ensures.value in
    omega (arith, room, long, c.fits-bytes)

pub invariant_of-self : goal.invariant_of-self
invariant_of-self c =
    let room = room_here c.as_slice.result.now c.self.inside.list.items c.args.self.now c.as_slice.ensures.value c.self.invariant c.self.view_is c.in-Some.spot (4096 * c.args.page) c.in-Some.ensures.found in
    let size : length c.args.bytes.now ≤ c.in-Some.spot.room = omega (arith, room, c.fits-bytes) in
    (written_here c.as_slice.result.now c.self.inside.list.items c.args.self.now c.as_slice.ensures.value c.self.invariant c.self.view_is c.in-Some.spot (4096 * c.args.page) c.in-Some.ensures.found c.index_mut.result.now c.index_mut.ensures.value _ c.args.bytes.now size
    (ap (λ (bytes : List ℕ). record { first = c.index_mut.result.now.first; bytes = bytes; name = c.index_mut.result.now.content.ghost_name }) c.write_at.ensures)).1

-- a page that is present is marked already
marked : (marks : List Bool) (k : ℕ) → get_or marks k false ≡ true → set marks k true ≡ marks
marked [] k is = refl
marked (mark ∷ marks) zero is = ap (λ (m : Bool). m ∷ marks) (sym is)
marked (mark ∷ marks) (suc k) is = ap (λ (rest : List Bool). mark ∷ rest) (marked marks k is)

pub returns-clause-ok : goal.returns-clause-ok
returns-clause-ok c =
    let memory = c.args.self.now in
    let room = room_here c.as_slice.result.now c.self.inside.list.items c.args.self.now c.as_slice.ensures.value c.self.invariant c.self.view_is c.in-Some.spot (4096 * c.args.page) c.in-Some.ensures.found in
    let size : length c.args.bytes.now ≤ c.in-Some.spot.room = omega (arith, room, c.fits-bytes) in
    let here : get_or memory.present c.args.page false ≡ true =
    ap (λ n. get_or memory.present n false) (omega arith)
    ∙ sym (has_is c.as_slice.result.now c.self.inside.list.items memory c.as_slice.ensures.value c.self.invariant c.self.view_is (4096 * c.args.page) (Some c.in-Some.spot) c.in-Some.ensures.found c.in-Some.ensures.outside) in
    (written_here c.as_slice.result.now c.self.inside.list.items memory c.as_slice.ensures.value c.self.invariant c.self.view_is c.in-Some.spot (4096 * c.args.page) c.in-Some.ensures.found c.index_mut.result.now c.index_mut.ensures.value _ c.args.bytes.now size
    (ap (λ (bytes : List ℕ). record { first = c.index_mut.result.now.first; bytes = bytes; name = c.index_mut.result.now.content.ghost_name }) c.write_at.ensures)).0
    ∙ ap (λ (marks : List Bool). put (record memory { present = marks }) (4096 * c.args.page) c.args.bytes.now) (sym (marked memory.present c.args.page here))

pub returns-clause-hole : goal.returns-clause-hole
returns-clause-hole c absent =
    let memory = c.args.self.now in
    let here : get_or memory.present c.args.page false ≡ true =
    ap (λ n. get_or memory.present n false) (omega arith)
    ∙ sym (has_is c.as_slice.result.now c.self.inside.list.items memory c.as_slice.ensures.value c.self.invariant c.self.view_is (4096 * c.args.page) (Some c.in-Some.spot) c.in-Some.ensures.found c.in-Some.ensures.outside) in
    sym absent ∙ here
