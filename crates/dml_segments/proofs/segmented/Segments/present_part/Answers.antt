use Rattle.std.proofs.Common.{ℕ, ◌≡◌, ◌+◌, ◌-◌, ◌≤◌, List, Some, length, min, take, drop, sym, ◌∙◌, ap, arith, rules}
use Rattle.std.proofs.lemmas.List.{places}
use Rattle.dml_types.specs.Memory.{bytes_at}
use Rattle.dml_segments.proofs.SegmentLemmas.{has_is, long_here, read_here, room_here}
use Rattle.dml_segments.proofs.segmented.Segments.present_part.Goals as goal

-- the first bytes from a place on
front : (m place : ℕ) (bytes : List ℕ) → place + m ≤ length bytes → take m (take (length bytes - place) (drop place bytes)) ≡ take m (drop place bytes)
front m place bytes within = search (rules, places)

taken : (m place : ℕ) (bytes : List ℕ) → place + m ≤ length bytes → length (take m (drop place bytes)) ≡ m
taken m place bytes within = search (rules, places)

pub slice_bounds-result-end : goal.slice_bounds-result-end
slice_bounds-result-end c =
    let spot = c.in_ok-spot.spot in
    let bytes = c.bytes.result.now in
    let room = room_here c.as_slice.result.now c.self.inside.list.items c.args.self.now c.as_slice.ensures.value c.self.invariant c.self.view_is c.in_ok-spot.spot c.args.addr c.in_ok-spot.ensures.found in
    let long = long_here c.as_slice.result.now c.self.inside.list.items c.args.self.now c.as_slice.ensures.value c.self.invariant c.self.view_is c.in_ok-spot.spot c.args.addr c.in_ok-spot.ensures.found c.index.result.now c.index.ensures in
    let within : spot.place + c.min.result ≤ length bytes = omega (arith, room, long, ap length c.bytes.ensures, c.min.ensures, c.rest_of_page.ensures) in
    sym (ap length (front c.min.result spot.place bytes within) ∙ taken c.min.result spot.place bytes within)

pub returns : goal.returns
returns c =
    let spot = c.in_ok-spot.spot in
    let bytes = c.bytes.result.now in
    let m = c.min.result in
    let segment = c.index.result.now in
    let room = room_here c.as_slice.result.now c.self.inside.list.items c.args.self.now c.as_slice.ensures.value c.self.invariant c.self.view_is c.in_ok-spot.spot c.args.addr c.in_ok-spot.ensures.found in
    let long = long_here c.as_slice.result.now c.self.inside.list.items c.args.self.now c.as_slice.ensures.value c.self.invariant c.self.view_is c.in_ok-spot.spot c.args.addr c.in_ok-spot.ensures.found segment c.index.ensures in
    let short : m ≤ spot.room = omega (arith, room, c.min.ensures, c.rest_of_page.ensures) in
    let within : spot.place + m ≤ length bytes = omega (arith, long, short, ap length c.bytes.ensures) in
    let is = front m spot.place bytes within in
    let size = ap length is ∙ taken m spot.place bytes within in
    record {
      present = sym (has_is c.as_slice.result.now c.self.inside.list.items c.args.self.now c.as_slice.ensures.value c.self.invariant c.self.view_is c.args.addr (Some spot) c.in_ok-spot.ensures.found c.in_ok-spot.ensures.outside);
      content = is ∙ (ap (λ (items : List ℕ). take m (drop spot.place items)) c.bytes.ensures
          ∙ (read_here c.as_slice.result.now c.self.inside.list.items c.args.self.now c.as_slice.ensures.value c.self.invariant c.self.view_is c.in_ok-spot.spot c.args.addr c.in_ok-spot.ensures.found segment c.index.ensures m short ∙ ap (bytes_at c.args.self.now c.args.addr) (sym size)));
      size = size ∙ (c.min.ensures ∙ ap (λ n. min c.args.len n) c.rest_of_page.ensures);
    }
