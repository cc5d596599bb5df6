use Rattle.std.proofs.Common.{◌≡◌, ◌-◌, length, take, drop, ap, arith, rules}
use Rattle.std.proofs.lemmas.List.{places}
use Rattle.dml_segments.proofs.SegmentLemmas.{long_here, rest_here, room_here}
use Rattle.dml_segments.proofs.segmented.Segments.rest.Goals as goal

pub returns-clause-bytes : goal.returns-clause-bytes
returns-clause-bytes c = rest_here c.as_slice.result.now c.self.inside.list.items c.args.self.now c.as_slice.ensures.value c.self.invariant c.self.view_is c.spot_of-spot.result c.args.addr c.spot_of-spot.ensures c.index.result.now c.index.ensures c.bytes.result.now c.bytes.ensures

pub returns-clause-room : goal.returns-clause-room
returns-clause-room c =
    let place = c.spot_of-spot.result.place in
    let bytes = c.bytes.result.now in
    let size : length (take (length bytes - place) (drop place bytes)) ≡ length bytes - place = search (rules, places) in
    omega (arith, size, ap length c.bytes.ensures, long_here c.as_slice.result.now c.self.inside.list.items c.args.self.now c.as_slice.ensures.value c.self.invariant c.self.view_is c.spot_of-spot.result c.args.addr c.spot_of-spot.ensures c.index.result.now c.index.ensures, room_here c.as_slice.result.now c.self.inside.list.items c.args.self.now c.as_slice.ensures.value c.self.invariant c.self.view_is c.spot_of-spot.result c.args.addr c.spot_of-spot.ensures)
