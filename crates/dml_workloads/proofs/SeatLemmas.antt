-- Lists of seats: written back to where they stood, and of lanes that a round has served.
use Rattle.std.proofs.Common.{◌≡◌, ℕ, ◌<◌, List, ◌++◌, length, take, arith, rules, slice_index_or, subst}
use Rattle.std.proofs.Math.Seq.{take-append_seam}
use Rattle.std.specs.List.{All}
use Rattle.dml_portal.specs.Lanes.{AreSameLanes, IsAcross, IsSameLane, IsSeatOf}
use Rattle.dml_portal.specs.declared.lanes.Lane.{Lane}
use Rattle.dml_portal.specs.declared.seats.Seat.{Seat}

pub put_back : (count : ℕ) (now rest : List Seat) → length now ≡ count → take count (now ++ rest) ≡ now
put_back count now rest same = subst (λ n. take n (now ++ rest) ≡ now) same (take-append_seam now rest)

across_same : (seat : Seat) (lane now : Lane) → IsAcross seat lane → IsSameLane lane now → IsAcross seat now
across_same seat lane now across same = search rules

-- seats of some lanes are seats of the same lanes
pub seats_kept : (lanes now : List Lane) (seats : List Seat) → AreSameLanes lanes now → All (IsSeatOf lanes) seats → All (IsSeatOf now) seats
seats_kept lanes now seats same of place seat within =
    let here : Seat = slice_index_or seats place seat in
    let own : IsSeatOf lanes here = of place seat within in
    let below : here.client < length now = omega (arith, own.0, same.0) in (
      below,
      λ lane.
          let mine : Lane = slice_index_or now here.client lane in
          across_same here (slice_index_or lanes here.client mine) mine (own.1 mine) (same.1 here.client lane below),
    )
