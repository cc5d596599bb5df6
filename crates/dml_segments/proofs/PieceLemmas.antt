-- Memory in pieces: where the bytes of a piece stand, which pages are present, and what a write to a piece changes.
use Rattle.std.proofs.Common.{◌≡◌, ℕ, zero, suc, ◌+◌, ◌-◌, ◌*◌, ◌/◌, ◌%◌, ◌<◌, ◌≤◌, Bool, true, false, List, [], ◌∷◌, ◌++◌, None, length, map, get_or, replicate, set, take, drop, rules, refl, sym, ◌∙◌, ap, ap₂, subst, arith, ⊎_elim}
use Rattle.std.proofs.lemmas.List.{places, same_lists, length-replicate, length-set, get_or-set_same}
use Rattle.std.proofs.lemmas.Bool.{cases_lt, false≢true}
use Rattle.dml_types.specs.Memory.{Memory, IsMemory, InSegments, Place, Put, has, bytes_at, overwrite, put, puts_made}
use Rattle.dml_types.proofs.MemoryLemmas.{length_overwrite}
use Rattle.dml_segments.specs.Blocks.{after_puts, AreInside}
use Rattle.dml_segments.specs.declared.segments.Spot.{Spot}
use Rattle.dml_segments.specs.Pieces.{Piece, AreInOrder, AreSegments, IsAt, IsIn, bytes_from, end_of, marks_from, no_piece, over, pages_of, piece_at, pieces_memory, place_of, written}
use Rattle.dml_segments.proofs.JoinLemmas.{overwrite_back, overwrite_front, same_back, same_front}

-- each page has its bytes
pub length_pieces : (from : ℕ) (pieces : List Piece) → AreInOrder from pieces → length (bytes_from from pieces) ≡ 4096 * length (marks_from from pieces)
length_pieces from [] order = refl
length_pieces from (piece ∷ pieces) order =
    let rest = length_pieces (end_of piece) pieces order.2 in
    search (rules, places, order.1, rest)

-- pieces come in their order, and apart
pub first_low : (from : ℕ) (pieces : List Piece) (k : ℕ) (d : Piece) → AreInOrder from pieces → k < length pieces → from ≤ (get_or pieces k d).first
first_low from [] k d order below = absurd (omega arith)
first_low from (piece ∷ pieces) zero d order below = order.0
first_low from (piece ∷ pieces) (suc k) d order below =
    omega (arith, order.0, first_low (end_of piece) pieces k d order.2 (omega arith))

pub end_low : (from : ℕ) (pieces : List Piece) (j k : ℕ) (d : Piece) → AreInOrder from pieces → j < k → k < length pieces → end_of (get_or pieces j d) ≤ (get_or pieces k d).first
end_low from [] j k d order apart below = absurd (omega arith)
end_low from (piece ∷ pieces) j zero d order apart below = absurd (omega arith)
end_low from (piece ∷ pieces) zero (suc k) d order apart below = first_low (end_of piece) pieces k d order.2 (omega arith)
end_low from (piece ∷ pieces) (suc j) (suc k) d order apart below = end_low (end_of piece) pieces j k d order.2 (omega arith) (omega arith)

pub first_rises : (from : ℕ) (pieces : List Piece) (j k : ℕ) (d : Piece) → AreInOrder from pieces → j ≤ k → k < length pieces → (get_or pieces j d).first ≤ (get_or pieces k d).first
first_rises from pieces j k d order low below =
    ⊎_elim (λ apart. omega (arith, end_low from pieces j k d order apart below))
    (λ same.
    let is : j ≡ k = omega arith in
    omega (arith, ap (λ i. (get_or pieces i d).first) is))
    (cases_lt j k)

pub whole_piece : (from : ℕ) (pieces : List Piece) (k : ℕ) (d : Piece) → AreInOrder from pieces → k < length pieces → length (get_or pieces k d).bytes % 4096 ≡ 0
whole_piece from [] k d order below = absurd (omega arith)
whole_piece from (piece ∷ pieces) zero d order below = order.1
whole_piece from (piece ∷ pieces) (suc k) d order below = whole_piece (end_of piece) pieces k d order.2 (omega arith)

abbrev gap : ℕ → Piece → List ℕ
gap from piece = replicate (4096 * (piece.first - from)) 0

gap_long : (from : ℕ) (piece : Piece) → length (gap from piece) ≡ 4096 * (piece.first - from)
gap_long from piece = length-replicate (4096 * (piece.first - from)) 0

-- the bytes of a piece stand at its place
pub read_pieces : (from : ℕ) (pieces : List Piece) (k s n : ℕ) (d : Piece) → AreInOrder from pieces → k < length pieces → s + n ≤ length (get_or pieces k d).bytes → take n (drop (4096 * ((get_or pieces k d).first - from) + s) (bytes_from from pieces)) ≡ take n (drop s (get_or pieces k d).bytes)
read_pieces from [] k s n d order below within = absurd (omega arith)
read_pieces from (piece ∷ pieces) zero s n d order below within =
    let rest = bytes_from (end_of piece) pieces in
    same_back (gap from piece) (piece.bytes ++ rest) (4096 * (piece.first - from)) _ s n (gap_long from piece) refl
    ∙ same_front piece.bytes rest s s n refl within
read_pieces from (piece ∷ pieces) (suc k) s n d order below within =
    let rest = bytes_from (end_of piece) pieces in
    let low = first_low (end_of piece) pieces k d order.2 (omega arith) in
    let place = 4096 * ((get_or pieces k d).first - end_of piece) + s in
    same_back (gap from piece) (piece.bytes ++ rest) (4096 * (piece.first - from)) _ (length piece.bytes + place) n (gap_long from piece) (omega (arith, order.0, order.1, low))
    ∙ (same_back piece.bytes rest (length piece.bytes) _ place n refl refl
    ∙ read_pieces (end_of piece) pieces k s n d order.2 (omega arith) within)

-- and lie within all bytes
pub within_pieces : (from : ℕ) (pieces : List Piece) (k : ℕ) (d : Piece) → AreInOrder from pieces → k < length pieces → 4096 * ((get_or pieces k d).first - from) + length (get_or pieces k d).bytes ≤ length (bytes_from from pieces)
within_pieces from [] k d order below = absurd (omega arith)
within_pieces from (piece ∷ pieces) zero d order below = search (rules, places)
within_pieces from (piece ∷ pieces) (suc k) d order below =
    let low = first_low (end_of piece) pieces k d order.2 (omega arith) in
    let rest = within_pieces (end_of piece) pieces k d order.2 (omega arith) in
    let all : length (bytes_from from (piece ∷ pieces)) ≡ 4096 * (piece.first - from) + (length piece.bytes + length (bytes_from (end_of piece) pieces)) = search (rules, places) in
    omega (arith, low, rest, all, order.0, order.1)

-- a piece that was written over: its pages, the bytes of all, and what stays
same_pages : (piece : Piece) (s : ℕ) (new : List ℕ) → s + length new ≤ length piece.bytes → pages_of (over piece s new) ≡ pages_of piece
same_pages piece s new within = ap (λ n. n / 4096) (length_overwrite piece.bytes s new within)

pub write_pieces : (from : ℕ) (pieces : List Piece) (k s : ℕ) (d : Piece) (new : List ℕ) → AreInOrder from pieces → k < length pieces → s + length new ≤ length (get_or pieces k d).bytes → bytes_from from (set pieces k (over (get_or pieces k d) s new)) ≡ overwrite (bytes_from from pieces) (4096 * ((get_or pieces k d).first - from) + s) new
write_pieces from [] k s d new order below within = absurd (omega arith)
write_pieces from (piece ∷ pieces) zero s d new order below within =
    let rest = bytes_from (end_of piece) pieces in
    ap (λ n. gap from piece ++ (overwrite piece.bytes s new ++ bytes_from (piece.first + n) pieces)) (same_pages piece s new within)
    ∙ (ap (λ bytes. gap from piece ++ bytes) (overwrite_front piece.bytes rest new s within)
    ∙ overwrite_back (gap from piece) (piece.bytes ++ rest) new (4096 * (piece.first - from)) s (gap_long from piece) (search (rules, places)))
write_pieces from (piece ∷ pieces) (suc k) s d new order below within =
    let rest = bytes_from (end_of piece) pieces in
    let low = first_low (end_of piece) pieces k d order.2 (omega arith) in
    let place = 4096 * ((get_or pieces k d).first - end_of piece) + s in
    let inside = within_pieces (end_of piece) pieces k d order.2 (omega arith) in
    let fits : place + length new ≤ length rest = omega (arith, inside, within) in
    let both : length (piece.bytes ++ rest) ≡ length piece.bytes + length rest = search (rules, places) in
    ap (λ bytes. gap from piece ++ (piece.bytes ++ bytes)) (write_pieces (end_of piece) pieces k s d new order.2 (omega arith) within)
    ∙ (ap (λ bytes. gap from piece ++ bytes) (overwrite_back piece.bytes rest new (length piece.bytes) place refl fits)
    ∙ (overwrite_back (gap from piece) (piece.bytes ++ rest) new (4096 * (piece.first - from)) (length piece.bytes + place) (gap_long from piece) (omega (arith, fits, both))
    ∙ ap (λ at. overwrite (bytes_from from (piece ∷ pieces)) at new) (omega (arith, order.0, order.1, low))))

same_marks : (from : ℕ) (pieces : List Piece) (k s : ℕ) (d : Piece) (new : List ℕ) → k < length pieces → s + length new ≤ length (get_or pieces k d).bytes → marks_from from (set pieces k (over (get_or pieces k d) s new)) ≡ marks_from from pieces
same_marks from [] k s d new below within = absurd (omega arith)
same_marks from (piece ∷ pieces) zero s d new below within =
    ap (λ n. replicate (piece.first - from) false ++ (replicate n true ++ marks_from (piece.first + n) pieces)) (same_pages piece s new within)
same_marks from (piece ∷ pieces) (suc k) s d new below within =
    ap (λ marks. replicate (piece.first - from) false ++ (replicate (pages_of piece) true ++ marks)) (same_marks (end_of piece) pieces k s d new (omega arith) within)

same_places : (pieces : List Piece) (k s : ℕ) (d : Piece) (new : List ℕ) → k < length pieces → s + length new ≤ length (get_or pieces k d).bytes → map place_of (set pieces k (over (get_or pieces k d) s new)) ≡ map place_of pieces
same_places [] k s d new below within = absurd (omega arith)
same_places (piece ∷ pieces) zero s d new below within =
    ap (λ (n : ℕ). record { first = piece.first; pages = n; name = piece.name } ∷ map place_of pieces) (same_pages piece s new within)
same_places (piece ∷ pieces) (suc k) s d new below within =
    ap (λ (places : List Place). place_of piece ∷ places) (same_places pieces k s d new (omega arith) within)

same_order : (from : ℕ) (pieces : List Piece) (k s : ℕ) (d : Piece) (new : List ℕ) → AreInOrder from pieces → k < length pieces → s + length new ≤ length (get_or pieces k d).bytes → AreInOrder from (set pieces k (over (get_or pieces k d) s new))
same_order from [] k s d new order below within = absurd (omega arith)
same_order from (piece ∷ pieces) zero s d new order below within =
    (order.0, ap (λ n. n % 4096) (length_overwrite piece.bytes s new within) ∙ order.1, subst (λ n. AreInOrder (piece.first + n) pieces) (sym (same_pages piece s new within)) order.2)
same_order from (piece ∷ pieces) (suc k) s d new order below within =
    (order.0, order.1, same_order (end_of piece) pieces k s d new order.2 (omega arith) within)

-- marks behind a gap and a piece
mark_in_gap : (g n i : ℕ) (rest : List Bool) → i < g → get_or (replicate g false ++ (replicate n true ++ rest)) i false ≡ false
mark_in_gap g n i rest low = search (rules, places)

mark_in_piece : (g n i : ℕ) (rest : List Bool) → g ≤ i → i < g + n → get_or (replicate g false ++ (replicate n true ++ rest)) i false ≡ true
mark_in_piece g n i rest low high = search (rules, places)

mark_behind : (g n i : ℕ) (rest : List Bool) → g + n ≤ i → get_or (replicate g false ++ (replicate n true ++ rest)) i false ≡ get_or rest (i - g - n) false
mark_behind g n i rest low = search (rules, places)

byte_in_gap : (g i : ℕ) (rest : List ℕ) → i < g → get_or (replicate g 0 ++ rest) i 0 ≡ 0
byte_in_gap g i rest low = search (rules, places)

byte_behind : (g i : ℕ) (bytes rest : List ℕ) → g + length bytes ≤ i → get_or (replicate g 0 ++ (bytes ++ rest)) i 0 ≡ get_or rest (i - g - length bytes) 0
byte_behind g i bytes rest low = search (rules, places)

-- which pages are present
mark_in : (from : ℕ) (pieces : List Piece) (k : ℕ) (d : Piece) (address : ℕ) → AreInOrder from pieces → k < length pieces → IsIn (get_or pieces k d) address → get_or (marks_from from pieces) (address / 4096 - from) false ≡ true
mark_in from [] k d address order below inside = absurd (omega arith)
mark_in from (piece ∷ pieces) zero d address order below inside =
    mark_in_piece (piece.first - from) (pages_of piece) (address / 4096 - from) (marks_from (end_of piece) pieces)
    (omega (arith, inside.0)) (omega (arith, inside.0, inside.1, order.0, order.1))
mark_in from (piece ∷ pieces) (suc k) d address order below inside =
    let first = first_low (end_of piece) pieces k d order.2 (omega arith) in
    let at : address / 4096 - from - (piece.first - from) - pages_of piece ≡ address / 4096 - end_of piece = omega (arith, order.0) in
    mark_behind (piece.first - from) (pages_of piece) (address / 4096 - from) (marks_from (end_of piece) pieces) (omega (arith, inside.0, first, order.0))
    ∙ (ap (λ i. get_or (marks_from (end_of piece) pieces) i false) at
    ∙ mark_in (end_of piece) pieces k d address order.2 (omega arith) inside)

mark_out : (from : ℕ) (pieces : List Piece) (d : Piece) (address : ℕ) → AreInOrder from pieces → from ≤ address / 4096 → ((k : ℕ) → k < length pieces → IsIn (get_or pieces k d) address → ⊥) → get_or (marks_from from pieces) (address / 4096 - from) false ≡ false
mark_out from [] d address order low none = refl
mark_out from (piece ∷ pieces) d address order low none =
    let rest = marks_from (end_of piece) pieces in
    ⊎_elim
    (λ before. mark_in_gap (piece.first - from) (pages_of piece) (address / 4096 - from) rest (omega (arith, before, low)))
    (λ behind.
    ⊎_elim
    (λ inside. absurd (none 0 (omega arith) (omega (arith, behind), omega (arith, inside, order.1))))
    (λ past.
    let at : address / 4096 - from - (piece.first - from) - pages_of piece ≡ address / 4096 - end_of piece = omega (arith, order.0) in
    mark_behind (piece.first - from) (pages_of piece) (address / 4096 - from) rest (omega (arith, past, order.0))
    ∙ (ap (λ i. get_or rest i false) at
    ∙ mark_out (end_of piece) pieces d address order.2 past (λ k below inside. none (suc k) (omega (arith, below)) inside)))
    (cases_lt (address / 4096) (end_of piece)))
    (cases_lt (address / 4096) piece.first)

-- a byte of an absent page stands as 0
zero_out : (from : ℕ) (pieces : List Piece) (address : ℕ) → AreInOrder from pieces → from ≤ address / 4096 → get_or (marks_from from pieces) (address / 4096 - from) false ≡ false → get_or (bytes_from from pieces) (address - 4096 * from) 0 ≡ 0
zero_out from [] address order low gone = refl
zero_out from (piece ∷ pieces) address order low gone =
    let rest = marks_from (end_of piece) pieces in
    let bytes = bytes_from (end_of piece) pieces in
    ⊎_elim
    (λ before. byte_in_gap (4096 * (piece.first - from)) (address - 4096 * from) (piece.bytes ++ bytes) (omega (arith, before, low)))
    (λ behind.
    ⊎_elim
    (λ inside. absurd (false≢true (sym gone ∙ mark_in_piece (piece.first - from) (pages_of piece) (address / 4096 - from) rest (omega (arith, behind)) (omega (arith, inside, behind, order.0)))))
    (λ past.
    let at : address / 4096 - from - (piece.first - from) - pages_of piece ≡ address / 4096 - end_of piece = omega (arith, order.0) in
    let place : address - 4096 * from - 4096 * (piece.first - from) - length piece.bytes ≡ address - 4096 * end_of piece = omega (arith, order.0, order.1) in
    let none = sym (ap (λ i. get_or rest i false) at) ∙ (sym (mark_behind (piece.first - from) (pages_of piece) (address / 4096 - from) rest (omega (arith, past, order.0))) ∙ gone) in
    byte_behind (4096 * (piece.first - from)) (address - 4096 * from) piece.bytes bytes (omega (arith, past, order.0, order.1))
    ∙ (ap (λ i. get_or bytes i 0) place
    ∙ zero_out (end_of piece) pieces address order.2 past none))
    (cases_lt (address / 4096) (end_of piece)))
    (cases_lt (address / 4096) piece.first)

-- where the last piece ends
pub last_end : (from : ℕ) (pieces : List Piece) (k : ℕ) (d : Piece) → AreInOrder from pieces → k + 1 ≡ length pieces → end_of (get_or pieces k d) ≡ from + length (marks_from from pieces)
last_end from [] k d order last = absurd (omega arith)
last_end from (piece ∷ []) zero d order last =
    let size : length (marks_from from (piece ∷ [])) ≡ (piece.first - from) + pages_of piece = search (rules, places) in
    omega (arith, size, order.0)
last_end from (piece ∷ other ∷ pieces) zero d order last = absurd (omega arith)
last_end from (piece ∷ pieces) (suc k) d order last =
    let rest = last_end (end_of piece) pieces k d order.2 (omega arith) in
    let size : length (marks_from from (piece ∷ pieces)) ≡ (piece.first - from) + (pages_of piece + length (marks_from (end_of piece) pieces)) = search (rules, places) in
    omega (arith, size, order.0, rest)

-- pieces in order are a memory
pub pieces_kept : (pieces : List Piece) → AreSegments pieces → IsMemory (pieces_memory pieces)
pieces_kept pieces are = record {
  least_pages = are.least_pages;
  most_pages = are.most_pages;
  by_home = λ is. absurd cc;
  whole = record { each_page = length_pieces 0 pieces are.order };
  absent = λ address gone.
      ap (λ n. get_or (bytes_from 0 pieces) n 0) (omega arith)
      ∙ zero_out 0 pieces address are.order (omega arith) (ap (λ n. get_or (marks_from 0 pieces) n false) (omega arith) ∙ gone);
}

abbrev in_places : List Place → List Bool → List ℕ → Memory
in_places places present items = record { present = present; bytes = items; home = None; loan = InSegments places }

module _ (pieces : List Piece) (order : AreInOrder 0 pieces) where
  pub has_in : (k address : ℕ) → k < length pieces → IsIn (piece_at pieces k) address → has (pieces_memory pieces) address ≡ true
  has_in k address below inside =
      ap (λ i. get_or (marks_from 0 pieces) i false) (omega arith) ∙ mark_in 0 pieces k _ address order below inside

  pub has_out : (address : ℕ) → ((k : ℕ) → k < length pieces → IsIn (piece_at pieces k) address → ⊥) → has (pieces_memory pieces) address ≡ false
  has_out address none =
      ap (λ i. get_or (marks_from 0 pieces) i false) (omega arith) ∙ mark_out 0 pieces _ address order (omega arith) none

  -- a part of a piece, read
  pub piece_read : (k s n address : ℕ) → k < length pieces → s + n ≤ length (piece_at pieces k).bytes → 4096 * (piece_at pieces k).first + s ≡ address → take n (drop s (piece_at pieces k).bytes) ≡ bytes_at (pieces_memory pieces) address n
  piece_read k s n address below within at =
      sym (read_pieces 0 pieces k s n _ order below within)
      ∙ ap₂ (λ i m. take m (drop i (bytes_from 0 pieces))) (omega (arith, at)) (omega arith)

  -- and written
  pub order_written : (k s : ℕ) (new : List ℕ) → k < length pieces → s + length new ≤ length (piece_at pieces k).bytes → AreInOrder 0 (written pieces k s new)
  order_written k s new below within = same_order 0 pieces k s _ new order below within

  pub piece_written : (k s address : ℕ) (new : List ℕ) → k < length pieces → s + length new ≤ length (piece_at pieces k).bytes → 4096 * (piece_at pieces k).first + s ≡ address → pieces_memory (written pieces k s new) ≡ put (pieces_memory pieces) address new
  piece_written k s address new below within at =
      let marks = same_marks 0 pieces k s no_piece new below within in
      let bytes = write_pieces 0 pieces k s no_piece new order below within ∙ ap (λ i. overwrite (bytes_from 0 pieces) i new) (omega (arith, at)) in
      ap (λ (places : List Place). in_places places (marks_from 0 (written pieces k s new)) (bytes_from 0 (written pieces k s new))) (same_places pieces k s no_piece new below within)
      ∙ ap₂ (in_places (map place_of pieces)) marks bytes

-- what a write over one piece leaves of each
same_lengths : (pieces : List Piece) (k s i : ℕ) (d : Piece) (new : List ℕ) → k < length pieces → s + length new ≤ length (get_or pieces k d).bytes → length (get_or (set pieces k (over (get_or pieces k d) s new)) i d).bytes ≡ length (get_or pieces i d).bytes
same_lengths [] k s i d new below within = absurd (omega arith)
same_lengths (piece ∷ pieces) zero s zero d new below within = length_overwrite piece.bytes s new within
same_lengths (piece ∷ pieces) zero s (suc i) d new below within = refl
same_lengths (piece ∷ pieces) (suc k) s zero d new below within = refl
same_lengths (piece ∷ pieces) (suc k) s (suc i) d new below within = same_lengths pieces k s i d new (omega arith) within

same_firsts : (pieces : List Piece) (k s i : ℕ) (d : Piece) (new : List ℕ) → (get_or (set pieces k (over (get_or pieces k d) s new)) i d).first ≡ (get_or pieces i d).first
same_firsts [] k s i d new = refl
same_firsts (piece ∷ pieces) zero s zero d new = refl
same_firsts (piece ∷ pieces) zero s (suc i) d new = refl
same_firsts (piece ∷ pieces) (suc k) s zero d new = refl
same_firsts (piece ∷ pieces) (suc k) s (suc i) d new = same_firsts pieces k s i d new

pub spot_written : (pieces : List Piece) (k s : ℕ) (new : List ℕ) (spot : Spot) (address : ℕ) → k < length pieces → s + length new ≤ length (piece_at pieces k).bytes → IsAt pieces spot address → IsAt (written pieces k s new) spot address
spot_written pieces k s new spot address below within at =
    let long = same_lengths pieces k s spot.segment no_piece new below within in
    let first = same_firsts pieces k s spot.segment no_piece new in
    record {
      below = omega (arith, at.below, length-set pieces k (over (piece_at pieces k) s new));
      some = at.some;
      room = omega (arith, at.room, long);
      here = omega (arith, at.here, first);
    }

-- puts of blocks that are all inside a piece
abbrev pub put_over : Piece → List Put → Piece
put_over piece puts = record piece { bytes = after_puts (4096 * piece.first) piece.bytes puts }

set_itself : (pieces : List Piece) (k : ℕ) (piece d : Piece) → k < length pieces → piece ≡ get_or pieces k d → set pieces k piece ≡ pieces
set_itself [] k piece d below is = absurd (omega arith)
set_itself (first ∷ pieces) zero piece d below is = ap (λ p. p ∷ pieces) is
set_itself (first ∷ pieces) (suc k) piece d below is = ap (λ rest. first ∷ rest) (set_itself pieces k piece d (omega arith) is)

set_twice : (pieces : List Piece) (k : ℕ) (first second : Piece) → set (set pieces k first) k second ≡ set pieces k second
set_twice [] k first second = refl
set_twice (piece ∷ pieces) zero first second = refl
set_twice (piece ∷ pieces) (suc k) first second = ap (λ rest. piece ∷ rest) (set_twice pieces k first second)

pub blocks_made : (pieces : List Piece) (k : ℕ) (piece : Piece) (puts : List Put) → AreInOrder 0 pieces → k < length pieces → piece ≡ piece_at pieces k → AreInside (4096 * piece.first) (length piece.bytes) puts → (pieces_memory (set pieces k (put_over piece puts)) ≡ puts_made (pieces_memory pieces) puts) × AreInOrder 0 (set pieces k (put_over piece puts))
blocks_made pieces k piece [] order below is inside =
    let same = set_itself pieces k piece no_piece below is in
    (ap pieces_memory same, subst (AreInOrder 0) (sym same) order)
blocks_made pieces k piece (p ∷ puts) order below is inside =
    let s = p.address - 4096 * piece.first in
    let one = over piece s p.bytes in
    let within : s + length p.bytes ≤ length (piece_at pieces k).bytes = omega (arith, inside.0, ap (λ (q : Piece). length q.bytes) is) in
    let at : 4096 * (piece_at pieces k).first + s ≡ p.address = omega (arith, inside.0, ap (λ (q : Piece). q.first) is) in
    let next : set pieces k one ≡ written pieces k s p.bytes = ap (λ (q : Piece). set pieces k (over q s p.bytes)) is in
    let long : length piece.bytes ≡ length one.bytes = sym (length_overwrite piece.bytes s p.bytes (omega (arith, inside.0))) in
    let rest =
    blocks_made (set pieces k one) k one puts
    (subst (AreInOrder 0) (sym next) (order_written pieces order k s p.bytes below within))
    (omega (arith, below, length-set pieces k one)) (sym (get_or-set_same pieces k one no_piece below))
    (subst (λ n. AreInside (4096 * piece.first) n puts) long inside.1) in
    let twice = set_twice pieces k one (put_over one puts) in (
      ap pieces_memory (sym twice)
          ∙ (rest.0 ∙ ap (λ (m : Memory). puts_made m puts) (ap pieces_memory next ∙ piece_written pieces order k s p.address p.bytes below within at)),
      subst (AreInOrder 0) twice rest.1,
    )

-- all bytes of a piece stand at its place
pub piece_bytes : (pieces : List Piece) (k : ℕ) → AreInOrder 0 pieces → k < length pieces → bytes_at (pieces_memory pieces) (4096 * (piece_at pieces k).first) (length (piece_at pieces k).bytes) ≡ (piece_at pieces k).bytes
piece_bytes pieces k order below =
    sym (piece_read pieces order k 0 (length (piece_at pieces k).bytes) _ below (omega arith) (omega arith)) ∙ all (piece_at pieces k).bytes
  where
    all : (bytes : List ℕ) → take (length bytes) (drop 0 bytes) ≡ bytes
    all bytes = same_lists _ _ (search (rules, places)) (λ i d h. grind (arith, places))

-- two pieces that are a memory, and what those have
two_pages : (low high : Piece) → end_of low ≤ high.first → length (marks_from 0 (low ∷ high ∷ [])) ≡ end_of high
two_pages low high behind =
    let size : length (marks_from 0 (low ∷ high ∷ [])) ≡ (low.first - 0) + (pages_of low + ((high.first - end_of low) + pages_of high)) = search (rules, places) in
    omega (arith, size, behind)

pub two_are : (low high : Piece) → length low.bytes % 4096 ≡ 0 → length high.bytes % 4096 ≡ 0 → end_of low ≤ high.first → 1 ≤ end_of high → end_of high ≤ 4294967295 → AreSegments (low ∷ high ∷ [])
two_are low high low_whole high_whole behind some most =
    let pages = two_pages low high behind in
    record {
      order = (omega arith, low_whole, (behind, high_whole, tt));
      least_pages = omega (arith, pages, some);
      most_pages = omega (arith, pages, most);
    }

pub two_is : (low high : Piece) → AreSegments (low ∷ high ∷ []) → (length low.bytes % 4096 ≡ 0) × (length high.bytes % 4096 ≡ 0) × (end_of low ≤ high.first) × (1 ≤ end_of high) × (end_of high ≤ 4294967295)
two_is low high are =
    let order = are.order in
    let pages = two_pages low high order.2.0 in
    (order.1, order.2.1, order.2.0, omega (arith, pages, are.least_pages), omega (arith, pages, are.most_pages))
