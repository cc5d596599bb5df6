-- Segments of a list as pieces, and what a spot says of the segment that it is in.
use Rattle.std.proofs.Common.{◌≡◌, ℕ, zero, suc, ◌+◌, ◌-◌, ◌*◌, ◌/◌, ◌%◌, ◌<◌, ◌≤◌, false, List, [], ◌∷◌, ◌++◌, Option, None, Some, IfSome, is_some, length, get_or, set, slice_range, take, drop, rules, refl, sym, ◌∙◌, ap, ap₂, subst, arith, ⊎_elim, map}
use Rattle.std.proofs.lemmas.List.{places, get_or-set_other}
use Rattle.std.proofs.lemmas.Bool.{cases_lt}
use Rattle.dml_types.specs.Memory.{Memory, Place, Put, bytes_at, has, overwrite, put, puts_made}
use Rattle.dml_segments.specs.Blocks.{after_puts, AreInside}
use Rattle.dml_segments.specs.Copied.{copied}
use Rattle.dml_segments.specs.declared.segments.Segment.{Segment}
use Rattle.dml_segments.specs.declared.segments.Spot.{Spot}
use Rattle.dml_segments.specs.Pieces.{Piece, AreInOrder, IsAt, end_of, marks_from, no_piece, over, pages_of, piece_at, piece_of, pieces_memory, pieces_of, written, place_at, place_of, segment_bytes}
use Rattle.dml_segments.proofs.PieceLemmas.{blocks_made, end_low, first_rises, has_in, has_out, last_end, order_written, piece_read, piece_written, put_over, spot_written, whole_piece, within_pieces, piece_bytes}

rest_long : (s : ℕ) (bytes : List ℕ) → length (take (length bytes - s) (drop s bytes)) ≡ length bytes - s
rest_long s bytes = search (rules, places)

pub pieces_length : (segments : List Segment) → length (pieces_of segments) ≡ length segments
pieces_length [] = refl
pieces_length (segment ∷ segments) = ap suc (pieces_length segments)

pub piece_is : (segments : List Segment) (k : ℕ) (segment : Segment) → k < length segments → segment ≡ get_or segments k segment → piece_at (pieces_of segments) k ≡ piece_of segment
piece_is [] k segment below at = absurd (omega arith)
piece_is (first ∷ segments) zero segment below at = ap piece_of (sym at)
piece_is (first ∷ segments) (suc k) segment below at = piece_is segments k segment (omega arith) at

pub pieces_set : (segments : List Segment) (k : ℕ) (other : Segment) → pieces_of (set segments k other) ≡ set (pieces_of segments) k (piece_of other)
pieces_set [] k other = refl
pieces_set (segment ∷ segments) zero other = refl
pieces_set (segment ∷ segments) (suc k) other = ap (λ pieces. piece_of segment ∷ pieces) (pieces_set segments k other)

-- a segment with other bytes
pub set_written : (items : List Segment) (k s : ℕ) (segment other : Segment) (new : List ℕ) → k < length items → segment ≡ get_or items k segment → piece_of other ≡ over (piece_of segment) s new → pieces_of (set items k other) ≡ written (pieces_of items) k s new
set_written items k s segment other new below at is =
    pieces_set items k other
    ∙ ap (set (pieces_of items) k) (is ∙ ap (λ (p : Piece). over p s new) (sym (piece_is items k segment below at)))

-- a spot in a list that is another one's
module _ (list items : List Segment) (now : Memory) (same : list ≡ items) (order : AreInOrder 0 (pieces_of items)) (shown : pieces_memory (pieces_of items) ≡ now) where
  pub order_here : AreInOrder 0 (pieces_of list)
  order_here = subst (λ l. AreInOrder 0 (pieces_of l)) (sym same) order

  pub has_here : (address : ℕ) → has (pieces_memory (pieces_of list)) address ≡ has now address
  has_here address = ap (λ l. has (pieces_memory (pieces_of l)) address) same ∙ ap (λ (m : Memory). has m address) shown

  pub has_is : (address : ℕ) (result : Option Spot) → IfSome result (λ spot. IsAt (pieces_of list) spot address) → (result ≡ None → has (pieces_memory (pieces_of list)) address ≡ false) → is_some result ≡ has now address
  has_is address None found outside = sym (sym (has_here address) ∙ outside refl)
  has_is address (Some spot) found outside =
      sym (sym (has_here address) ∙ has_in (pieces_of list) order_here spot.segment address found.below (omega (arith, found.here), omega (arith, found.here, found.room, found.some)))

  -- bytes copied from one place to another
  pub copied_here : (new : List Segment) (j from k to n source target : ℕ) → j < length (pieces_of items) → from + n ≤ length (piece_at (pieces_of items) j).bytes → 4096 * (piece_at (pieces_of items) j).first + from ≡ source → k < length (pieces_of items) → to + n ≤ length (piece_at (pieces_of items) k).bytes → 4096 * (piece_at (pieces_of items) k).first + to ≡ target → pieces_of new ≡ written (pieces_of list) k to (slice_range (piece_at (pieces_of list) j).bytes from (from + n)) → (pieces_memory (pieces_of new) ≡ put now target (bytes_at now source n)) × AreInOrder 0 (pieces_of new)
  copied_here new j from k to n source target below_j in_source at_source below_k in_target at_target done =
      let pieces = pieces_of items in
      let part = slice_range (piece_at pieces j).bytes from (from + n) in
      let is : pieces_of new ≡ written pieces k to part = done ∙ ap (λ l. written (pieces_of l) k to (slice_range (piece_at (pieces_of l) j).bytes from (from + n))) same in
      let fits : to + length part ≤ length (piece_at pieces k).bytes = omega (arith, in_target, short from n (piece_at pieces j).bytes) in
      let read : part ≡ bytes_at now source n =
      ap (λ m. take m (drop from (piece_at pieces j).bytes)) (omega arith)
      ∙ (piece_read pieces order j from n source below_j in_source at_source ∙ ap (λ (m : Memory). bytes_at m source n) shown) in (
        ap pieces_memory is
            ∙ (piece_written pieces order k to target part below_k fits at_target ∙ ap₂ (λ (m : Memory) (bytes : List ℕ). put m target bytes) shown read),
        subst (AreInOrder 0) (sym is) (order_written pieces order k to part below_k fits),
      )
    where
      short : (s n : ℕ) (bytes : List ℕ) → length (slice_range bytes s (s + n)) ≤ n
      short s n bytes = search (rules, places)

  -- and a spot behind that
  pub spot_after : (new : List Segment) (j from k to n : ℕ) (spot : Spot) (address : ℕ) → k < length (pieces_of items) → to + n ≤ length (piece_at (pieces_of items) k).bytes → pieces_of new ≡ written (pieces_of list) k to (slice_range (piece_at (pieces_of list) j).bytes from (from + n)) → IsAt (pieces_of list) spot address → IsAt (pieces_of new) spot address
  spot_after new j from k to n spot address below in_target done at =
      let part = slice_range (piece_at (pieces_of list) j).bytes from (from + n) in
      let fits : to + length part ≤ length (piece_at (pieces_of list) k).bytes =
      omega (arith, in_target, short from n (piece_at (pieces_of list) j).bytes, ap (λ l. length (piece_at (pieces_of l) k).bytes) same) in
      subst (λ (p : List Piece). IsAt p spot address) (sym done)
      (spot_written (pieces_of list) k to part spot address (omega (arith, below, ap (λ l. length (pieces_of l)) same)) fits at)
    where
      short : (s n : ℕ) (bytes : List ℕ) → length (slice_range bytes s (s + n)) ≤ n
      short s n bytes = search (rules, places)

  module _ (spot : Spot) (address : ℕ) (at : IsAt (pieces_of list) spot address) where
    pub spot_here : IsAt (pieces_of items) spot address
    spot_here = subst (λ l. IsAt (pieces_of l) spot address) same at

    pub below_here : spot.segment < length items
    below_here = omega (arith, spot_here.below, pieces_length items)

    -- whole pages lie behind it, up to the end of its own
    pub room_here : 4096 - address % 4096 ≤ spot.room
    room_here =
        let here = spot_here in
        let whole = whole_piece 0 (pieces_of items) spot.segment no_piece order here.below in
        omega (arith, here.room, here.here, here.some, whole)

    module _ (segment : Segment) (seen : segment ≡ get_or items spot.segment segment) where
      is_here : piece_at (pieces_of items) spot.segment ≡ piece_of segment
      is_here = piece_is items spot.segment segment below_here seen

      pub long_here : length segment.content.now ≡ spot.place + spot.room
      long_here = sym (ap (λ (p : Piece). length p.bytes) is_here) ∙ sym spot_here.room

      -- it ends within the memory
      pub end_fits : address - spot.place + length segment.content.now ≤ length now.bytes
      end_fits =
          let fits = within_pieces 0 (pieces_of items) spot.segment no_piece order spot_here.below in
          omega (arith, fits, spot_here.here, ap (λ (p : Piece). length p.bytes) is_here, ap (λ (m : Memory). length m.bytes) shown)

      -- bytes from there on, read
      pub read_here : (n : ℕ) → n ≤ spot.room → take n (drop spot.place segment.content.now) ≡ bytes_at now address n
      read_here n within =
          ap (λ (p : Piece). take n (drop spot.place p.bytes)) (sym is_here)
          ∙ (piece_read (pieces_of items) order spot.segment spot.place n address spot_here.below (omega (arith, spot_here.room, within)) spot_here.here
          ∙ ap (λ (m : Memory). bytes_at m address n) shown)

      pub rest_here : (bytes : List ℕ) → bytes ≡ segment.content.now → take (length bytes - spot.place) (drop spot.place bytes) ≡ bytes_at now address (length (take (length bytes - spot.place) (drop spot.place bytes)))
      rest_here bytes is =
          let room : length bytes - spot.place ≡ spot.room = omega (arith, ap length is, long_here) in
          let size : length (take (length bytes - spot.place) (drop spot.place bytes)) ≡ spot.room = omega (arith, rest_long spot.place bytes, room) in
          ap₂ (λ (n : ℕ) (items : List ℕ). take n (drop spot.place items)) room is
          ∙ (read_here spot.room (omega arith) ∙ ap (bytes_at now address) (sym size))

      -- and written
      pub written_here : (other : Segment) (new : List ℕ) → length new ≤ spot.room → piece_of other ≡ over (piece_of segment) spot.place new → (pieces_memory (pieces_of (set items spot.segment other)) ≡ put now address new) × AreInOrder 0 (pieces_of (set items spot.segment other))
      written_here other new within is =
          let done = set_written items spot.segment spot.place segment other new below_here seen is in
          let fits : spot.place + length new ≤ length (piece_at (pieces_of items) spot.segment).bytes = omega (arith, spot_here.room, within) in (
            ap pieces_memory done
                ∙ (piece_written (pieces_of items) order spot.segment spot.place address new spot_here.below fits spot_here.here
                ∙ ap (λ (m : Memory). put m address new) shown),
            subst (AreInOrder 0) (sym done) (order_written (pieces_of items) order spot.segment spot.place new spot_here.below fits),
          )

      -- blocks that were put into the segment, which begins at an address
      pub blocks_here : (begin : ℕ) (other : Segment) (puts : List Put) → begin ≡ address - spot.place → AreInside begin (length segment.content.now) puts → piece_of other ≡ record (piece_of segment) { bytes = after_puts begin segment.content.now puts } → (pieces_memory (pieces_of (set items spot.segment other)) ≡ puts_made now puts) × AreInOrder 0 (pieces_of (set items spot.segment other))
      blocks_here begin other puts at_begin inside is =
          let starts : begin ≡ 4096 * segment.first = omega (arith, at_begin, spot_here.here, ap (λ (p : Piece). p.first) is_here) in
          let made = blocks_made (pieces_of items) spot.segment (piece_of segment) puts order spot_here.below (sym is_here) (subst (λ n. AreInside n (length segment.content.now) puts) starts inside) in
          let after : pieces_of (set items spot.segment other) ≡ set (pieces_of items) spot.segment (put_over (piece_of segment) puts) =
          pieces_set items spot.segment other
          ∙ ap (set (pieces_of items) spot.segment) (is ∙ ap (λ n. record (piece_of segment) { bytes = after_puts n segment.content.now puts }) starts) in
          (ap pieces_memory after ∙ (made.0 ∙ ap (λ (m : Memory). puts_made m puts) shown), subst (AreInOrder 0) (sym after) made.1)

-- bytes copied from one spot to another, and then to a third
module _ (list items one : List Segment) (now : Memory) (same : list ≡ items) (order : AreInOrder 0 (pieces_of items)) (shown : pieces_memory (pieces_of items) ≡ now) (source first second : Spot) (from to also n : ℕ) (at_source : IsAt (pieces_of items) source from) (at_first : IsAt (pieces_of items) first to) (at_second : IsAt (pieces_of items) second also) (source_room : n ≤ source.room) (first_room : n ≤ first.room) (second_room : n ≤ second.room) (once : pieces_of one ≡ written (pieces_of list) first.segment first.place (slice_range (piece_at (pieces_of list) source.segment).bytes source.place (source.place + n))) where
  copied_once : (pieces_memory (pieces_of one) ≡ put now to (bytes_at now from n)) × AreInOrder 0 (pieces_of one)
  copied_once =
      copied_here list items now same order shown one source.segment source.place first.segment first.place n from to
      at_source.below (omega (arith, at_source.room, source_room)) at_source.here
      at_first.below (omega (arith, at_first.room, first_room)) at_first.here once

  stays : (spot : Spot) (address : ℕ) → IsAt (pieces_of items) spot address → IsAt (pieces_of one) spot address
  stays spot address at =
      spot_after list items now same order shown one source.segment source.place first.segment first.place n spot address
      at_first.below (omega (arith, at_first.room, first_room)) once (subst (λ l. IsAt (pieces_of l) spot address) (sym same) at)

  pub source_stays : (source.segment < length one) × (source.place + n ≤ length (piece_at (pieces_of one) source.segment).bytes)
  source_stays =
      let at = stays source from at_source in
      (omega (arith, at.below, pieces_length one), omega (arith, at.room, source_room))

  pub second_stays : (second.segment < length one) × (second.place + n ≤ length (piece_at (pieces_of one) second.segment).bytes)
  second_stays =
      let at = stays second also at_second in
      (omega (arith, at.below, pieces_length one), omega (arith, at.room, second_room))

  pub copied_twice : (two : List Segment) → pieces_of two ≡ written (pieces_of one) second.segment second.place (slice_range (piece_at (pieces_of one) source.segment).bytes source.place (source.place + n)) → (pieces_memory (pieces_of two) ≡ copied (copied now from to n) from also n) × AreInOrder 0 (pieces_of two)
  copied_twice two again =
      let from_at = stays source from at_source in
      let to_at = stays second also at_second in
      copied_here one one (copied now from to n) refl copied_once.1 copied_once.0 two source.segment source.place second.segment second.place n from also
      from_at.below (omega (arith, from_at.room, source_room)) from_at.here
      to_at.below (omega (arith, to_at.room, second_room)) to_at.here again

-- segments in front of one that begins at an address or before do so too, and those behind one that does not, do not
module _ (list : List Segment) (middle address : ℕ) (segment : Segment) (order : AreInOrder 0 (pieces_of list)) (below : middle < length list) (seen : segment ≡ get_or list middle segment) where
  middle_is : piece_at (pieces_of list) middle ≡ piece_of segment
  middle_is = piece_is list middle segment below seen

  pub begins_before : 4096 * segment.first ≤ address → (k : ℕ) → k < middle + 1 → 4096 * (piece_at (pieces_of list) k).first ≤ address
  begins_before low k front =
      omega (arith, low, ap (λ (p : Piece). p.first) middle_is, first_rises 0 (pieces_of list) k middle no_piece order (omega arith) (omega (arith, below, pieces_length list)))

  pub begins_behind : address < 4096 * segment.first → (k : ℕ) → middle ≤ k → k < length list → address < 4096 * (piece_at (pieces_of list) k).first
  begins_behind high k back inside =
      omega (arith, high, ap (λ (p : Piece). p.first) middle_is, first_rises 0 (pieces_of list) middle k no_piece order back (omega (arith, inside, pieces_length list)))

-- the last segment that begins at an address or before, or the first one, says where it is, or that it is in none
pub in_no_segment : (items : List Segment) (address : ℕ) → AreInOrder 0 (pieces_of items) → length items ≡ 0 → has (pieces_memory (pieces_of items)) address ≡ false
in_no_segment items address order none = has_out (pieces_of items) order address (λ k below inside. absurd (omega (arith, below, pieces_length items, none)))

module _ (items : List Segment) (address r : ℕ) (order : AreInOrder 0 (pieces_of items)) (within : r < length items) (begins : 0 < r → 4096 * (piece_at (pieces_of items) r).first ≤ address) (behind : (k : ℕ) → r < k → k < length items → address < 4096 * (piece_at (pieces_of items) k).first) (segment : Segment) (seen : segment ≡ get_or items r segment) where
  near_is : piece_at (pieces_of items) r ≡ piece_of segment
  near_is = piece_is items r segment within seen

  in_pieces : r < length (pieces_of items)
  in_pieces = omega (arith, within, pieces_length items)

  pub before_near : address < 4096 * segment.first → has (pieces_memory (pieces_of items)) address ≡ false
  before_near high =
      has_out (pieces_of items) order address (λ k below inside.
      ⊎_elim
      (λ front. absurd (omega (arith, high, begins (omega (arith, front)), ap (λ (p : Piece). p.first) near_is)))
      (λ back. absurd (omega (arith, high, inside.0, ap (λ (p : Piece). p.first) near_is, first_rises 0 (pieces_of items) r k no_piece order back below)))
      (cases_lt k r))

  pub behind_near : 4096 * segment.first + length segment.content.now ≤ address → has (pieces_memory (pieces_of items)) address ≡ false
  behind_near past =
      has_out (pieces_of items) order address (λ k below inside.
      ⊎_elim
      (λ front. absurd (omega (arith, inside.1, end_low 0 (pieces_of items) k r no_piece order front in_pieces, whole_piece 0 (pieces_of items) k no_piece order below, begins (omega (arith, front)))))
      (λ rest.
      ⊎_elim
      (λ high. absurd (omega (arith, inside.0, behind k high (omega (arith, below, pieces_length items)))))
      (λ low.
      let here : piece_at (pieces_of items) k ≡ piece_of segment = ap (piece_at (pieces_of items)) (omega (arith, low, rest)) ∙ near_is in
      absurd (omega (arith, inside.1, past, ap (λ (p : Piece). 4096 * p.first + length p.bytes) here)))
      (cases_lt r k))
      (cases_lt k r))

  pub in_near : (place room : ℕ) → 4096 * segment.first ≤ address → place ≡ address - 4096 * segment.first → room ≡ length segment.content.now - place → place < length segment.content.now → IsAt (pieces_of items) (record { segment = r; place = place; room = room }) address
  in_near place room low at rest inside =
      record {
        below = in_pieces;
        some = omega (arith, rest, inside);
        room = omega (arith, rest, inside) ∙ sym (ap (λ (p : Piece). length p.bytes) near_is);
        here = omega (arith, at, low, ap (λ (p : Piece). p.first) near_is);
      }

-- bytes of a segment that are copied: of the one that they are copied to, or of another beside it
pub piece_at_is : (list : List Segment) (k : ℕ) (d : Segment) → k < length list → piece_at (pieces_of list) k ≡ piece_of (get_or list k d)
piece_at_is [] k d below = absurd (omega arith)
piece_at_is (segment ∷ list) zero d below = refl
piece_at_is (segment ∷ list) (suc k) d below = piece_at_is list k d (omega arith)

set_twice : (list : List Segment) (k : ℕ) (first second : Segment) → set (set list k first) k second ≡ set list k second
set_twice [] k first second = refl
set_twice (segment ∷ list) zero first second = refl
set_twice (segment ∷ list) (suc k) first second = ap (λ rest. segment ∷ rest) (set_twice list k first second)

same_piece : (a b : Piece) → a.first ≡ b.first → a.bytes ≡ b.bytes → a.name ≡ b.name → a ≡ b
same_piece a b first bytes name =
    ap (λ (n : ℕ). record { first = n; bytes = a.bytes; name = a.name }) first
    ∙ ap₂ (λ (items : List ℕ) (n : ℕ). record { first = b.first; bytes = items; name = n }) bytes name

module _ (list : List Segment) (source target from len : ℕ) where
  abbrev pub part_copied : List ℕ
  part_copied = slice_range (piece_at (pieces_of list) source).bytes from (from + len)

  pub own_part : (d : Segment) (bytes : List ℕ) → source ≡ target → target < length list → bytes ≡ (get_or list target d).content.now → slice_range bytes from (from + len) ≡ part_copied
  own_part d bytes same below is =
      ap (λ items. slice_range items from (from + len)) (is ∙ ap (λ (p : Piece). p.bytes) (sym (piece_at_is list target d below)))
      ∙ ap (λ k. slice_range (piece_at (pieces_of list) k).bytes from (from + len)) (sym same)

  pub other_part : (held d : Segment) (bytes : List ℕ) → (source ≡ target → ⊥) → source < length list → bytes ≡ (get_or (set list target held) source d).content.now → slice_range bytes from (from + len) ≡ part_copied
  other_part held d bytes apart below is =
      ap (λ items. slice_range items from (from + len))
      (is ∙ (ap (λ (s : Segment). s.content.now) (get_or-set_other list target source held d apart) ∙ ap (λ (p : Piece). p.bytes) (sym (piece_at_is list source d below))))

  pub put_back_copied : (to : ℕ) (held new old d : Segment) → target < length list → old ≡ get_or list target d → new.first ≡ old.first → new.content.ghost_name ≡ old.content.ghost_name → new.content.now ≡ overwrite old.content.now to part_copied → pieces_of (set (set list target held) target new) ≡ written (pieces_of list) target to part_copied
  put_back_copied to held new old d below at first name bytes =
      let is : piece_of new ≡ over (piece_of old) to part_copied = same_piece (piece_of new) (over (piece_of old) to part_copied) first bytes name in
      ap pieces_of (set_twice list target held new)
      ∙ (pieces_set list target new
      ∙ ap (set (pieces_of list) target) (is ∙ ap (λ (p : Piece). over p to part_copied) (ap piece_of at ∙ sym (piece_at_is list target d below))))

-- where the last segment ends
pub end_here : (items : List Segment) (now : Memory) (k : ℕ) (segment : Segment) → AreInOrder 0 (pieces_of items) → pieces_memory (pieces_of items) ≡ now → k + 1 ≡ length items → segment ≡ get_or items k segment → segment.first + length segment.content.now / 4096 ≡ length now.present
end_here items now k segment order shown last at =
    ap end_of (sym (piece_is items k segment (omega (arith, last)) at))
    ∙ (last_end 0 (pieces_of items) k no_piece order (last ∙ sym (pieces_length items))
    ∙ (omega arith ∙ ap (λ (m : Memory). length m.present) shown))

pub no_end : (items : List Segment) (now : Memory) → pieces_memory (pieces_of items) ≡ now → length items ≡ 0 → 0 ≡ length now.present
no_end [] now shown none = ap (λ (m : Memory). length m.present) shown
no_end (segment ∷ items) now shown none = absurd (omega arith)

-- a segment that is given back: its bytes and its reference are those that the memory says
place_is : (pieces : List Piece) (k : ℕ) → place_at (pieces_memory pieces) k ≡ place_of (piece_at pieces k)
place_is pieces k = along pieces k
  where
    along : (pieces : List Piece) (k : ℕ) → get_or (map place_of pieces) k (place_of no_piece) ≡ place_of (piece_at pieces k)
    along [] k = refl
    along (piece ∷ pieces) zero = refl
    along (piece ∷ pieces) (suc k) = along pieces k

module _ (items : List Segment) (memory : Memory) (k : ℕ) (d : Segment) (is : pieces_memory (pieces_of items) ≡ memory) (below : k < length items) where
  back_is : place_at memory k ≡ place_of (piece_of (get_or items k d))
  back_is =
      ap (λ (m : Memory). place_at m k) (sym is)
      ∙ (place_is (pieces_of items) k ∙ ap place_of (piece_at_is items k d below))

  pub name_again : (get_or items k d).content.ghost_name ≡ (place_at memory k).name
  name_again = sym (ap (λ (p : Place). p.name) back_is)

  pub bytes_again : AreInOrder 0 (pieces_of items) → (get_or items k d).content.now ≡ segment_bytes memory k
  bytes_again order =
      let piece = piece_of (get_or items k d) in
      let low : k < length (pieces_of items) = omega (arith, below, pieces_length items) in
      let here = piece_at_is items k d below in
      let whole : length piece.bytes % 4096 ≡ 0 = ap (λ (p : Piece). length p.bytes % 4096) (sym here) ∙ whole_piece 0 (pieces_of items) k no_piece order low in
      let size : length piece.bytes ≡ 4096 * pages_of piece = omega (arith, whole) in
      ap (λ (p : Piece). p.bytes) (sym here)
      ∙ (sym (piece_bytes (pieces_of items) k order low)
      ∙ (ap (λ (p : Piece). bytes_at (pieces_memory (pieces_of items)) (4096 * p.first) (length p.bytes)) here
      ∙ (ap (bytes_at (pieces_memory (pieces_of items)) (4096 * piece.first)) size
      ∙ ap₂ (λ (m : Memory) (p : Place). bytes_at m (4096 * p.first) (4096 * p.pages)) is (sym back_is))))

-- the test of segments, one after another: a front of those that are in order, and one more
front_size : (from : ℕ) (segment : Segment) (rest : List Segment) → length (marks_from from (pieces_of (segment ∷ rest))) ≡ (segment.first - from) + (pages_of (piece_of segment) + length (marks_from (end_of (piece_of segment)) (pieces_of rest)))
front_size from segment rest = search (rules, places)

pub next_in_order : (from : ℕ) (segments : List Segment) (k : ℕ) (d : Segment) → AreInOrder from (pieces_of segments) → k < length segments → (from + length (marks_from from (pieces_of (take k segments))) ≤ (get_or segments k d).first) × (length (get_or segments k d).content.now % 4096 ≡ 0)
next_in_order from [] k d order below = absurd (omega arith)
next_in_order from (segment ∷ segments) zero d order below = (omega (arith, order.0), order.1)
next_in_order from (segment ∷ segments) (suc k) d order below =
    let rest = next_in_order (end_of (piece_of segment)) segments k d order.2 (omega arith) in
    let size = front_size from segment (take k segments) in
    (omega (arith, rest.0, size, order.0), rest.1)

pub front_more : (from : ℕ) (segments : List Segment) (k : ℕ) (d : Segment) → AreInOrder from (pieces_of (take k segments)) → k < length segments → from + length (marks_from from (pieces_of (take k segments))) ≤ (get_or segments k d).first → length (get_or segments k d).content.now % 4096 ≡ 0 → AreInOrder from (pieces_of (take (suc k) segments)) × (from + length (marks_from from (pieces_of (take (suc k) segments))) ≡ (get_or segments k d).first + length (get_or segments k d).content.now / 4096)
front_more from [] k d order below low whole = absurd (omega arith)
front_more from (segment ∷ segments) zero d order below low whole =
    let size : length (marks_from from (pieces_of (take 1 (segment ∷ segments)))) ≡ (segment.first - from) + length segment.content.now / 4096 = search (rules, places) in
    ((omega (arith, low), whole, tt), omega (arith, size, low))
front_more from (segment ∷ segments) (suc k) d order below low whole =
    let size = front_size from segment (take k segments) in
    let more = front_size from segment (take (suc k) segments) in
    let rest = front_more (end_of (piece_of segment)) segments k d order.2 (omega arith) (omega (arith, low, size, order.0)) whole in
    ((order.0, order.1, rest.0), omega (arith, rest.1, more, order.0))

-- segments taken out of a slice, one after another
map_more : (list : List Segment) (new : Segment) → pieces_of (list ++ new ∷ []) ≡ pieces_of list ++ piece_of new ∷ []
map_more [] new = refl
map_more (segment ∷ list) new = ap (λ (rest : List Piece). piece_of segment ∷ rest) (map_more list new)

take_more : (before : List Segment) (k : ℕ) (d : Segment) → k < length before → pieces_of (take (suc k) before) ≡ pieces_of (take k before) ++ piece_of (get_or before k d) ∷ []
take_more [] k d below = absurd (omega arith)
take_more (segment ∷ before) zero d below = refl
take_more (segment ∷ before) (suc k) d below = ap (λ (rest : List Piece). piece_of segment ∷ rest) (take_more before k d (omega arith))

pub taken_more : (list items before : List Segment) (k : ℕ) (d new : Segment) → pieces_of list ≡ pieces_of (take k before) → k < length before → items ≡ list ++ new ∷ [] → piece_of new ≡ piece_of (get_or before k d) → pieces_of items ≡ pieces_of (take (k + 1) before)
taken_more list items before k d new so_far below is same =
    let more : suc k ≡ k + 1 = omega arith in
    ap pieces_of is ∙ (map_more list new ∙ (ap₂ (λ (front : List Piece) (last : Piece). front ++ last ∷ []) so_far same
    ∙ (sym (take_more before k d below) ∙ ap (λ n. pieces_of (take n before)) more)))

pub a_piece : (first : ℕ) (bytes : List ℕ) (name : ℕ) (segment : Segment) → first ≡ segment.first → bytes ≡ segment.content.now → name ≡ segment.content.ghost_name → record { first = first; bytes = bytes; name = name } ≡ piece_of segment
a_piece first bytes name segment at is called =
    ap (λ (n : ℕ). record { first = n; bytes = bytes; name = name }) at
    ∙ ap₂ (λ (b : List ℕ) (n : ℕ). record { first = segment.first; bytes = b; name = n }) is called
