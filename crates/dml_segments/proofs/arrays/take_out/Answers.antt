use Rattle.std.proofs.Common.{◌≡◌, ℕ, ◌+◌, ◌<◌, List, [], ◌∷◌, ◌++◌, get_or, set, length, rules, refl, sym, subst, below_more, ◌∙◌, ap, arith}
use Rattle.std.proofs.lemmas.List.{places, get_or-set_other, get_or-set_same, length-set}
use Rattle.dml_segments.specs.declared.segments.Segment.{Segment}
use Rattle.dml_segments.specs.Pieces.{Piece, IsTakenOut, no_piece, piece_at, piece_of, pieces_of}
use Rattle.dml_segments.proofs.SegmentLemmas.{a_piece, piece_at_is, pieces_length, pieces_set, taken_more}
use Rattle.dml_segments.proofs.arrays.take_out.Goals as goal

pub loop-k-init : goal.loop-k-init
loop-k-init c = record { taken = ap pieces_of c.requires.empty; rest = λ j default low. refl; left = λ j none. absurd (omega (arith, none)); size = refl; count = ap length c.requires.empty; room = refl }

pub push_reserved-requires : goal.push_reserved-requires
push_reserved-requires c = omega (arith, c.loop-k.invariant.count, c.loop-k.invariant.room, c.requires.room, c.loop-k-test.true)

one_more : (list : List Segment) (new : Segment) (items : List Segment) (k : ℕ) → items ≡ list ++ new ∷ [] → length list ≡ k → length items ≡ k + 1
one_more list new items k is size =
    let more : length (list ++ new ∷ []) ≡ length list + 1 = search (rules, places) in
    ap length is ∙ omega (arith, more, size)

-- a piece in its place, and another beside it
left_other : (pieces : List Piece) (before : Piece) (j k : ℕ) (new : Piece) (after : List Piece) → after ≡ set pieces k new → j < k → IsTakenOut (piece_at pieces j) before → IsTakenOut (piece_at after j) before
left_other pieces before j k new after is low left =
    subst (λ (p : Piece). IsTakenOut p before) (sym (ap (λ l. get_or l j no_piece) is ∙ get_or-set_other pieces k j new no_piece (λ same. absurd (omega (arith, same, low))))) left

left_here : (pieces : List Piece) (before : Piece) (k : ℕ) (new : Piece) (after : List Piece) → after ≡ set pieces k new → k < length pieces → new.first ≡ before.first → new.bytes ≡ [] → IsTakenOut (piece_at after k) before
left_here pieces before k new after is low first none =
    subst (λ (p : Piece). IsTakenOut p before) (sym (ap (λ l. get_or l k no_piece) is ∙ get_or-set_same pieces k new no_piece low)) (first, none)

pub loop-k-preserved : goal.loop-k-preserved
loop-k-preserved c =
    let before = c.args.segments.now in
    let k = c.loop-k.k in
    let here = c.loop-k.invariant.rest k _ (omega arith) in
    let same : piece_of c.new.result ≡ piece_of (get_or before k _) =
    a_piece c.new.result.first c.new.result.content.now c.new.result.content.ghost_name (get_or before k _)
    (c.new.ensures.first ∙ (c.first-first.ensures ∙ ap (λ (s : Segment). s.first) here))
    (c.new.ensures.content ∙ (c.take-content.ensures.bytes ∙ ap (λ (s : Segment). s.content.now) here))
    (c.new.ensures.same_reference ∙ (c.take-content.ensures.same_reference ∙ ap (λ (s : Segment). s.content.ghost_name) here)) in
    record {
      taken = taken_more c.loop-k.list.items c.push_reserved.new.self.items before k _ c.new.result c.loop-k.invariant.taken c.loop-k-test.true c.push_reserved.ensures.items same;
      rest = λ j default low. get_or-set_other c.loop-k.segments k j c.take-content.new.self default (λ is. absurd (omega (arith, is, low))) ∙ c.loop-k.invariant.rest j default (omega (arith, low));
      left =
          below_more _ _
          (λ j low. left_other (pieces_of c.loop-k.segments) (piece_at (pieces_of before) j) j k (piece_of c.take-content.new.self) _ (pieces_set c.loop-k.segments k c.take-content.new.self) low (c.loop-k.invariant.left j low))
          (left_here (pieces_of c.loop-k.segments) (piece_at (pieces_of before) k) k (piece_of c.take-content.new.self) _ (pieces_set c.loop-k.segments k c.take-content.new.self)
          (omega (arith, pieces_length c.loop-k.segments, c.loop-k.invariant.size, c.loop-k-test.true))
          (c.take-content.ensures.first ∙ (ap (λ (s : Segment). s.first) here ∙ sym (ap (λ (p : Piece). p.first) (piece_at_is before k _ c.loop-k-test.true))))
          c.take-content.ensures.left);
      size = length-set c.loop-k.segments k c.take-content.new.self ∙ c.loop-k.invariant.size;
      count = one_more c.loop-k.list.items c.new.result c.push_reserved.new.self.items k c.push_reserved.ensures.items c.loop-k.invariant.count;
      room = c.push_reserved.ensures.capacity ∙ c.loop-k.invariant.room;
    }
