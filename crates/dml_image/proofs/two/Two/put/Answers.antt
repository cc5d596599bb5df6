use Rattle.std.proofs.Common.{arith, get_or, ◌≡◌, ◌∷◌, [], ◌++◌, List, suc, true, refl, length, sym, ◌∙◌, ap}
use Rattle.std.proofs.lemmas.Bool.{eqb-true}
use Rattle.std.proofs.lemmas.List.{length_push}
use Rattle.dml_types.specs.Memory.{Memory}
use Rattle.dml_segments.specs.declared.segments.Segment.{Segment}
use Rattle.dml_segments.specs.Pieces.{pieces_memory, pieces_of, places_of}
use Rattle.dml_image.specs.Two.{has_two_segments}
use Rattle.dml_segments.proofs.SegmentLemmas.{bytes_again}
use Rattle.dml_image.proofs.two.Two.put.Goals as goal

-- as many segments as their memory is lent in
as_many : (list : List Segment) → length (places_of (pieces_memory (pieces_of list)).loan) ≡ length list
as_many [] = refl
as_many (segment ∷ list) = ap suc (as_many list)

counted : (list : List Segment) (memory : Memory) → pieces_memory (pieces_of list) ≡ memory → has_two_segments memory ≡ true → length list ≡ 2
counted list memory is two =
    sym (as_many list) ∙ (ap (λ (m : Memory). length (places_of m.loan)) is ∙ eqb-true _ _ two)

-- a list of two of which both were taken off
two_of : (list front none : List Segment) (low high : Segment) → list ≡ front ++ (high ∷ []) → front ≡ none ++ (low ∷ []) → length list ≡ 2 → list ≡ low ∷ high ∷ []
two_of list front [] low high all some two = all ∙ ap (λ (l : List Segment). l ++ (high ∷ [])) some
two_of list front (first ∷ rest) low high all some two = absurd (omega (arith, two, ap length all, ap length some, length_push front high, length_push (first ∷ rest) low))

pub returns-clause-low : goal.returns-clause-low
returns-clause-low c =
    let low = c.in-Some-pop.low in
    let list = c.into_segments-list.result.items in
    let made = c.into_segments-list.ensures in
    let many = counted list c.args.image made.memory c.requires in
    let two = two_of list _ _ low c.in-Some.high c.in-Some.ensures.items c.in-Some-pop.ensures.items many in
    ap (λ (l : List Segment). (get_or l 0 low).content.now) (sym two)
    ∙ bytes_again list c.args.image 0 low made.memory (omega (arith, many)) made.segments.order

pub returns-clause-high : goal.returns-clause-high
returns-clause-high c =
    let high = c.in-Some.high in
    let list = c.into_segments-list.result.items in
    let made = c.into_segments-list.ensures in
    let many = counted list c.args.image made.memory c.requires in
    let two = two_of list _ _ c.in-Some-pop.low high c.in-Some.ensures.items c.in-Some-pop.ensures.items many in
    ap (λ (l : List Segment). (get_or l 1 high).content.now) (sym two)
    ∙ bytes_again list c.args.image 1 high made.memory (omega (arith, many)) made.segments.order
