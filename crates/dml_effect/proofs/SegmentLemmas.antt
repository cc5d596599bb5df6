-- Where the segments of a list lie, and how many they are.
use Rattle.std.proofs.Common.{◌≡◌, suc, List, [], ◌∷◌, length, refl, sym, ◌∙◌, ap}
use Rattle.dml_types.specs.Memory.{Loan, ByHome, InOnePiece, InSegments, Place}
use Rattle.dml_segments.specs.declared.segments.Segment.{Segment}
use Rattle.dml_image.specs.Pieces.{pieces_memory, pieces_of}

abbrev places_of : Loan → List Place
places_of ByHome = []
places_of (InOnePiece name) = []
places_of (InSegments places) = places

as_many : (segments : List Segment) → length (places_of (pieces_memory (pieces_of segments)).loan) ≡ length segments
as_many [] = refl
as_many (segment ∷ segments) = ap suc (as_many segments)

-- lists whose memories are lent alike are as long
pub length_by_loan : (now before : List Segment) → (pieces_memory (pieces_of now)).loan ≡ (pieces_memory (pieces_of before)).loan → length now ≡ length before
length_by_loan now before same = sym (as_many now) ∙ (ap (λ (l : Loan). length (places_of l)) same ∙ as_many before)
