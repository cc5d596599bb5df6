-- Memory that is lent in segments: the first page of each and the bytes of its whole pages, in rising order, and no
-- page in two of them. A page in none of them is absent and stands as zeros.
use Rattle.std.specs.Prelude.{⊤, ◌≡◌, ℕ, ◌+◌, ◌-◌, ◌*◌, ◌/◌, ◌%◌, ◌<◌, ◌≤◌, Bool, true, false, List, [], ◌∷◌, ◌++◌, None, length, map, replicate, slice_index_or, slice_set}
use Rattle.dml_types.specs.Memory.{Memory, Loan, ByHome, InOnePiece, InSegments, Place, bytes_at, overwrite, page_size}
use Rattle.dml_segments.specs.declared.segments.Segment.{Segment}
use Rattle.dml_segments.specs.declared.segments.Spot.{Spot}

-- a segment's first page, its bytes, and the name of the reference that was lent
pub record Piece : Type 0 where
  pub first : ℕ
  pub bytes : List ℕ
  pub name : ℕ

abbrev pub piece_of : Segment → Piece
piece_of segment = record { first = segment.first; bytes = segment.content.now; name = segment.content.ghost_name }

abbrev pub pieces_of : List Segment → List Piece
pieces_of segments = map piece_of segments

abbrev pub pages_of : Piece → ℕ
pages_of piece = length piece.bytes / page_size

-- the page behind a piece
abbrev pub end_of : Piece → ℕ
end_of piece = piece.first + pages_of piece

-- whole pages, and none before this page or before the end of the piece in front
abbrev pub AreInOrder : ℕ → List Piece → Type 0
AreInOrder from [] = ⊤
AreInOrder from (piece ∷ pieces) =
    (from ≤ piece.first) × (length piece.bytes % page_size ≡ 0) × AreInOrder (end_of piece) pieces

-- the marks and the bytes of all pages from this one on
abbrev pub marks_from : ℕ → List Piece → List Bool
marks_from from [] = []
marks_from from (piece ∷ pieces) =
    replicate (piece.first - from) false ++ (replicate (pages_of piece) true ++ marks_from (end_of piece) pieces)

abbrev pub bytes_from : ℕ → List Piece → List ℕ
bytes_from from [] = []
bytes_from from (piece ∷ pieces) =
    replicate (page_size * (piece.first - from)) 0 ++ (piece.bytes ++ bytes_from (end_of piece) pieces)

abbrev pub place_of : Piece → Place
place_of piece = record { first = piece.first; pages = pages_of piece; name = piece.name }

-- segments as a memory
abbrev pub pieces_memory : List Piece → Memory
pieces_memory pieces =
    record {
      present = marks_from 0 pieces;
      bytes = bytes_from 0 pieces;
      home = None;
      loan = InSegments (map place_of pieces);
    }

-- segments that are a memory: in order, with 1 to 2^32 - 1 pages up to the end of the last one
pub record AreSegments (pieces : List Piece) : Type 0 where
  pub order : AreInOrder 0 pieces
  pub least_pages : 1 ≤ length (marks_from 0 pieces)
  pub most_pages : length (marks_from 0 pieces) ≤ 4294967295

-- the piece at a place of a list; one of no bytes past its end
abbrev pub no_piece : Piece
no_piece = record { first = 0; bytes = []; name = 0 }

abbrev pub piece_at : List Piece → ℕ → Piece
piece_at pieces k = slice_index_or pieces k no_piece

-- nothing is left of it but its first page
abbrev pub IsTakenOut : Piece → Piece → Type 0
IsTakenOut left before = (left.first ≡ before.first) × (left.bytes ≡ [])

-- an address is one of a piece's
abbrev pub IsIn : Piece → ℕ → Type 0
IsIn piece address =
    (page_size * piece.first ≤ address) × (address < page_size * piece.first + length piece.bytes)

-- an address is that of a byte of a piece, with so much room up to the piece's end
pub record IsAt (pieces : List Piece) (spot : Spot) (address : ℕ) : Type 0 where
  pub below : spot.segment < length pieces
  pub some : 0 < spot.room
  pub room : spot.place + spot.room ≡ length (piece_at pieces spot.segment).bytes
  pub here : page_size * (piece_at pieces spot.segment).first + spot.place ≡ address

-- a piece with bytes written over it from a place on, and it among others
abbrev pub over : Piece → ℕ → List ℕ → Piece
over piece place bytes = record piece { bytes = overwrite piece.bytes place bytes }

abbrev pub written : List Piece → ℕ → ℕ → List ℕ → List Piece
written pieces k place bytes = slice_set pieces k (over (piece_at pieces k) place bytes)

-- where the segments of a memory lie, the k-th of them, and its bytes
abbrev pub places_of : Loan → List Place
places_of ByHome = []
places_of (InOnePiece name) = []
places_of (InSegments places) = places

abbrev pub place_at : Memory → ℕ → Place
place_at memory k = slice_index_or (places_of memory.loan) k (place_of no_piece)

abbrev pub segment_bytes : Memory → ℕ → List ℕ
segment_bytes memory k =
    let place = place_at memory k in bytes_at memory (page_size * place.first) (page_size * place.pages)
