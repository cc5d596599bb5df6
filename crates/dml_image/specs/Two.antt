-- Two segments that are lent together.
use Rattle.std.specs.Prelude.{Bool, List, [], ◌∷◌, length, nat_eq}
use Rattle.dml_types.specs.Memory.{Memory}
use Rattle.dml_image.specs.declared.two.Two.{Two}
use Rattle.dml_segments.specs.Pieces.{Piece, piece_of, places_of}

abbrev pub pieces_of_two : Two → List Piece
pieces_of_two two = piece_of two.low ∷ piece_of two.high ∷ []

-- it is lent in two segments
abbrev pub has_two_segments : Memory → Bool
has_two_segments memory = nat_eq (length (places_of memory.loan)) 2
