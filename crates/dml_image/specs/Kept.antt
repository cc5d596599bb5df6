-- What an image's pages are to contracts: its own, or lent memory, which names the reference that was lent, or
-- segments.
use Rattle.std.specs.Prelude.{ℕ, ◌/◌, Bool, true, List, [], ◌∷◌, Option, Some, None, length, replicate}
use Rattle.dml_types.specs.Memory.{Memory, Loan, ByHome, InOnePiece, memory_of, page_size}
use Rattle.dml_image.specs.declared.images.Pages.TheVariants as pages
use Rattle.dml_image.specs.declared.images.Pages.{Pages}
use Rattle.dml_image.specs.declared.lent.Lent.{Lent}
use Rattle.dml_image.specs.declared.whole.Whole.{Whole}

abbrev pub lent_memory : Lent → Memory
lent_memory lent = memory_of lent.present.now lent.content.now (Some lent.content.ghost_name)

-- lent in one piece: each page is present
abbrev pub whole_memory : Whole → Memory
whole_memory whole =
    record {
      present = replicate (length whole.content.now / page_size) true;
      bytes = whole.content.now;
      home = None;
      loan = InOnePiece whole.content.ghost_name;
    }

-- Lent memory as an image keeps it: a list of marks says which pages are present, and no mark at all that the memory is
-- lent in one piece.

abbrev pub marked_pages : List Bool → List ℕ → List Bool
marked_pages [] bytes = replicate (length bytes / page_size) true
marked_pages (mark ∷ marks) bytes = mark ∷ marks

abbrev pub marked_home : List Bool → ℕ → Option ℕ
marked_home [] name = None
marked_home (mark ∷ marks) name = Some name

abbrev pub marked_loan : List Bool → ℕ → Loan
marked_loan [] name = InOnePiece name
marked_loan (mark ∷ marks) name = ByHome

abbrev pub marked_memory : List Bool → List ℕ → ℕ → Memory
marked_memory marks bytes name =
    record {
      present = marked_pages marks bytes;
      bytes = bytes;
      home = marked_home marks name;
      loan = marked_loan marks name;
    }

abbrev pub loan_memory : Lent → Memory
loan_memory lent = marked_memory lent.present.now lent.content.now lent.content.ghost_name

abbrev pub kept_by : Pages → Memory
kept_by (pages.Own table) = table
kept_by (pages.Lent lent) = loan_memory lent
kept_by (pages.Segments segments) = segments
