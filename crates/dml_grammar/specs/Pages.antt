-- What a line may ask of the lines before it, and the shortest lines that answer alike: the reader keeps no
-- others.
use Rattle.std.specs.Prelude.{◌≡◌, ◌<◌, ◌≤◌, ℕ, ◌+◌, Bool, true, false, List, [], ◌∷◌, ◌++◌, length, nat_eq, replicate, slice_index_or, Option, Some, None}
use Rattle.dml_types.specs.Job.{no_op_job}
use Rattle.dml_grammar.specs.declared.lines.Line.{Line}
use Rattle.dml_grammar.specs.declared.lines.Line.TheVariants as line
use Rattle.dml_grammar.specs.Grammar.{is_present, most_jobs, open_jobs, pages_of}

-- the image of lines has these pages, each present or not
pub record Tracks (present : List Bool) (before : List Line) : Type 0 where
  pub pages : length present ≡ pages_of before
  pub marks : (page : ℕ) → slice_index_or present page false ≡ is_present before page

-- what may be asked has one answer after these lines and after those
pub record Alike (these those : List Line) : Type 0 where
  pub none : nat_eq (length these) 0 ≡ nat_eq (length those) 0
  pub pages : pages_of these ≡ pages_of those
  pub marks : (page : ℕ) → is_present these page ≡ is_present those page
  pub jobs : open_jobs these ≡ open_jobs those

-- lines that bring the marked pages, numbered from a number on
abbrev pub bringing : ℕ → List Bool → List Line
bringing number [] = []
bringing number (true ∷ present) = line.Page number [] ∷ bringing (number + 1) present
bringing number (false ∷ present) = bringing (number + 1) present

-- the lines that make an image of these pages; none where there is no image yet
abbrev pub image_lines : List Bool → List Line
image_lines [] = []
image_lines (first ∷ present) = line.Image (length (first ∷ present)) ∷ bringing 0 (first ∷ present)

-- lines that open a batch of so many jobs; none where no batch is open
abbrev pub batch_lines : Option ℕ → List Line
batch_lines None = []
batch_lines (Some jobs) = line.Batch ∷ replicate jobs (line.Job no_op_job)

abbrev pub progress_lines : List Bool → Option ℕ → List Line
progress_lines present jobs = image_lines present ++ batch_lines jobs

-- a batch stands behind the image line, and has so many jobs at most
abbrev pub MayBeOpen : List Bool → Option ℕ → Type 0
MayBeOpen present None = Unit {0}
MayBeOpen present (Some jobs) = (0 < length present) × (jobs ≤ most_jobs)
