-- Which bytes of an image are copied at once, from one address on to another.
use Rattle.std.specs.Prelude.{◌≤◌, ◌+◌, ◌%◌, ℕ}
pub use Rattle.dml_segments.specs.Copied.{IsOneCopy}
use Rattle.dml_image.specs.declared.images.Pages.TheVariants as pages
use Rattle.dml_image.specs.declared.images.Pages.{Pages}

-- among an image's own pages each of the two ranges lies in one page; in segments this says of none
abbrev pub IsCopyIn : Pages → ℕ → ℕ → ℕ → Type 0
IsCopyIn (pages.Own _) from to n = (from % 4096 + n ≤ 4096) × (to % 4096 + n ≤ 4096) × IsOneCopy from to n
IsCopyIn (pages.Lent _) from to n = IsOneCopy from to n
IsCopyIn (pages.Segments _) from to n = ⊥
