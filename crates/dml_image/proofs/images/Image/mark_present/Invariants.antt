use Rattle.std.proofs.Common.{◌≡◌, ℕ, ◌+◌, ◌<◌, false, get_or}
use Rattle.dml_segments.specs.Brought.{has_page}
use Rattle.dml_image.proofs.images.Image.mark_present.Given as goal

abbrev pub invariant-loop-i : goal.invariant-loop-i
invariant-loop-i l = (k : ℕ) → k < l.i → get_or l.marks k false ≡ has_page l.self (l.first + k)
