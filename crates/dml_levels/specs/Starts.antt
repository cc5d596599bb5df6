-- Where the place that parts some starts is sought.
use Rattle.std.specs.Prelude.{ℕ, ◌+◌, ◌<◌, ◌≤◌, List, length, slice_index}

-- what is known while the place is sought between first and first + left
pub record IsSought (starts : List ℕ) (address first left : ℕ) : Type 0 where
  pub within : first + left ≤ length starts
  pub low : (k : ℕ) → k < first → slice_index starts k ≤ address
  pub high : (k : ℕ) → first + left ≤ k → k < length starts → address < slice_index starts k
