-- What one list of numbers has room for.
use Rattle.std.specs.Prelude.{ℕ, List}

-- links between the places of a list, and the places of a wave
pub record Parts : Type 0 where
  pub links : List ℕ
  pub wave : List ℕ
