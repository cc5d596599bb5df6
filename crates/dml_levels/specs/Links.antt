-- The places of a list, each linked to the next one of its level.
use Rattle.std.specs.Prelude.{◌≡◌, ℕ, ◌+◌, ◌-◌, ◌<◌, ◌≤◌, ◌==◌, List, length, zero, suc, slice_index, if◌then◌else◌}
use Rattle.dml_order.specs.Waves.{depth}

-- the first place of a level among so many from `from` on; the place behind them where there is none
abbrev pub first_place : List ℕ → ℕ → ℕ → ℕ → ℕ
first_place levels level from zero = from
first_place levels level from (suc count) =
    if slice_index levels from == level then from else first_place levels level (from + 1) count

abbrev pub first_from : List ℕ → ℕ → ℕ → ℕ
first_from levels level from = first_place levels level from (length levels - from)

-- for each place that is at least `from` the next one of its level, and behind these for each level the first one
-- that is at least `from`
pub record AreLinked (levels links : List ℕ) (from : ℕ) : Type 0 where
  pub long : length links ≡ length levels + depth levels
  pub next :
      (i : ℕ) → from ≤ i → i < length levels
      → slice_index links i ≡ first_from levels (slice_index levels i) (i + 1)
  pub first :
      (level : ℕ) → level < depth levels
      → slice_index links (length levels + level) ≡ first_from levels level from
