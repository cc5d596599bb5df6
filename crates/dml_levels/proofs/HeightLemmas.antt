-- The level of a job is the greatest height of the cells that it covers.
use Rattle.std.proofs.Common.{◌≡◌, ◌⊎◌, inl, inr, ℕ, ◌+◌, ◌<◌, ◌≤◌, max, Bool, true, List, [], ◌∷◌, ◌++◌, length, ap, ◌∙◌, subst, arith, ⊎_elim}
use Rattle.std.proofs.lemmas.Bool.{cases_eq, cases_lt}
use Rattle.std.proofs.lemmas.List.{get_or_append_left, get_or_push}
use Rattle.std.specs.Prelude.{slice_index}
use Rattle.dml_types.specs.Conflict.{level_over}
use Rattle.dml_order.proofs.LevelLemmas.{level_above}
use Rattle.dml_levels.proofs.LevelLemmas.{among_under}

-- a job below n has this cell, and the cell stands right above its level
pub record IsSetBy (has : ℕ → ℕ → Type 0) (levels : List ℕ) (n : ℕ) (heights : List ℕ) (cell : ℕ) : Type 0 where
  pub job : ℕ
  pub before : job < n
  pub covers : has job cell
  pub above : slice_index levels job + 1 ≡ slice_index heights cell

-- each cell stands right above the greatest level of the first n jobs that have it
pub record AreHeights (has : ℕ → ℕ → Type 0) (levels : List ℕ) (n : ℕ) (heights : List ℕ) : Type 0 where
  pub bound : (k cell : ℕ) → k < n → has k cell → slice_index levels k < slice_index heights cell
  pub reached : (cell : ℕ) → (slice_index heights cell ≡ 0) ⊎ IsSetBy has levels n heights cell

-- a cell of the job stands as high as this
pub record IsHeightOf (has : ℕ → ℕ → Type 0) (i : ℕ) (heights : List ℕ) (level : ℕ) : Type 0 where
  pub cell : ℕ
  pub covers : has i cell
  pub same : slice_index heights cell ≡ level

-- one of two jobs writes a cell that the other has
abbrev pub Shared : (reads writes touches : ℕ → ℕ → Type 0) → ℕ → ℕ → ℕ → Type 0
Shared reads writes touches k i cell = (writes k cell × reads i cell) ⊎ (touches k cell × writes i cell)

under_height : (has other : ℕ → ℕ → Type 0) (levels : List ℕ) (i k cell level : ℕ) (heights : List ℕ) → AreHeights has levels i heights → k < i → ((c : ℕ) → other i c → slice_index heights c ≤ level) → has k cell → other i cell → slice_index levels k < level
under_height has other levels i k cell level heights known below bound here there =
    omega (arith, known.bound k cell below here, bound cell there)

over_height : (clash : ℕ → ℕ → Bool) (has other : ℕ → ℕ → Type 0) (levels : List ℕ) (i level : ℕ) (heights : List ℕ) → AreHeights has levels i heights → ((k cell : ℕ) → k < i → has k cell → other i cell → clash k i ≡ true) → IsHeightOf other i heights level → level ≤ level_over clash levels i
over_height clash has other levels i level heights known clashing at =
    ⊎_elim (λ none. omega (arith, none, at.same))
    (λ set. omega (arith, set.above, at.same, level_above clash levels i set.job i set.before (clashing set.job at.cell set.before set.covers at.covers)))
    (known.reached at.cell)

pub level_of_heights : (clash : ℕ → ℕ → Bool) (reads writes touches : ℕ → ℕ → Type 0) (levels written touched : List ℕ) (i level : ℕ) → AreHeights writes levels i written → AreHeights touches levels i touched → ((k : ℕ) → k < i → clash k i ≡ true → (cell : ℕ) × Shared reads writes touches k i cell) → ((k cell : ℕ) → k < i → Shared reads writes touches k i cell → clash k i ≡ true) → ((cell : ℕ) → reads i cell → slice_index written cell ≤ level) → ((cell : ℕ) → writes i cell → slice_index touched cell ≤ level) → (level ≡ 0) ⊎ (IsHeightOf reads i written level ⊎ IsHeightOf writes i touched level) → level ≡ level_over clash levels i
level_of_heights clash reads writes touches levels written touched i level known_written known_touched meets clashing bound_reads bound_writes reached =
    let under : level_over clash levels i ≤ level =
    among_under clash levels i i level (λ k below here.
    let met = meets k below here in
    ⊎_elim (λ read. under_height writes reads levels i k met.0 level written known_written below bound_reads read.0 read.1)
    (λ write. under_height touches writes levels i k met.0 level touched known_touched below bound_writes write.0 write.1) met.1) in
    let over : level ≤ level_over clash levels i =
    ⊎_elim (λ none. omega (arith, none))
    (λ at. ⊎_elim (λ read. over_height clash writes reads levels i level written known_written (λ k cell below a b. clashing k cell below (inl (a, b))) read)
    (λ write. over_height clash touches writes levels i level touched known_touched (λ k cell below a b. clashing k cell below (inr (a, b))) write) at) reached in
    omega (arith, under, over)

-- one job more, whose cells are raised right above its level
pub heights_more : (has : ℕ → ℕ → Type 0) (levels old new : List ℕ) (i level : ℕ) → length levels ≡ i → AreHeights has levels i old → ((cell : ℕ) → has i cell → slice_index new cell ≡ max (slice_index old cell) (level + 1)) → ((cell : ℕ) → (has i cell) ⊎ (slice_index new cell ≡ slice_index old cell)) → AreHeights has (levels ++ level ∷ []) (i + 1) new
heights_more has levels old new i level long known raised kept =
    let before : (k : ℕ) → k < i → slice_index (levels ++ level ∷ []) k ≡ slice_index levels k =
    λ k below. get_or_append_left levels (level ∷ []) 0 k (omega (arith, long, below)) in
    let here : slice_index (levels ++ level ∷ []) i ≡ level =
    get_or_push levels level 0 i long in
    record {
      bound = λ k cell below covers.
          ⊎_elim (λ same. omega (arith, ap (slice_index (levels ++ level ∷ [])) same, here, raised cell (subst (λ j. has j cell) same covers)))
          (λ other. ⊎_elim (λ own. omega (arith, before k (omega (arith, below, other)), known.bound k cell (omega (arith, below, other)) covers, raised cell own))
          (λ same. omega (arith, before k (omega (arith, below, other)), known.bound k cell (omega (arith, below, other)) covers, same)) (kept cell))
          (cases_eq k i);
      reached = λ cell.
          let earlier : slice_index new cell ≡ slice_index old cell → (slice_index new cell ≡ 0) ⊎ IsSetBy has (levels ++ level ∷ []) (i + 1) new cell =
          λ same. ⊎_elim (λ none. inl (same ∙ none))
          (λ set. inr (record { job = set.job; before = omega (arith, set.before); covers = set.covers; above = omega (arith, before set.job set.before, set.above, same) }))
          (known.reached cell) in
          ⊎_elim (λ own. ⊎_elim (λ low. inr (record { job = i; before = omega arith; covers = own; above = omega (arith, here, low, raised cell own) }))
          (λ high. earlier (omega (arith, high, raised cell own))) (cases_lt (slice_index old cell) (level + 1)))
          earlier (kept cell);
    }
