-- Two lists of ranges share a byte exactly where they have a cell in common.
use Rattle.std.proofs.Common.{◌≡◌, inl, inr, ℕ, ◌+◌, ◌-◌, ◌<◌, ◌≤◌, max, min, true, List, [], ◌∷◌, get_or, ap, ◌∙◌, arith, ⊎_elim}
use Rattle.std.proofs.lemmas.Bool.{cases_lt, lt-ltb, ltb-true, or_cases, or_left, or_right, false≢true}
use Rattle.std.proofs.lemmas.List.{get_or_default}
use Rattle.std.proofs.lemmas.List.Elements.{All-head, All-tail}
use Rattle.std.specs.Prelude.{All, Contains}
use Rattle.std.specs.List.{list_any}
use Rattle.dml_types.specs.declared.spans.Span.{Span}
use Rattle.dml_types.specs.Job.{any_shares, shares}
use Rattle.dml_levels.specs.Cells.{IsCell, IsCovered, cell_of, cells_of, cover_of}
use Rattle.dml_levels.proofs.CellLemmas.{cell_le, cell_lt}

-- a range that is not empty, whose start is among those of the list
pub record IsPlaced (starts : List ℕ) (range : Span) : Type 0 where
  pub some : 0 < range.len
  pub start : Contains starts range.start

-- a cell of both
pub record Meet (one other : ℕ → Type 0) : Type 0 where
  pub cell : ℕ
  pub first : one cell
  pub second : other cell

-- ranges that share a byte have a cell in common: that of the greater start
meet_of_shares : (starts : List ℕ) (a b : Span) → shares a b ≡ true → Meet (IsCell (cells_of starts a)) (IsCell (cells_of starts b))
meet_of_shares starts a b shared =
    let common : max a.start b.start < min (a.start + a.len) (b.start + b.len) = ltb-true _ _ shared in
    let x : ℕ = max a.start b.start in record {
      cell = cell_of starts x;
      first = record { from = cell_le starts a.start x (omega arith); to = omega (arith, cell_le starts x (a.start + (a.len - 1)) (omega (arith, common))) };
      second = record { from = cell_le starts b.start x (omega arith); to = omega (arith, cell_le starts x (b.start + (b.len - 1)) (omega (arith, common))) };
    }

-- a range that starts behind another has no cell in common with it
no_gap : (starts : List ℕ) (a b : Span) (cell : ℕ) → IsPlaced starts b → IsCell (cells_of starts a) cell → IsCell (cells_of starts b) cell → b.start ≤ a.start + (a.len - 1)
no_gap starts a b cell placed has_a has_b =
    let k : ℕ = placed.start.0 in
    let start : get_or starts k 0 ≡ b.start = get_or_default starts k 0 b.start placed.start.1 ∙ placed.start.2 in
    ⊎_elim (λ before.
    absurd (omega (arith, has_a.to, has_b.from, ap (cell_of starts) start, cell_lt starts (a.start + (a.len - 1)) k placed.start.1 (omega (arith, before, start)))))
    (λ meets. meets) (cases_lt (a.start + (a.len - 1)) b.start)

-- and the other way round, where both starts are among those of the list
shares_of_meet : (starts : List ℕ) (a b : Span) (cell : ℕ) → IsPlaced starts a → IsPlaced starts b → IsCell (cells_of starts a) cell → IsCell (cells_of starts b) cell → shares a b ≡ true
shares_of_meet starts a b cell placed_a placed_b has_a has_b =
    lt-ltb _ _ (omega (arith, placed_a.some, placed_b.some, no_gap starts a b cell placed_b has_a has_b, no_gap starts b a cell placed_a has_b has_a))

-- one range, and a list
one_meets : (starts : List ℕ) (a : Span) (ys : List Span) → list_any (shares a) ys ≡ true → Meet (IsCell (cells_of starts a)) (IsCovered (cover_of starts ys))
one_meets starts a [] shared = absurd (false≢true shared)
one_meets starts a (y ∷ ys) shared =
    ⊎_elim (λ here. let met = meet_of_shares starts a y here in record { cell = met.cell; first = met.first; second = inl met.second })
    (λ later. let met = one_meets starts a ys later in record { cell = met.cell; first = met.first; second = inr met.second })
    (or_cases (shares a y) (list_any (shares a) ys) shared)

one_shares : (starts : List ℕ) (a : Span) (ys : List Span) (cell : ℕ) → IsPlaced starts a → All (IsPlaced starts) ys → IsCell (cells_of starts a) cell → IsCovered (cover_of starts ys) cell → list_any (shares a) ys ≡ true
one_shares starts a [] cell placed all here there = absurd there
one_shares starts a (y ∷ ys) cell placed all here there =
    ⊎_elim (λ first. or_left _ _ (shares_of_meet starts a y cell placed (All-head (IsPlaced starts) y ys all) here first))
    (λ later. or_right _ _ (one_shares starts a ys cell placed (All-tail (IsPlaced starts) y ys all) here later)) there

pub meet_of_any : (starts : List ℕ) (xs ys : List Span) → any_shares xs ys ≡ true → Meet (IsCovered (cover_of starts xs)) (IsCovered (cover_of starts ys))
meet_of_any starts [] ys shared = absurd (false≢true shared)
meet_of_any starts (x ∷ xs) ys shared =
    ⊎_elim (λ here. let met = one_meets starts x ys here in record { cell = met.cell; first = inl met.first; second = met.second })
    (λ later. let met = meet_of_any starts xs ys later in record { cell = met.cell; first = inr met.first; second = met.second })
    (or_cases (list_any (shares x) ys) (any_shares xs ys) shared)

pub any_of_meet : (starts : List ℕ) (xs ys : List Span) (cell : ℕ) → All (IsPlaced starts) xs → All (IsPlaced starts) ys → IsCovered (cover_of starts xs) cell → IsCovered (cover_of starts ys) cell → any_shares xs ys ≡ true
any_of_meet starts [] ys cell all_xs all_ys here there = absurd here
any_of_meet starts (x ∷ xs) ys cell all_xs all_ys here there =
    ⊎_elim (λ first. or_left _ _ (one_shares starts x ys cell (All-head (IsPlaced starts) x xs all_xs) all_ys first there))
    (λ later. or_right _ _ (any_of_meet starts xs ys cell (All-tail (IsPlaced starts) x xs all_xs) all_ys later there)) here
