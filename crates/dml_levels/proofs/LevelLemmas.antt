-- The level of a place from the places before it, from the last down.
use Rattle.std.proofs.Common.{◌≡◌, ℕ, ◌+◌, ◌<◌, ◌≤◌, ◌⊎◌, inl, inr, zero, suc, max, Bool, true, false, cond, List, refl, sym, ◌∙◌, ap, arith, ⊎_elim}
use Rattle.std.proofs.lemmas.Bool.{cases_Bool, cases_eq, cases_lt, cond-true, cond-false, false≢true}
use Rattle.std.specs.Prelude.{slice_index}
use Rattle.dml_types.specs.Conflict.{level_over}
use Rattle.dml_order.proofs.LevelLemmas.{level_above, level_among, level_more}

-- each place from k on that clashes with i stands lower
abbrev pub AreLower : (ℕ → ℕ → Bool) → List ℕ → ℕ → ℕ → ℕ → Type 0
AreLower clash levels i k level = (j : ℕ) → k ≤ j → j < i → clash j i ≡ true → slice_index levels j < level

-- a place that clashes with i stands right below
pub record IsAbove (clash : ℕ → ℕ → Bool) (levels : List ℕ) (i level : ℕ) : Type 0 where
  pub place : ℕ
  pub before : place < i
  pub clashes : clash place i ≡ true
  pub below : slice_index levels place + 1 ≡ level

-- what is known after the places from k on
pub record IsHighest (clash : ℕ → ℕ → Bool) (levels : List ℕ) (i k level : ℕ) : Type 0 where
  pub lower : AreLower clash levels i k level
  pub reached : (level ≡ 0) ⊎ IsAbove clash levels i level

pub highest_of_none : (clash : ℕ → ℕ → Bool) (levels : List ℕ) (i : ℕ) → IsHighest clash levels i i 0
highest_of_none clash levels i = record { lower = λ j from to clashing. absurd (omega arith); reached = inl refl }

-- one place more: it clashes and stands as high, it does not clash, or it stands lower
pub highest_raised : (clash : ℕ → ℕ → Bool) (levels : List ℕ) (i k n level : ℕ) → IsHighest clash levels i n level → n ≡ k + 1 → k < i → clash k i ≡ true → level ≤ slice_index levels k → IsHighest clash levels i k (slice_index levels k + 1)
highest_raised clash levels i k n level known next before here high = record {
  lower = λ j from to clashing. ⊎_elim (λ same. omega (arith, ap (slice_index levels) same)) (λ other. omega (arith, known.lower j (omega (arith, other)) to clashing)) (cases_eq j k);
  reached = inr (record { place = k; before = before; clashes = here; below = refl });
}

pub highest_passed : (clash : ℕ → ℕ → Bool) (levels : List ℕ) (i k n level : ℕ) → IsHighest clash levels i n level → n ≡ k + 1 → clash k i ≡ false → IsHighest clash levels i k level
highest_passed clash levels i k n level known next gone = record {
  lower = λ j from to clashing. ⊎_elim (λ same. absurd (false≢true (sym gone ∙ (ap (λ p. clash p i) (sym same) ∙ clashing)))) (λ other. known.lower j (omega (arith, other)) to clashing) (cases_eq j k);
  reached = known.reached;
}

pub highest_kept : (clash : ℕ → ℕ → Bool) (levels : List ℕ) (i k n level : ℕ) → IsHighest clash levels i n level → n ≡ k + 1 → slice_index levels k < level → IsHighest clash levels i k level
highest_kept clash levels i k n level known next low = record {
  lower = λ j from to clashing. ⊎_elim (λ same. omega (arith, low, ap (slice_index levels) same)) (λ other. known.lower j (omega (arith, other)) to clashing) (cases_eq j k);
  reached = known.reached;
}

pub among_under : (clash : ℕ → ℕ → Bool) (levels : List ℕ) (i n level : ℕ) → ((j : ℕ) → j < n → clash j i ≡ true → slice_index levels j < level) → level_among clash levels i n ≤ level
among_under clash levels i zero level lower = omega arith
among_under clash levels i (suc n) level lower =
    let step : level_among clash levels i (suc n) ≡ cond (clash n i) (max (level_among clash levels i n) (slice_index levels n + 1)) (level_among clash levels i n) =
    ap (level_among clash levels i) (let e : suc n ≡ n + 1 = omega arith in e) ∙ level_more clash levels i n in
    let before = among_under clash levels i n level (λ j below clashing. lower j (omega arith) clashing) in
    ⊎_elim (λ here. omega (arith, before, lower n (omega arith) here, step ∙ cond-true (clash n i) _ _ here))
    (λ gone. omega (arith, before, step ∙ cond-false (clash n i) _ _ gone))
    (cases_Bool (clash n i))

-- the places that are left stand lower than the level, since no place stands higher than it is far
pub highest_is : (clash : ℕ → ℕ → Bool) (levels : List ℕ) (i k level : ℕ) → IsHighest clash levels i k level → ((j : ℕ) → j < i → slice_index levels j ≤ j) → k ≤ level → level ≡ level_over clash levels i
highest_is clash levels i k level known low left =
    let under : level_over clash levels i ≤ level =
    among_under clash levels i i level (λ j below clashing.
    ⊎_elim (λ near. omega (arith, near, low j below)) (λ far. known.lower j far below clashing) (cases_lt j k)) in
    let over : level ≤ level_over clash levels i =
    ⊎_elim (λ none. omega (arith, none)) (λ above. omega (arith, above.below, level_above clash levels i above.place i above.before above.clashes)) known.reached in
    omega (arith, under, over)
