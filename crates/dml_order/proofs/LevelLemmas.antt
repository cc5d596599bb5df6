-- Levels rise from a place to each later one that clashes with it.
use Rattle.std.proofs.Common.{◌≡◌, ℕ, ◌+◌, ◌<◌, ◌≤◌, zero, suc, max, Bool, true, false, cond, List, [], ◌∷◌, ◌++◌, length, map, filter, fold, refl, sym, ◌∙◌, ap, arith, ⊎_elim}
use Rattle.std.proofs.lemmas.Bool.{cases_Bool, cases_eq, cond-true, cond-false}
use Rattle.std.proofs.lemmas.List.{length_push, get_or_push, get_or_append_left, map-append}
use Rattle.std.proofs.lemmas.List.Elements.{filter-append}
use Rattle.std.proofs.lemmas.List.Sums.{fold-append}
use Rattle.std.specs.Prelude.{slice_index}
use Rattle.std.specs.List.{range_with_len}
use Rattle.dml_types.specs.Conflict.{level_over, clash_levels}
use Rattle.dml_order.proofs.OrderLemmas.{range_split}

-- the level that the places below k give to place i
abbrev pub level_among : (ℕ → ℕ → Bool) → List ℕ → ℕ → ℕ → ℕ
level_among clash levels i k = fold max 0 (map (λ j. slice_index levels j + 1) (filter (λ j. clash j i) (range_with_len 0 k)))

pub range_more : (k : ℕ) → range_with_len 0 (k + 1) ≡ range_with_len 0 k ++ k ∷ []
range_more k = range_split 0 k 1 ∙ ap (λ f. range_with_len 0 k ++ range_with_len f 1) (let e : 0 + k ≡ k = omega arith in e)

pub level_more : (clash : ℕ → ℕ → Bool) (levels : List ℕ) (i k : ℕ) → level_among clash levels i (k + 1) ≡ cond (clash k i) (max (level_among clash levels i k) (slice_index levels k + 1)) (level_among clash levels i k)
level_more clash levels i k =
    let f : ℕ → ℕ = λ j. slice_index levels j + 1 in
    let p : ℕ → Bool = λ j. clash j i in
    ap (λ (xs : List ℕ). fold max 0 (map f (filter p xs))) (range_more k)
    ∙ (ap (λ (xs : List ℕ). fold max 0 (map f xs)) (filter-append p (range_with_len 0 k) (k ∷ []))
    ∙ (ap (fold max 0) (map-append f (filter p (range_with_len 0 k)) (filter p (k ∷ [])))
    ∙ (fold-append max 0 (map f (filter p (range_with_len 0 k))) (map f (filter p (k ∷ [])))
    ∙ last (clash k i) (level_among clash levels i k) (slice_index levels k + 1))))
  where
    last : (b : Bool) (level raised : ℕ) → fold max level (map (λ j. slice_index levels j + 1) (cond b (k ∷ []) [])) ≡ cond b (max level (slice_index levels k + 1)) level
    last true level raised = refl
    last false level raised = refl

-- one place more: it clashes and stands as high, it does not clash, or it stands lower
step_of : (clash : ℕ → ℕ → Bool) (levels : List ℕ) (i k : ℕ) → (b : Bool) → clash k i ≡ b → level_among clash levels i (k + 1) ≡ cond b (max (level_among clash levels i k) (slice_index levels k + 1)) (level_among clash levels i k)
step_of clash levels i k b is =
    level_more clash levels i k
    ∙ ap (λ t. cond t (max (level_among clash levels i k) (slice_index levels k + 1)) (level_among clash levels i k)) is

pub level_raised : (clash : ℕ → ℕ → Bool) (levels : List ℕ) (i k level : ℕ) → level ≡ level_among clash levels i k → clash k i ≡ true → level ≤ slice_index levels k → slice_index levels k + 1 ≡ level_among clash levels i (k + 1)
level_raised clash levels i k level before here high = omega (arith, step_of clash levels i k true here, before)

pub level_passed : (clash : ℕ → ℕ → Bool) (levels : List ℕ) (i k level : ℕ) → level ≡ level_among clash levels i k → clash k i ≡ false → level ≡ level_among clash levels i (k + 1)
level_passed clash levels i k level before gone = before ∙ sym (step_of clash levels i k false gone)

pub level_kept : (clash : ℕ → ℕ → Bool) (levels : List ℕ) (i k level : ℕ) → level ≡ level_among clash levels i k → slice_index levels k < level → level ≡ level_among clash levels i (k + 1)
level_kept clash levels i k level before low =
    ⊎_elim (λ here. omega (arith, step_of clash levels i k true here, before)) (λ gone. level_passed clash levels i k level before gone)
    (cases_Bool (clash k i))

-- what clashes stands lower
pub level_above : (clash : ℕ → ℕ → Bool) (levels : List ℕ) (i k n : ℕ) → k < n → clash k i ≡ true → slice_index levels k < level_among clash levels i n
level_above clash levels i k zero below clashing = absurd (omega arith)
level_above clash levels i k (suc n) below clashing =
    let step : level_among clash levels i (suc n) ≡ cond (clash n i) (max (level_among clash levels i n) (slice_index levels n + 1)) (level_among clash levels i n) =
    ap (level_among clash levels i) (let e : suc n ≡ n + 1 = omega arith in e) ∙ level_more clash levels i n in
    ⊎_elim (λ same.
    let here : clash n i ≡ true = ap (λ j. clash j i) (sym same) ∙ clashing in
    omega (arith, step ∙ cond-true (clash n i) _ _ here, ap (slice_index levels) same))
    (λ other.
    let before = level_above clash levels i k n (omega (arith, other)) clashing in
    ⊎_elim (λ here. omega (arith, before, step ∙ cond-true (clash n i) _ _ here))
    (λ gone. omega (arith, before, step ∙ cond-false (clash n i) _ _ gone))
    (cases_Bool (clash n i)))
    (cases_eq k n)

pub level_among_le : (clash : ℕ → ℕ → Bool) (levels : List ℕ) (i n : ℕ) → ((k : ℕ) → k < n → slice_index levels k ≤ k) → level_among clash levels i n ≤ n
level_among_le clash levels i zero low = omega arith
level_among_le clash levels i (suc n) low =
    let step : level_among clash levels i (suc n) ≡ cond (clash n i) (max (level_among clash levels i n) (slice_index levels n + 1)) (level_among clash levels i n) =
    ap (level_among clash levels i) (let e : suc n ≡ n + 1 = omega arith in e) ∙ level_more clash levels i n in
    let before = level_among_le clash levels i n (λ k below. low k (omega arith)) in
    ⊎_elim (λ here. omega (arith, before, low n (omega arith), step ∙ cond-true (clash n i) _ _ here))
    (λ gone. omega (arith, before, step ∙ cond-false (clash n i) _ _ gone))
    (cases_Bool (clash n i))

-- none clashes: level 0
pub level_among_none : (clash : ℕ → ℕ → Bool) (levels : List ℕ) (i n : ℕ) → ((k : ℕ) → k < n → clash k i ≡ false) → level_among clash levels i n ≡ 0
level_among_none clash levels i zero none = refl
level_among_none clash levels i (suc n) none =
    ap (level_among clash levels i) (let e : suc n ≡ n + 1 = omega arith in e)
    ∙ (level_more clash levels i n
    ∙ (cond-false (clash n i) _ _ (none n (omega arith)) ∙ level_among_none clash levels i n (λ k below. none k (omega arith))))

-- the list of levels
pub length_levels_of : (clash : ℕ → ℕ → Bool) (n : ℕ) → length (clash_levels clash n) ≡ n
length_levels_of clash zero = refl
length_levels_of clash (suc n) = omega (arith, length_push (clash_levels clash n) (level_over clash (clash_levels clash n) n), length_levels_of clash n)

pub levels_of_more : (clash : ℕ → ℕ → Bool) (n : ℕ) → clash_levels clash (n + 1) ≡ clash_levels clash n ++ level_over clash (clash_levels clash n) n ∷ []
levels_of_more clash n = ap (clash_levels clash) (let e : n + 1 ≡ suc n = omega arith in e)

-- a place's level is not changed by the places behind it
pub level_stays : (clash : ℕ → ℕ → Bool) (n i : ℕ) → i < n → slice_index (clash_levels clash n) i ≡ level_over clash (clash_levels clash i) i
level_stays clash zero i below = absurd (omega arith)
level_stays clash (suc n) i below =
    ⊎_elim (λ same.
    ap (slice_index (clash_levels clash (suc n))) same
    ∙ (get_or_push (clash_levels clash n) (level_over clash (clash_levels clash n) n) 0 n (length_levels_of clash n)
    ∙ ap (λ k. level_over clash (clash_levels clash k) k) (sym same)))
    (λ other.
    get_or_append_left (clash_levels clash n) (level_over clash (clash_levels clash n) n ∷ []) 0 i (omega (arith, other, length_levels_of clash n))
    ∙ level_stays clash n i (omega (arith, other)))
    (cases_eq i n)

pub level_le : (clash : ℕ → ℕ → Bool) (n i : ℕ) → i < n → slice_index (clash_levels clash n) i ≤ i
level_le clash zero i below = absurd (omega arith)
level_le clash (suc n) i below =
    ⊎_elim (λ same.
    let low = level_among_le clash (clash_levels clash n) n n (λ k under. level_le clash n k under) in
    omega (arith, low, ap (slice_index (clash_levels clash (suc n))) same, get_or_push (clash_levels clash n) (level_over clash (clash_levels clash n) n) 0 n (length_levels_of clash n), same))
    (λ other.
    omega (arith, level_le clash n i (omega (arith, other)), get_or_append_left (clash_levels clash n) (level_over clash (clash_levels clash n) n ∷ []) 0 i (omega (arith, other, length_levels_of clash n))))
    (cases_eq i n)

pub levels_rise : (clash : ℕ → ℕ → Bool) (n k i : ℕ) → k < i → i < n → clash k i ≡ true → slice_index (clash_levels clash n) k < slice_index (clash_levels clash n) i
levels_rise clash n k i low below clashing =
    let above = level_above clash (clash_levels clash i) i k i low clashing in
    let same : slice_index (clash_levels clash i) k ≡ slice_index (clash_levels clash n) k = level_stays clash i k low ∙ sym (level_stays clash n k (omega arith)) in
    omega (arith, above, same, level_stays clash n i below)
