-- The places of a list, level by level, cut into waves.
use Rattle.std.specs.Prelude.{false, true, ◌⊎◌, ◌<◌, ◌≡◌, ℕ, ◌+◌, max, Bool, ◌||◌, ◌==◌, List, [], ◌∷◌, ◌++◌, length, map, filter, flat_map, fold, slice_index, if◌then◌else◌}
use Rattle.std.specs.List.{range_with_len}
use Rattle.dml_types.specs.Conflict.{clash_levels}
use Rattle.dml_order.specs.Order.{is_in}

-- the lists of places, one after another
abbrev pub joined : List (List ℕ) → List ℕ
joined waves = flat_map (λ wave. wave) waves

-- one more than the greatest level; 0 where there is no place
abbrev pub depth : List ℕ → ℕ
depth levels = fold max 0 (map (λ level. level + 1) levels)

-- the places of a level that are at least `from`, in list order
abbrev pub later_places : List ℕ → ℕ → ℕ → ℕ → List ℕ
later_places levels level from count = filter (λ i. slice_index levels i == level) (range_with_len from count)

abbrev pub level_places : List ℕ → ℕ → List ℕ
level_places levels level = later_places levels level 0 (length levels)

abbrev pub is_nil : List ℕ → Bool
is_nil list = length list == 0

-- a wave takes places as long as they fit together; the first that does not begins the next. A place by itself
-- always fits
abbrev pub cut_behind : (List ℕ → Bool) → List ℕ → List ℕ → List (List ℕ)
cut_behind fits wave [] = if is_nil wave then [] else wave ∷ []
cut_behind fits wave (i ∷ places) =
    if is_nil wave || fits (wave ++ i ∷ []) then cut_behind fits (wave ++ i ∷ []) places
    else wave ∷ cut_behind fits (i ∷ []) places

abbrev pub cut : (List ℕ → Bool) → List ℕ → List (List ℕ)
cut fits places = cut_behind fits [] places

-- the waves of a level, and of the levels that are at least `from`
abbrev pub level_waves : (List ℕ → Bool) → List ℕ → ℕ → List (List ℕ)
level_waves fits levels level = cut fits (level_places levels level)

abbrev pub higher_waves : (List ℕ → Bool) → List ℕ → ℕ → ℕ → List (List ℕ)
higher_waves fits levels from count = flat_map (level_waves fits levels) (range_with_len from count)

abbrev pub waves_of : (List ℕ → Bool) → List ℕ → List (List ℕ)
waves_of fits levels = higher_waves fits levels 0 (depth levels)

-- the waves of n places, by the levels that the clashes give
abbrev pub clash_waves : (List ℕ → Bool) → (ℕ → ℕ → Bool) → ℕ → List (List ℕ)
clash_waves fits clash n = waves_of fits (clash_levels clash n)

-- the same waves, of places that lie so much further on
abbrev pub further : ℕ → List (List ℕ) → List (List ℕ)
further by waves = map (map (λ i. by + i)) waves

-- In the subject's own words. Of two places the one of the lower level comes first, and inside a level the lower
abbrev pub ComesBefore : List ℕ → ℕ → ℕ → Type 0
ComesBefore levels i k =
    (slice_index levels i < slice_index levels k) ⊎ ((slice_index levels i ≡ slice_index levels k) × (i < k))

-- places rise so, one after another
abbrev pub Rises : List ℕ → List ℕ → Type 0
Rises levels order =
    (before behind : List ℕ) (i earlier : ℕ) → order ≡ before ++ i ∷ behind → is_in earlier before ≡ true
    → ComesBefore levels earlier i

-- the places of a wave are of one level
abbrev pub IsOfOneLevel : List ℕ → List ℕ → Type 0
IsOfOneLevel levels wave =
    (i k : ℕ) → is_in i wave ≡ true → is_in k wave ≡ true → slice_index levels i ≡ slice_index levels k

-- where the next wave begins with a place of the same level, that place did not fit
abbrev pub IsFullBefore : (List ℕ → Bool) → List ℕ → List ℕ → List ℕ → Type 0
IsFullBefore fits levels wave next =
    (i k : ℕ) (more : List ℕ) → next ≡ i ∷ more → is_in k wave ≡ true → slice_index levels k ≡ slice_index levels i
    → fits (wave ++ i ∷ []) ≡ false

abbrev pub AreFull : (List ℕ → Bool) → List ℕ → List (List ℕ) → Type 0
AreFull fits levels waves =
    (front behind : List (List ℕ)) (wave next : List ℕ) → waves ≡ front ++ wave ∷ next ∷ behind
    → IsFullBefore fits levels wave next
