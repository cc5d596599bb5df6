-- The waves, one level and one place at a time.
use Rattle.std.proofs.Common.{◌≡◌, ℕ, ◌+◌, ◌-◌, ◌<◌, Bool, List, [], ◌∷◌, ◌++◌, length, flat_map, ◌∙◌, ap, arith}
use Rattle.std.proofs.lemmas.Bool.{eq-eqb, ne_eqb}
use Rattle.std.proofs.lemmas.List.{append-nil}
use Rattle.std.proofs.lemmas.List.Concat.{flat_map-append}
use Rattle.std.specs.Prelude.{nat_eq, slice_index}
use Rattle.std.specs.List.{range_with_len}
use Rattle.dml_order.specs.Waves.{later_places, level_waves, higher_waves}
use Rattle.dml_order.proofs.OrderLemmas.{filter_at, filter_past}
use Rattle.dml_order.proofs.LevelLemmas.{range_more}

pub waves_more : (fits : List ℕ → Bool) (levels : List ℕ) (k : ℕ) → higher_waves fits levels 0 (k + 1) ≡ higher_waves fits levels 0 k ++ level_waves fits levels k
waves_more fits levels k =
    ap (flat_map (level_waves fits levels)) (range_more k)
    ∙ (flat_map-append (level_waves fits levels) (range_with_len 0 k) (k ∷ [])
    ∙ ap (λ last. higher_waves fits levels 0 k ++ last) (append-nil (level_waves fits levels k)))

-- the next place is of the level, or it is not
pub places_here : (levels : List ℕ) (level place : ℕ) → place < length levels → slice_index levels place ≡ level → later_places levels level place (length levels - place) ≡ place ∷ later_places levels level (place + 1) (length levels - (place + 1))
places_here levels level place below same = filter_at (λ i. nat_eq (slice_index levels i) level) place (length levels) (eq-eqb _ _ same) below

pub places_past : (levels : List ℕ) (level place : ℕ) → place < length levels → (slice_index levels place ≡ level → ⊥) → later_places levels level place (length levels - place) ≡ later_places levels level (place + 1) (length levels - (place + 1))
places_past levels level place below other = filter_past (λ i. nat_eq (slice_index levels i) level) place (length levels) (ne_eqb _ _ other) below

pub places_end : (levels : List ℕ) (level : ℕ) → later_places levels level (length levels) (length levels - length levels) ≡ []
places_end levels level = ap (later_places levels level (length levels)) (let e : length levels - length levels ≡ 0 = omega arith in e)
