-- The waves in the subject's own words.
use Rattle.std.proofs.Common.{◌≡◌, ℕ, ◌+◌, ◌<◌, ◌≤◌, zero, suc, Bool, true, false, cond, List, [], ◌∷◌, ◌++◌, length, flat_map, refl, sym, ◌∙◌, ap, subst, arith, ◌⊎◌, ⊎_elim, inl, inr, All}
use Rattle.std.proofs.lemmas.Bool.{and_parts, or_cases, or_left, or_right, or_parts, eq-eqb, ne_eqb, eqb-true, leb-true, ltb-true, false≢true, both_ways}
use Rattle.std.proofs.lemmas.List.{nil_from_length}
use Rattle.std.proofs.lemmas.List.Elements.{All-nil, All-cons, All-append, All-weaker, All-head, All-tail}
use Rattle.std.proofs.lemmas.List.Folds.{list_any-append}
use Rattle.std.specs.Prelude.{nat_eq, nat_le, nat_lt, slice_index, ◌&&◌, ◌||◌}
use Rattle.std.specs.List.{range_with_len}
use Rattle.dml_order.specs.Order.{is_in}
use Rattle.dml_order.specs.Waves.{joined, depth, later_places, level_places, is_nil, cut_behind, level_waves, higher_waves, waves_of, ComesBefore, Rises, IsOfOneLevel, IsFullBefore, AreFull}
use Rattle.dml_order.proofs.WaveLemmas.{in_filter, joined_waves}

in_append : (i : ℕ) (xs ys : List ℕ) → is_in i (xs ++ ys) ≡ true → (is_in i xs ≡ true) ⊎ (is_in i ys ≡ true)
in_append i xs ys found = or_cases (is_in i xs) (is_in i ys) (sym (list_any-append (nat_eq i) xs ys) ∙ found)

in_right : (i : ℕ) (xs ys : List ℕ) → is_in i ys ≡ true → is_in i (xs ++ ys) ≡ true
in_right i xs ys found = list_any-append (nat_eq i) xs ys ∙ or_right (is_in i xs) (is_in i ys) found

in_left : (i : ℕ) (xs ys : List ℕ) → is_in i xs ≡ true → is_in i (xs ++ ys) ≡ true
in_left i xs ys found = list_any-append (nat_eq i) xs ys ∙ or_left (is_in i xs) (is_in i ys) found

-- each place comes before each later one
abbrev Rising : List ℕ → List ℕ → Type 0
Rising levels [] = Unit {0}
Rising levels (i ∷ order) = ((k : ℕ) → is_in k order ≡ true → ComesBefore levels i k) × Rising levels order

rising_append : (levels xs ys : List ℕ) → Rising levels xs → Rising levels ys → ((i k : ℕ) → is_in i xs ≡ true → is_in k ys ≡ true → ComesBefore levels i k) → Rising levels (xs ++ ys)
rising_append levels [] ys first second between = second
rising_append levels (i ∷ xs) ys first second between = (
  λ k found.
      ⊎_elim (λ here. first.0 k here) (λ there. between i k (or_left (nat_eq i i) _ (eq-eqb i i refl)) there) (in_append k xs ys found),
  rising_append levels xs ys first.1 second (λ j k here there. between j k (or_right (nat_eq j i) _ here) there),
)

rises : (levels before : List ℕ) (i : ℕ) (behind : List ℕ) (earlier : ℕ) → Rising levels (before ++ i ∷ behind) → is_in earlier before ≡ true → ComesBefore levels earlier i
rises levels [] i behind earlier rising found = absurd (false≢true found)
rises levels (k ∷ before) i behind earlier rising found =
    ⊎_elim (λ same.
    subst (λ j. ComesBefore levels j i) (sym (eqb-true earlier k same))
    (rising.0 i (in_right i before (i ∷ behind) (or_left (nat_eq i i) _ (eq-eqb i i refl)))))
    (λ later. rises levels before i behind earlier rising.1 later)
    (or_cases (nat_eq earlier k) (is_in earlier before) found)

-- the level of a place that stands among those of a level
place_of : (levels : List ℕ) (level from count i : ℕ) → is_in i (later_places levels level from count) ≡ true → (slice_index levels i ≡ level) × (from ≤ i)
place_of levels level from count i found =
    let parts = and_parts (nat_le from i && nat_lt i (from + count)) (nat_eq (slice_index levels i) level) (sym (in_filter (λ k. nat_eq (slice_index levels k) level) from count i) ∙ found) in
    (eqb-true (slice_index levels i) level parts.1, leb-true from i (and_parts (nat_le from i) (nat_lt i (from + count)) parts.0).0)

rising_places : (levels : List ℕ) (level from count : ℕ) → Rising levels (later_places levels level from count)
rising_places levels level from zero = tt
rising_places levels level from (suc count) =
    elim (nat_eq (slice_index levels from) level) as (λ b. nat_eq (slice_index levels from) level ≡ b → Rising levels (cond b (from ∷ later_places levels level (from + 1) count) (later_places levels level (from + 1) count))) [
      | true ↦ λ here. (
        λ k found.
            let other = place_of levels level (from + 1) count k found in
            inr (eqb-true (slice_index levels from) level here ∙ sym other.0, omega (arith, other.1)),
        rising_places levels level (from + 1) count,
      )
      | false ↦ λ gone. rising_places levels level (from + 1) count
    ] refl

level_at_least : (levels : List ℕ) (from count i : ℕ) → is_in i (flat_map (level_places levels) (range_with_len from count)) ≡ true → from ≤ slice_index levels i
level_at_least levels from zero i found = absurd (false≢true found)
level_at_least levels from (suc count) i found =
    ⊎_elim (λ here. omega (arith, (place_of levels from 0 (length levels) i here).0)) (λ later. omega (arith, level_at_least levels (from + 1) count i later))
    (in_append i (level_places levels from) (flat_map (level_places levels) (range_with_len (from + 1) count)) found)

rising_levels : (levels : List ℕ) (from count : ℕ) → Rising levels (flat_map (level_places levels) (range_with_len from count))
rising_levels levels from zero = tt
rising_levels levels from (suc count) =
    rising_append levels (level_places levels from) (flat_map (level_places levels) (range_with_len (from + 1) count)) (rising_places levels from 0 (length levels)) (rising_levels levels (from + 1) count)
    (λ i k here there.
    inl (omega (arith, (place_of levels from 0 (length levels) i here).0, level_at_least levels (from + 1) count k there)))

pub waves_rise : (fits : List ℕ → Bool) (levels : List ℕ) → Rises levels (joined (waves_of fits levels))
waves_rise fits levels before behind i earlier split found =
    rises levels before i behind earlier
    (subst (Rising levels) (sym (joined_waves fits levels 0 (depth levels)) ∙ split) (rising_levels levels 0 (depth levels))) found

-- each place of a cut's waves is one of those cut
abbrev AllIn : (ℕ → Type 0) → List ℕ → Type 0
AllIn P places = (i : ℕ) → is_in i places ≡ true → P i

all_in_append : (P : ℕ → Type 0) (xs ys : List ℕ) → AllIn P xs → AllIn P ys → AllIn P (xs ++ ys)
all_in_append P xs ys first second i found = ⊎_elim (λ here. first i here) (λ there. second i there) (in_append i xs ys found)

all_in_one : (P : ℕ → Type 0) (i : ℕ) (places : List ℕ) → AllIn P (i ∷ places) → AllIn P (i ∷ [])
all_in_one P i places all k found = all k (⊎_elim (λ same. or_left _ _ same) (λ none. absurd (false≢true none)) (or_cases (nat_eq k i) false found))

all_cut : (P : ℕ → Type 0) (fits : List ℕ → Bool) (wave places : List ℕ) → AllIn P wave → AllIn P places → All (AllIn P) (cut_behind fits wave places)
all_cut P fits wave [] first second =
    elim (is_nil wave) as (λ b. All (AllIn P) (cond b [] (wave ∷ []))) [
      | true ↦ All-nil (AllIn P)
      | false ↦ All-cons (AllIn P) wave [] first (All-nil (AllIn P))
    ]
all_cut P fits wave (i ∷ places) first second =
    let one = all_in_one P i places second in
    let rest : AllIn P places = λ k found. second k (or_right (nat_eq k i) _ found) in
    elim (is_nil wave || fits (wave ++ i ∷ [])) as (λ b. All (AllIn P) (cond b (cut_behind fits (wave ++ i ∷ []) places) (wave ∷ cut_behind fits (i ∷ []) places))) [
      | true ↦ all_cut P fits (wave ++ i ∷ []) places (all_in_append P wave (i ∷ []) first one) rest
      | false ↦ All-cons (AllIn P) wave _ first (all_cut P fits (i ∷ []) places one rest)
    ]

abbrev IsOf : List ℕ → ℕ → ℕ → Type 0
IsOf levels level i = slice_index levels i ≡ level

waves_at_level : (fits : List ℕ → Bool) (levels : List ℕ) (level : ℕ) → All (AllIn (IsOf levels level)) (level_waves fits levels level)
waves_at_level fits levels level =
    all_cut (IsOf levels level) fits [] (level_places levels level) (λ i found. absurd (false≢true found))
    (λ i found. (place_of levels level 0 (length levels) i found).0)

waves_one_level : (fits : List ℕ → Bool) (levels : List ℕ) (from count : ℕ) → All (IsOfOneLevel levels) (higher_waves fits levels from count)
waves_one_level fits levels from zero = All-nil (IsOfOneLevel levels)
waves_one_level fits levels from (suc count) =
    All-append (IsOfOneLevel levels) (level_waves fits levels from) (higher_waves fits levels (from + 1) count)
    (All-weaker (AllIn (IsOf levels from)) (IsOfOneLevel levels) (λ wave all i k here there. all i here ∙ sym (all k there)) (level_waves fits levels from) (waves_at_level fits levels from))
    (waves_one_level fits levels (from + 1) count)

pub waves_of_one_level : (fits : List ℕ → Bool) (levels : List ℕ) → All (IsOfOneLevel levels) (waves_of fits levels)
waves_of_one_level fits levels = waves_one_level fits levels 0 (depth levels)

-- where each place fits by itself, each wave fits
abbrev Fits : (List ℕ → Bool) → List ℕ → Type 0
Fits fits wave = fits wave ≡ true

cut_fits : (fits : List ℕ → Bool) (wave places : List ℕ) → AllIn (λ i. fits (i ∷ []) ≡ true) places → (is_nil wave ≡ false → fits wave ≡ true) → All (Fits fits) (cut_behind fits wave places)
cut_fits fits wave [] alone first =
    elim (is_nil wave) as (λ b. is_nil wave ≡ b → All (Fits fits) (cond b [] (wave ∷ []))) [
      | true ↦ λ none. All-nil (Fits fits)
      | false ↦ λ some. All-cons (Fits fits) wave [] (first some) (All-nil (Fits fits))
    ] refl
cut_fits fits wave (i ∷ places) alone first =
    let own : fits (i ∷ []) ≡ true = alone i (or_left (nat_eq i i) _ (eq-eqb i i refl)) in
    let rest : AllIn (λ k. fits (k ∷ []) ≡ true) places = λ k found. alone k (or_right (nat_eq k i) _ found) in
    elim (is_nil wave || fits (wave ++ i ∷ [])) as (λ b. (is_nil wave || fits (wave ++ i ∷ [])) ≡ b → All (Fits fits) (cond b (cut_behind fits (wave ++ i ∷ []) places) (wave ∷ cut_behind fits (i ∷ []) places))) [
      | true ↦ λ taken.
          cut_fits fits (wave ++ i ∷ []) places rest
          (λ some.
          ⊎_elim (λ none. ap (λ (front : List ℕ). fits (front ++ i ∷ [])) (nil_from_length wave (eqb-true (length wave) 0 none)) ∙ own) (λ fitting. fitting)
          (or_cases (is_nil wave) (fits (wave ++ i ∷ [])) taken))
      | false ↦ λ full.
          All-cons (Fits fits) wave _ (first (or_parts (is_nil wave) (fits (wave ++ i ∷ [])) full).0) (cut_fits fits (i ∷ []) places rest (λ some. own))
    ] refl

waves_fit_from : (fits : List ℕ → Bool) (levels : List ℕ) (from count : ℕ) → ((i : ℕ) → i < length levels → fits (i ∷ []) ≡ true) → All (Fits fits) (higher_waves fits levels from count)
waves_fit_from fits levels from zero alone = All-nil (Fits fits)
waves_fit_from fits levels from (suc count) alone =
    All-append (Fits fits) (level_waves fits levels from) (higher_waves fits levels (from + 1) count)
    (cut_fits fits [] (level_places levels from)
    (λ i found.
    let parts = and_parts (nat_le 0 i && nat_lt i (0 + length levels)) (nat_eq (slice_index levels i) from) (sym (in_filter (λ k. nat_eq (slice_index levels k) from) 0 (length levels) i) ∙ found) in
    alone i (omega (arith, ltb-true i (0 + length levels) (and_parts (nat_le 0 i) (nat_lt i (0 + length levels)) parts.0).1)))
    (λ some. absurd (both_ways (is_nil []) some refl)))
    (waves_fit_from fits levels (from + 1) count alone)

pub waves_fit : (fits : List ℕ → Bool) (levels : List ℕ) → ((i : ℕ) → i < length levels → fits (i ∷ []) ≡ true) → All (λ wave. fits wave ≡ true) (waves_of fits levels)
waves_fit fits levels alone = waves_fit_from fits levels 0 (depth levels) alone

abbrev AllWaves : (List ℕ → Type 0) → List (List ℕ) → Type 0
AllWaves P [] = Unit {0}
AllWaves P (wave ∷ waves) = P wave × AllWaves P waves

-- neighbours
abbrev Follows : (List ℕ → List ℕ → Type 0) → List ℕ → List (List ℕ) → Type 0
Follows R wave [] = Unit {0}
Follows R wave (next ∷ waves) = R wave next

abbrev Neighbours : (List ℕ → List ℕ → Type 0) → List (List ℕ) → Type 0
Neighbours R [] = Unit {0}
Neighbours R (wave ∷ waves) = Follows R wave waves × Neighbours R waves

neighbours_at : (R : List ℕ → List ℕ → Type 0) (front : List (List ℕ)) (wave next : List ℕ) (behind : List (List ℕ)) → Neighbours R (front ++ wave ∷ next ∷ behind) → R wave next
neighbours_at R [] wave next behind all = all.0
neighbours_at R (first ∷ front) wave next behind all = neighbours_at R front wave next behind all.1

neighbours_append : (R : List ℕ → List ℕ → Type 0) (P Q : List ℕ → Type 0) (front behind : List (List ℕ)) → Neighbours R front → Neighbours R behind → AllWaves P front → AllWaves Q behind → ((wave next : List ℕ) → P wave → Q next → R wave next) → Neighbours R (front ++ behind)
neighbours_append R P Q [] behind first second all_front all_behind between = second
neighbours_append R P Q (wave ∷ front) behind first second all_front all_behind between = (
  follows front behind first.0 all_behind,
  neighbours_append R P Q front behind first.1 second all_front.1 all_behind between,
)
  where
    follows : (front behind : List (List ℕ)) → Follows R wave front → AllWaves Q behind → Follows R wave (front ++ behind)
    follows [] [] here all = tt
    follows [] (next ∷ rest) here all = between wave next all_front.0 all.0
    follows (next ∷ front) behind here all = here

-- a wave that was begun with a place keeps it as its first
begins : (fits : List ℕ → Bool) (i : ℕ) (wave places : List ℕ) → (more : List ℕ) × (rest : List (List ℕ)) × (cut_behind fits (i ∷ wave) places ≡ (i ∷ more) ∷ rest)
begins fits i wave [] = (wave, [], ap (λ b. cond b [] ((i ∷ wave) ∷ [])) (ne_eqb (length (i ∷ wave)) 0 (λ none. absurd (omega (arith, none)))))
begins fits i wave (k ∷ places) =
    elim (is_nil (i ∷ wave) || fits (i ∷ (wave ++ k ∷ []))) as (λ b. (more : List ℕ) × (rest : List (List ℕ)) × (cond b (cut_behind fits (i ∷ (wave ++ k ∷ [])) places) ((i ∷ wave) ∷ cut_behind fits (k ∷ []) places) ≡ (i ∷ more) ∷ rest)) [
      | true ↦ begins fits i (wave ++ k ∷ []) places
      | false ↦ (wave, cut_behind fits (k ∷ []) places, refl)
    ]

full_follows : (fits : List ℕ → Bool) (levels wave : List ℕ) (i : ℕ) (waves : List (List ℕ)) (more : List ℕ) (rest : List (List ℕ)) → waves ≡ (i ∷ more) ∷ rest → fits (wave ++ i ∷ []) ≡ false → Follows (IsFullBefore fits levels) wave waves
full_follows fits levels wave i waves more rest split full =
    subst (Follows (IsFullBefore fits levels) wave) (sym split)
    (λ first k others begun found same. ap (λ j. fits (wave ++ j ∷ [])) (sym (head_of more others i first begun)) ∙ full)
  where
    head_of : (xs ys : List ℕ) (x y : ℕ) → x ∷ xs ≡ y ∷ ys → x ≡ y
    head_of xs ys x y same = cc

cut_full : (fits : List ℕ → Bool) (levels wave places : List ℕ) → Neighbours (IsFullBefore fits levels) (cut_behind fits wave places)
cut_full fits levels wave [] =
    elim (is_nil wave) as (λ b. Neighbours (IsFullBefore fits levels) (cond b [] (wave ∷ []))) [ true ↦ tt | false ↦ (tt, tt) ]
cut_full fits levels wave (i ∷ places) =
    elim (is_nil wave || fits (wave ++ i ∷ [])) as (λ b. (is_nil wave || fits (wave ++ i ∷ [])) ≡ b → Neighbours (IsFullBefore fits levels) (cond b (cut_behind fits (wave ++ i ∷ []) places) (wave ∷ cut_behind fits (i ∷ []) places))) [
      | true ↦ λ taken. cut_full fits levels (wave ++ i ∷ []) places
      | false ↦ λ full.
          let next = begins fits i [] places in (
            full_follows fits levels wave i (cut_behind fits (i ∷ []) places) next.0 next.1 next.2 (or_parts (is_nil wave) (fits (wave ++ i ∷ [])) full).1,
            cut_full fits levels (i ∷ []) places,
          )
    ] refl

all_waves : (P : List ℕ → Type 0) (waves : List (List ℕ)) → All P waves → AllWaves P waves
all_waves P [] all = tt
all_waves P (wave ∷ waves) all = (All-head P wave waves all, all_waves P waves (All-tail P wave waves all))

abbrev IsAbove : List ℕ → ℕ → ℕ → Type 0
IsAbove levels level i = level ≤ slice_index levels i

waves_above : (fits : List ℕ → Bool) (levels : List ℕ) (from count : ℕ) → All (AllIn (IsAbove levels from)) (higher_waves fits levels from count)
waves_above fits levels from zero = All-nil (AllIn (IsAbove levels from))
waves_above fits levels from (suc count) =
    All-append (AllIn (IsAbove levels from)) (level_waves fits levels from) (higher_waves fits levels (from + 1) count)
    (All-weaker (AllIn (IsOf levels from)) (AllIn (IsAbove levels from)) (λ wave all i found. omega (arith, all i found)) (level_waves fits levels from) (waves_at_level fits levels from))
    (All-weaker (AllIn (IsAbove levels (from + 1))) (AllIn (IsAbove levels from)) (λ wave all i found. omega (arith, all i found)) (higher_waves fits levels (from + 1) count) (waves_above fits levels (from + 1) count))

neighbours_full : (fits : List ℕ → Bool) (levels : List ℕ) (from count : ℕ) → Neighbours (IsFullBefore fits levels) (higher_waves fits levels from count)
neighbours_full fits levels from zero = tt
neighbours_full fits levels from (suc count) =
    neighbours_append (IsFullBefore fits levels) (AllIn (IsOf levels from)) (AllIn (IsAbove levels (from + 1))) (level_waves fits levels from) (higher_waves fits levels (from + 1) count)
    (cut_full fits levels [] (level_places levels from)) (neighbours_full fits levels (from + 1) count)
    (all_waves _ (level_waves fits levels from) (waves_at_level fits levels from)) (all_waves _ (higher_waves fits levels (from + 1) count) (waves_above fits levels (from + 1) count))
    (λ wave next here there i k more begun found same.
    absurd (omega (arith, here k found, there i (ap (is_in i) begun ∙ or_left (nat_eq i i) _ (eq-eqb i i refl)), same)))

pub waves_full : (fits : List ℕ → Bool) (levels : List ℕ) → AreFull fits levels (waves_of fits levels)
waves_full fits levels front behind wave next split =
    neighbours_at (IsFullBefore fits levels) front wave next behind
    (subst (Neighbours (IsFullBefore fits levels)) split (neighbours_full fits levels 0 (depth levels)))
