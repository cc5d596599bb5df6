-- Places of a short list inside a long one, and picks of them.
use Rattle.std.proofs.Common.{◌≡◌, ℕ, ◌+◌, ◌<◌, ◌≤◌, zero, suc, Bool, true, false, not, cond, List, [], ◌∷◌, ◌++◌, length, map, filter, refl, sym, ◌∙◌, ap, subst, arith, ⊎_elim, All}
use Rattle.std.proofs.lemmas.Bool.{cases_lt, cases_eq, and_parts, or_cases, or_left, or_right, eq-eqb, ne_eqb, eqb-true, le-leb, false≢true, false_from_ne_true}
use Rattle.std.proofs.lemmas.List.{map-append, append_assoc}
use Rattle.std.proofs.lemmas.List.Folds.{list_any-append}
use Rattle.std.proofs.lemmas.List.Elements.{All-head}
use Rattle.std.specs.Prelude.{nat_eq, nat_lt, slice_index, ◌&&◌}
use Rattle.std.specs.List.{range_with_len}
use Rattle.dml_types.specs.Conflict.{clash_levels}
use Rattle.dml_order.specs.Order.{is_in, IsOrder, without, Picks}
use Rattle.dml_order.specs.Waves.{joined, clash_waves, IsOfOneLevel}
use Rattle.dml_order.proofs.OrderLemmas.{left_after}
use Rattle.dml_order.proofs.LevelLemmas.{levels_rise}
use Rattle.dml_order.proofs.WaveLemmas.{waves_order, in_filter}
use Rattle.dml_order.proofs.WaveFacts.{waves_of_one_level}

-- a member's place in a list
pub member_at : (xs : List ℕ) (x : ℕ) → is_in x xs ≡ true → (j : ℕ) × (j < length xs) × (slice_index xs j ≡ x)
member_at [] x here = absurd (false≢true here)
member_at (y ∷ xs) x here =
    ⊎_elim (λ same. (0, (let e : 0 < suc (length xs) = omega arith in e), sym (eqb-true x y same)))
    (λ later. let rest = member_at xs x later in (suc rest.0, (let e : suc rest.0 < suc (length xs) = omega (arith, rest.1) in e), rest.2))
    (or_cases (nat_eq x y) (is_in x xs) here)

pub member_split : (xs : List ℕ) (x : ℕ) → is_in x xs ≡ true → (before behind : List ℕ) × (xs ≡ before ++ x ∷ behind)
member_split [] x here = absurd (false≢true here)
member_split (y ∷ xs) x here =
    ⊎_elim (λ same. ([], xs, ap (λ z. z ∷ xs) (sym (eqb-true x y same))))
    (λ later. let rest = member_split xs x later in (y ∷ rest.0, rest.1, ap (λ more. y ∷ more) rest.2))
    (or_cases (nat_eq x y) (is_in x xs) here)

pub at_member : (xs : List ℕ) (j : ℕ) → j < length xs → is_in (slice_index xs j) xs ≡ true
at_member [] j below = absurd (omega arith)
at_member (x ∷ xs) zero below = or_left (nat_eq x x) _ (eq-eqb x x refl)
at_member (x ∷ xs) (suc j) below = or_right (nat_eq (slice_index xs j) x) _ (at_member xs j (omega arith))

-- the places of a list go up
abbrev pub Climbs : List ℕ → Type 0
Climbs xs = (j k : ℕ) → j < k → k < length xs → slice_index xs j < slice_index xs k

low_at : (from : ℕ) (rest : List ℕ) → ((j : ℕ) → j < length rest → from + 1 ≤ slice_index rest j) → (j : ℕ) → j < suc (length rest) → from ≤ slice_index (from ∷ rest) j
low_at from rest above zero below = omega arith
low_at from rest above (suc j) below = let least = above j (omega arith) in omega (arith, least)

kept_low : (p : ℕ → Bool) (from n j : ℕ) → j < length (filter p (range_with_len from n)) → from ≤ slice_index (filter p (range_with_len from n)) j
kept_low p from zero j below = absurd (omega arith)
kept_low p from (suc n) j below =
    elim (p from) as (λ b. j < length (cond b (from ∷ filter p (range_with_len (from + 1) n)) (filter p (range_with_len (from + 1) n))) → from ≤ slice_index (cond b (from ∷ filter p (range_with_len (from + 1) n)) (filter p (range_with_len (from + 1) n))) j) [
      | true ↦ λ under. low_at from (filter p (range_with_len (from + 1) n)) (λ k inside. kept_low p (from + 1) n k inside) j under
      | false ↦ λ under. (let low = kept_low p (from + 1) n j under in omega (arith, low))
    ] below

climbs_at : (from : ℕ) (rest : List ℕ) → ((j : ℕ) → j < length rest → from + 1 ≤ slice_index rest j) → Climbs rest → Climbs (from ∷ rest)
climbs_at from rest above climbs j zero low below = absurd (omega arith)
climbs_at from rest above climbs zero (suc k) low below = let least = above k (omega arith) in omega (arith, least)
climbs_at from rest above climbs (suc j) (suc k) low below = climbs j k (omega arith) (omega arith)

pub climbs_kept : (p : ℕ → Bool) (from n : ℕ) → Climbs (filter p (range_with_len from n))
climbs_kept p from zero j k low below = absurd (omega arith)
climbs_kept p from (suc n) j k low below =
    elim (p from) as (λ b. k < length (cond b (from ∷ filter p (range_with_len (from + 1) n)) (filter p (range_with_len (from + 1) n))) → slice_index (cond b (from ∷ filter p (range_with_len (from + 1) n)) (filter p (range_with_len (from + 1) n))) j < slice_index (cond b (from ∷ filter p (range_with_len (from + 1) n)) (filter p (range_with_len (from + 1) n))) k) [
      | true ↦ λ under. climbs_at from (filter p (range_with_len (from + 1) n)) (λ i inside. kept_low p (from + 1) n i inside) (λ a b. climbs_kept p (from + 1) n a b) j k low under
      | false ↦ λ under. climbs_kept p (from + 1) n j k low under
    ] below

-- the index that stands lower has the lower place, and conversely
pub climbs_back : (xs : List ℕ) → Climbs xs → (j k : ℕ) → j < length xs → slice_index xs j < slice_index xs k → k < length xs → j < k
climbs_back xs climbs j k inside lower below =
    ⊎_elim (λ less. less) (λ more.
    ⊎_elim (λ same. absurd (let e = ap (slice_index xs) same in omega (arith, e))) (λ other.
    absurd (let less = climbs k j (omega (arith, other)) inside in omega (arith, less))) (cases_eq j k))
    (cases_lt j k)

pub same_places : (xs : List ℕ) → Climbs xs → (j k : ℕ) → j < length xs → k < length xs → nat_eq (slice_index xs j) (slice_index xs k) ≡ nat_eq j k
same_places xs climbs j k inside below =
    ⊎_elim (λ same. eq-eqb _ _ (ap (slice_index xs) same) ∙ sym (eq-eqb j k same))
    (λ other.
    ne_eqb _ _ (λ e.
    ⊎_elim (λ less. let lower = climbs j k less below in omega (arith, lower, e))
    (λ more. let lower = climbs k j (omega (arith, other)) inside in omega (arith, lower, e)) (cases_lt j k))
    ∙ sym (ne_eqb j k other))
    (cases_eq j k)

-- what is left of the places of a list is left of its indices
pub record Links (places : List ℕ) (left own : ℕ → Bool) : Type 0 where
  pub same : (j : ℕ) → j < length places → left (slice_index places j) ≡ own j
  pub inside : (j : ℕ) → own j ≡ true → j < length places
  pub found : (i : ℕ) → left i ≡ true → (j : ℕ) × (j < length places) × (slice_index places j ≡ i)

links_next : (places : List ℕ) → Climbs places → (left own : ℕ → Bool) (k : ℕ) → k < length places → Links places left own → Links places (without left (slice_index places k)) (without own k)
links_next places climbs left own k below links = record {
  same = λ j inside.
      ap (λ b. b && not (nat_eq (slice_index places j) (slice_index places k))) (links.same j inside)
      ∙ ap (λ b. own j && not b) (same_places places climbs j k inside below);
  inside = λ j here. links.inside j (and_parts (own j) _ here).0;
  found = λ i here. links.found i (and_parts (left i) _ here).0;
}

-- picks of the indices are picks of the places
pub picks_at : (places : List ℕ) → Climbs places → (clash own_clash : ℕ → ℕ → Bool) → ((j k : ℕ) → j < length places → k < length places → own_clash j k ≡ false → clash (slice_index places j) (slice_index places k) ≡ false) → (order : List ℕ) (left own : ℕ → Bool) → Links places left own → Picks own_clash own order → Picks clash left (map (slice_index places) order) × Links places (left_after left (map (slice_index places) order)) (left_after own order)
picks_at places climbs clash own_clash holds [] left own links picks = (tt, links)
picks_at places climbs clash own_clash holds (k ∷ order) left own links picks =
    let below = links.inside k picks.0.is_left in
    let next = picks_at places climbs clash own_clash holds order (without left (slice_index places k)) (without own k) (links_next places climbs left own k below links) picks.1 in (
      (
        record {
          is_left = links.same k below ∙ picks.0.is_left;
          unhindered = λ earlier low still.
              let f = links.found earlier still in
              let own_left : own f.0 ≡ true = sym (links.same f.0 f.1) ∙ (ap left f.2 ∙ still) in
              let lower = climbs_back places climbs f.0 k f.1 (let e : slice_index places f.0 < slice_index places k = omega (arith, f.2, low) in e) below in
              subst (λ i. clash i (slice_index places k) ≡ false) f.2 (holds f.0 k f.1 below (picks.0.unhindered f.0 lower own_left));
        },
        next.0,
      ),
      next.1,
    )

-- the picks behind a front
pub picks_behind : (clash : ℕ → ℕ → Bool) (xs ys : List ℕ) (left : ℕ → Bool) → Picks clash left (xs ++ ys) → Picks clash (left_after left xs) ys
picks_behind clash [] ys left picks = picks
picks_behind clash (x ∷ xs) ys left picks = picks_behind clash xs ys (without left x) picks.1

-- no earlier place clashes with one of the first wave
pub first_is_free : (fits : List ℕ → Bool) (clash : ℕ → ℕ → Bool) (n : ℕ) (wave : List ℕ) (rest : List (List ℕ)) → clash_waves fits clash n ≡ wave ∷ rest → (i k : ℕ) → is_in i wave ≡ true → k < i → clash k i ≡ false
first_is_free fits clash n wave rest cut i k here low =
    let levels = clash_levels clash n in
    let order : IsOrder clash n (wave ++ joined rest) = subst (λ (w : List (List ℕ)). IsOrder clash n (joined w)) cut (waves_order fits clash n) in
    let level : IsOfOneLevel levels wave = All-head (IsOfOneLevel levels) wave rest (subst (λ (w : List (List ℕ)). All (IsOfOneLevel levels) w) cut (waves_of_one_level fits levels)) in
    let split = member_split wave i here in
    let whole : wave ++ joined rest ≡ split.0 ++ i ∷ (split.1 ++ joined rest) = ap (λ (w : List ℕ). w ++ joined rest) split.2 ∙ append_assoc split.0 (i ∷ split.1) (joined rest) in
    let below : i < n = order.below i (list_any-append (nat_eq i) wave (joined rest) ∙ or_left (is_in i wave) _ here) in
    false_from_ne_true (clash k i) (λ clashing.
    let before : is_in k split.0 ≡ true = order.kept split.0 (split.1 ++ joined rest) i k whole low clashing in
    let there : is_in k wave ≡ true = ap (is_in k) split.2 ∙ (list_any-append (nat_eq k) split.0 (i ∷ split.1) ∙ or_left (is_in k split.0) _ before) in
    let same = level k i there here in
    let less = levels_rise clash n k i low below clashing in
    omega (arith, same, less))

-- which places a filtered range from 0 has
pub in_kept : (p : ℕ → Bool) (n i : ℕ) → is_in i (filter p (range_with_len 0 n)) ≡ (nat_lt i n && p i)
in_kept p n i =
    in_filter p 0 n i
    ∙ (ap (λ b. (b && nat_lt i (0 + n)) && p i) (le-leb 0 i (omega arith))
    ∙ ap (λ k. nat_lt i k && p i) (let e : 0 + n ≡ n = omega arith in e))

pub filter_twice : (p q : ℕ → Bool) (xs : List ℕ) → filter p (filter q xs) ≡ filter (λ i. q i && p i) xs
filter_twice p q [] = refl
filter_twice p q (x ∷ xs) =
    elim (q x) as (λ b. filter p (cond b (x ∷ filter q xs) (filter q xs)) ≡ cond (b && p x) (x ∷ filter (λ i. q i && p i) xs) (filter (λ i. q i && p i) xs)) [
      | true ↦ ap (λ (rest : List ℕ). cond (p x) (x ∷ rest) rest) (filter_twice p q xs)
      | false ↦ filter_twice p q xs
    ]

pub joined_map : (f : ℕ → ℕ) (waves : List (List ℕ)) → joined (map (map f) waves) ≡ map f (joined waves)
joined_map f [] = refl
joined_map f (wave ∷ waves) = ap (λ rest. map f wave ++ rest) (joined_map f waves) ∙ sym (map-append f wave (joined waves))

pub in_map : (f : ℕ → ℕ) (xs : List ℕ) (y : ℕ) → is_in y (map f xs) ≡ true → (x : ℕ) × (is_in x xs ≡ true) × (f x ≡ y)
in_map f [] y here = absurd (false≢true here)
in_map f (x ∷ xs) y here =
    ⊎_elim (λ same. (x, or_left (nat_eq x x) _ (eq-eqb x x refl), sym (eqb-true y (f x) same)))
    (λ later. let rest = in_map f xs y later in (rest.0, or_right (nat_eq rest.0 x) _ rest.1, rest.2))
    (or_cases (nat_eq y (f x)) (is_in y (map f xs)) here)
