-- The waves, one after another, are an order of their places.
use Rattle.std.proofs.Common.{◌≡◌, ℕ, ◌+◌, ◌<◌, ◌≤◌, zero, suc, max, Bool, true, false, not, cond, List, [], ◌∷◌, ◌++◌, length, map, filter, flat_map, fold, refl, sym, ◌∙◌, ap, subst, arith, ◌⊎◌, ⊎_elim, append_assoc}
use Rattle.std.proofs.lemmas.Bool.{cases_lt, cases_eq, and_from, and_parts, and_left, and_right, or_left, eq-eqb, ne_eqb, eqb-true, lt-ltb, le-ltb, le-leb, lt-leb, leb-true, false_from_ne_true}
use Rattle.std.proofs.lemmas.List.{append-nil, nil_from_length}
use Rattle.std.proofs.lemmas.List.Concat.{flat_map-append}
use Rattle.std.specs.Prelude.{nat_eq, nat_lt, nat_le, slice_index, ◌&&◌, ◌||◌}
use Rattle.std.specs.List.{range_with_len}
use Rattle.dml_types.specs.Conflict.{clash_levels}
use Rattle.dml_order.specs.Order.{is_in, IsOrder, without, Picks, all_below}
use Rattle.dml_order.specs.Waves.{joined, depth, level_places, is_nil, cut_behind, level_waves, higher_waves, clash_waves}
use Rattle.dml_order.proofs.OrderLemmas.{left_after, without_other}
use Rattle.dml_order.proofs.KeepsLemmas.{left_after_is, order_from_picks}
use Rattle.dml_order.proofs.LevelLemmas.{length_levels_of, levels_rise}

-- a cut leaves nothing out
pub joined_cut : (fits : List ℕ → Bool) (wave places : List ℕ) → joined (cut_behind fits wave places) ≡ wave ++ places
joined_cut fits wave [] =
    elim (is_nil wave) as (λ b. is_nil wave ≡ b → joined (cond b [] (wave ∷ [])) ≡ wave ++ []) [
      | true ↦ λ none. sym (append-nil wave ∙ nil_from_length wave (eqb-true (length wave) 0 none))
      | false ↦ λ some. refl
    ] refl
joined_cut fits wave (i ∷ places) =
    elim (is_nil wave || fits (wave ++ i ∷ [])) as (λ b. joined (cond b (cut_behind fits (wave ++ i ∷ []) places) (wave ∷ cut_behind fits (i ∷ []) places)) ≡ wave ++ i ∷ places) [
      | true ↦ joined_cut fits (wave ++ i ∷ []) places ∙ append_assoc wave (i ∷ []) places
      | false ↦ ap (λ rest. wave ++ rest) (joined_cut fits (i ∷ []) places)
    ]

pub joined_append : (front back : List (List ℕ)) → joined (front ++ back) ≡ joined front ++ joined back
joined_append front back = flat_map-append (λ wave. wave) front back

pub joined_waves : (fits : List ℕ → Bool) (levels : List ℕ) (from count : ℕ) → joined (higher_waves fits levels from count) ≡ flat_map (level_places levels) (range_with_len from count)
joined_waves fits levels from zero = refl
joined_waves fits levels from (suc count) =
    joined_append (level_waves fits levels from) (higher_waves fits levels (from + 1) count)
    ∙ (ap (λ front. front ++ joined (higher_waves fits levels (from + 1) count)) (joined_cut fits [] (level_places levels from))
    ∙ ap (λ back. level_places levels from ++ back) (joined_waves fits levels (from + 1) count))

-- which places a filtered range has
pub in_filter : (p : ℕ → Bool) (from count i : ℕ) → is_in i (filter p (range_with_len from count)) ≡ ((nat_le from i && nat_lt i (from + count)) && p i)
in_filter p from zero i =
    sym (ap (λ b. b && p i) (outside (cases_lt i from)))
  where
    outside : (i < from) ⊎ (from ≤ i) → (nat_le from i && nat_lt i (from + 0)) ≡ false
    outside s = ⊎_elim (λ low. and_left _ _ (lt-leb from i low)) (λ high. and_right (nat_le from i) _ (le-ltb i (from + 0) (omega arith))) s
in_filter p from (suc count) i =
    let rest = in_filter p (from + 1) count i in
    ⊎_elim (λ same.
    let inside : (nat_le from i && nat_lt i (from + suc count)) ≡ true = and_from _ _ (le-leb from i (omega (arith, same))) (lt-ltb i (from + suc count) (omega (arith, same))) in
    let absent : (nat_le (from + 1) i && nat_lt i (from + 1 + count)) ≡ false = and_left _ _ (lt-leb (from + 1) i (omega (arith, same))) in
    let not_later : is_in i (filter p (range_with_len (from + 1) count)) ≡ false = rest ∙ ap (λ b. b && p i) absent in
    elim (p from) as (λ b. p from ≡ b → is_in i (cond b (from ∷ filter p (range_with_len (from + 1) count)) (filter p (range_with_len (from + 1) count))) ≡ ((nat_le from i && nat_lt i (from + suc count)) && p i)) [
      | true ↦ λ here. or_left (nat_eq i from) _ (eq-eqb i from same) ∙ sym (and_from _ _ inside (ap p same ∙ here))
      | false ↦ λ gone. not_later ∙ sym (and_right (nat_le from i && nat_lt i (from + suc count)) (p i) (ap p same ∙ gone))
    ] refl)
    (λ other.
    let bounds : (nat_le (from + 1) i && nat_lt i (from + 1 + count)) ≡ (nat_le from i && nat_lt i (from + suc count)) =
    ⊎_elim (λ low.
    and_left _ _ (lt-leb (from + 1) i (omega arith)) ∙ sym (and_left _ _ (lt-leb from i low)))
    (λ high.
    ap (λ b. b && nat_lt i (from + 1 + count)) (le-leb (from + 1) i (omega (arith, other)) ∙ sym (le-leb from i high))
    ∙ ap (λ k. nat_le from i && nat_lt i k) (let e : from + 1 + count ≡ from + suc count = omega arith in e))
    (cases_lt i from) in
    let moved = rest ∙ ap (λ b. b && p i) bounds in
    elim (p from) as (λ b. is_in i (cond b (from ∷ filter p (range_with_len (from + 1) count)) (filter p (range_with_len (from + 1) count))) ≡ ((nat_le from i && nat_lt i (from + suc count)) && p i)) [
      | true ↦ ap (λ b. b || is_in i (filter p (range_with_len (from + 1) count))) (ne_eqb i from other) ∙ moved
      | false ↦ moved
    ])
    (cases_eq i from)

-- places that are left, and free of each other, may be picked in list order
pub picks_range : (clash : ℕ → ℕ → Bool) (p left : ℕ → Bool) (from count : ℕ) → ((i : ℕ) → from ≤ i → i < from + count → p i ≡ true → left i ≡ true) → ((i earlier : ℕ) → i < from + count → p i ≡ true → earlier < i → left earlier ≡ true → clash earlier i ≡ false) → Picks clash left (filter p (range_with_len from count))
picks_range clash p left from zero among free = tt
picks_range clash p left from (suc count) among free =
    elim (p from) as (λ b. p from ≡ b → Picks clash left (cond b (from ∷ filter p (range_with_len (from + 1) count)) (filter p (range_with_len (from + 1) count)))) [
      | true ↦ λ here. (
        record {
          is_left = among from (omega arith) (omega arith) here;
          unhindered = λ earlier low still. free from earlier (omega arith) here low still;
        },
        picks_range clash p (without left from) (from + 1) count
            (λ i low high found. without_other left from i (λ e. absurd (omega arith)) ∙ among i (omega arith) (omega arith) found)
            (λ i earlier high found low still. free i earlier (omega arith) found low (and_parts (left earlier) _ still).0),
      )
      | false ↦ λ gone.
          picks_range clash p left (from + 1) count (λ i low high found. among i (omega arith) (omega arith) found)
          (λ i earlier high found low still. free i earlier (omega arith) found low still)
    ] refl

pub picks_append : (clash : ℕ → ℕ → Bool) (left : ℕ → Bool) (xs ys : List ℕ) → Picks clash left xs → Picks clash (left_after left xs) ys → Picks clash left (xs ++ ys)
picks_append clash left [] ys first second = second
picks_append clash left (i ∷ xs) ys first second = (first.0, picks_append clash (without left i) xs ys first.1 second)

pub left_after_append : (left : ℕ → Bool) (xs ys : List ℕ) → left_after left (xs ++ ys) ≡ left_after (left_after left xs) ys
left_after_append left [] ys = refl
left_after_append left (i ∷ xs) ys = left_after_append (without left i) xs ys

-- left are exactly the places of a level or a higher one
pub record IsLeftFrom (levels : List ℕ) (n from : ℕ) (left : ℕ → Bool) : Type 0 where
  pub same : (i : ℕ) → left i ≡ (nat_lt i n && nat_le from (slice_index levels i))

without_level : (inside : Bool) (from level : ℕ) → ((inside && nat_le from level) && not (inside && nat_eq level from)) ≡ (inside && nat_le (from + 1) level)
without_level false from level = refl
without_level true from level =
    ⊎_elim (λ low.
    and_left _ _ (lt-leb from level low) ∙ sym (lt-leb (from + 1) level (omega arith)))
    (λ high.
    ap (λ b. b && not (nat_eq level from)) (le-leb from level high)
    ∙ ⊎_elim (λ same. ap not (eq-eqb level from same) ∙ sym (lt-leb (from + 1) level (omega (arith, same))))
    (λ other. ap not (ne_eqb level from other) ∙ sym (le-leb (from + 1) level (omega (arith, other)))) (cases_eq level from))
    (cases_lt level from)

left_from_next : (levels : List ℕ) (n from : ℕ) (left : ℕ → Bool) → length levels ≡ n → IsLeftFrom levels n from left → IsLeftFrom levels n (from + 1) (left_after left (level_places levels from))
left_from_next levels n from left size is = record {
  same = λ i.
      left_after_is (level_places levels from) left i
      ∙ (ap (λ b. b && not (is_in i (level_places levels from))) (is.same i)
      ∙ (ap (λ b. (nat_lt i n && nat_le from (slice_index levels i)) && not b)
      (in_filter (λ k. nat_eq (slice_index levels k) from) 0 (length levels) i
      ∙ (ap (λ b. (b && nat_lt i (0 + length levels)) && nat_eq (slice_index levels i) from) (le-leb 0 i (omega arith))
      ∙ ap (λ k. nat_lt i k && nat_eq (slice_index levels i) from) (let e : 0 + length levels ≡ n = omega (arith, size) in e)))
      ∙ without_level (nat_lt i n) from (slice_index levels i)));
}

picks_levels : (clash : ℕ → ℕ → Bool) (n from count : ℕ) (left : ℕ → Bool) → IsLeftFrom (clash_levels clash n) n from left → Picks clash left (flat_map (level_places (clash_levels clash n)) (range_with_len from count)) × IsLeftFrom (clash_levels clash n) n (from + count) (left_after left (flat_map (level_places (clash_levels clash n)) (range_with_len from count)))
picks_levels clash n from zero left is = (tt, subst (λ k. IsLeftFrom (clash_levels clash n) n k left) (let e : from ≡ from + 0 = omega arith in e) is)
picks_levels clash n from (suc count) left is =
    let levels = clash_levels clash n in
    let size = length_levels_of clash n in
    let here = level_places levels from in
    let rest = flat_map (level_places levels) (range_with_len (from + 1) count) in
    let first : Picks clash left here =
    picks_range clash (λ i. nat_eq (slice_index levels i) from) left 0 (length levels)
    (λ i low high found. is.same i ∙ and_from _ _ (lt-ltb i n (omega (arith, size))) (le-leb from _ (omega (arith, eqb-true (slice_index levels i) from found))))
    (λ i earlier high found low still.
    let at_least = (and_parts (nat_lt earlier n) _ (sym (is.same earlier) ∙ still)).1 in
    false_from_ne_true (clash earlier i)
    (λ clashing. absurd (omega (arith, levels_rise clash n earlier i low (omega (arith, size)) clashing, leb-true from _ at_least, eqb-true (slice_index levels i) from found)))) in
    let next = picks_levels clash n (from + 1) count (left_after left here) (left_from_next levels n from left size is) in (
      picks_append clash left here rest first next.0,
      subst (λ (l : ℕ → Bool). IsLeftFrom levels n (from + suc count) l) (sym (left_after_append left here rest))
          (subst (λ k. IsLeftFrom levels n k (left_after (left_after left here) rest)) (let e : from + 1 + count ≡ from + suc count = omega arith in e) next.1),
    )

-- each level is below the number of levels
greatest_least : (xs : List ℕ) (least : ℕ) → least ≤ fold max least (map (λ x. x + 1) xs)
greatest_least [] least = omega arith
greatest_least (x ∷ xs) least = omega (arith, greatest_least xs (max least (x + 1)))

below_greatest : (xs : List ℕ) (least i : ℕ) → i < length xs → slice_index xs i < fold max least (map (λ x. x + 1) xs)
below_greatest [] least i below = absurd (omega arith)
below_greatest (x ∷ xs) least zero below = omega (arith, greatest_least xs (max least (x + 1)))
below_greatest (x ∷ xs) least (suc i) below = below_greatest xs (max least (x + 1)) i (omega arith)

pub level_below_depth : (levels : List ℕ) (i : ℕ) → i < length levels → slice_index levels i < depth levels
level_below_depth levels i below = below_greatest levels 0 i below

pub waves_picks : (fits : List ℕ → Bool) (clash : ℕ → ℕ → Bool) (n : ℕ) → Picks clash (all_below n) (joined (clash_waves fits clash n)) × ((i : ℕ) → left_after (all_below n) (joined (clash_waves fits clash n)) i ≡ false)
waves_picks fits clash n =
    let levels = clash_levels clash n in
    let size = length_levels_of clash n in
    let start : IsLeftFrom levels n 0 (all_below n) = record { same = λ i. (let e : nat_lt i n ≡ (nat_lt i n && true) = and_true (nat_lt i n) in e) ∙ ap (λ b. nat_lt i n && b) (sym (le-leb 0 (slice_index levels i) (omega arith))) } in
    let all = picks_levels clash n 0 (depth levels) (all_below n) start in
    let same = joined_waves fits levels 0 (depth levels) in (
      subst (Picks clash (all_below n)) (sym same) all.0,
      λ i.
          ap (λ (order : List ℕ). left_after (all_below n) order i) same
          ∙ (all.1.same i
          ∙ ⊎_elim (λ below. and_right (nat_lt i n) _ (lt-leb (0 + depth levels) _ (omega (arith, level_below_depth levels i (omega (arith, size))))))
          (λ past. and_left _ _ (le-ltb i n past)) (cases_lt i n)),
    )
  where
    and_true : (b : Bool) → b ≡ (b && true)
    and_true true = refl
    and_true false = refl

pub waves_order : (fits : List ℕ → Bool) (clash : ℕ → ℕ → Bool) (n : ℕ) → IsOrder clash n (joined (clash_waves fits clash n))
waves_order fits clash n =
    let all = waves_picks fits clash n in order_from_picks clash n (joined (clash_waves fits clash n)) all.0 all.1
