-- The waves of places of which the last stand above all others: those of the others, and then those of the last by
-- themselves.
use Rattle.std.proofs.Common.{◌≡◌, ℕ, ◌+◌, ◌<◌, ◌≤◌, zero, suc, max, Bool, true, false, cond, List, [], ◌∷◌, ◌++◌, length, map, filter, flat_map, fold, refl, sym, ◌∙◌, ap, ap₂, arith, ⊎_elim}
use Rattle.std.proofs.lemmas.Bool.{cases_eq, eq-eqb, ne_eqb}
use Rattle.std.proofs.lemmas.List.{append-nil, get_or-append-add, get_or_append_left, get_or-map, length-append, length-map, map-append}
use Rattle.std.proofs.lemmas.List.Concat.{flat_map-append}
use Rattle.std.proofs.lemmas.List.Elements.{filter-append}
use Rattle.std.proofs.lemmas.List.Sums.{fold-append}
use Rattle.std.specs.Prelude.{nat_eq, slice_index, ◌||◌}
use Rattle.std.specs.List.{range_with_len}
use Rattle.dml_order.specs.Waves.{cut_behind, depth, further, is_nil, level_places, level_waves, waves_of}
use Rattle.dml_order.proofs.OrderLemmas.{filter_none, filter_range_same, range_split}
use Rattle.dml_order.proofs.WaveLemmas.{level_below_depth}

-- one more than the greatest level, where each is raised
depth_raised : (base most : ℕ) (levels : List ℕ) → fold max (base + most) (map (λ level. level + 1) (map (λ level. base + level) levels)) ≡ base + fold max most (map (λ level. level + 1) levels)
depth_raised base most [] = refl
depth_raised base most (level ∷ levels) =
    let first : max (base + most) (base + level + 1) ≡ base + max most (level + 1) = omega arith in
    ap (λ n. fold max n (map (λ l. l + 1) (map (λ l. base + l) levels))) first ∙ depth_raised base (max most (level + 1)) levels

-- a test further on
filter_further : (p q : ℕ → Bool) (base from n : ℕ) → ((i : ℕ) → i < from + n → p (base + i) ≡ q i) → filter p (range_with_len (base + from) n) ≡ map (λ i. base + i) (filter q (range_with_len from n))
filter_further p q base from zero same = refl
filter_further p q base from (suc n) same =
    let here = same from (omega arith) in
    let next : base + from + 1 ≡ base + (from + 1) = omega arith in
    let rest = ap (λ f. filter p (range_with_len f n)) next ∙ filter_further p q base (from + 1) n (λ i low. same i (omega (arith, low))) in
    ap₂ (λ b (kept : List ℕ). cond b ((base + from) ∷ kept) kept) here rest ∙ moved (q from)
  where
    moved : (b : Bool) → cond b ((base + from) ∷ map (λ i. base + i) (filter q (range_with_len (from + 1) n))) (map (λ i. base + i) (filter q (range_with_len (from + 1) n))) ≡ map (λ i. base + i) (cond b (from ∷ filter q (range_with_len (from + 1) n)) (filter q (range_with_len (from + 1) n)))
    moved true = refl
    moved false = refl

filter_nowhere : (p : ℕ → Bool) (from n : ℕ) → ((i : ℕ) → from ≤ i → i < from + n → p i ≡ false) → filter p (range_with_len from n) ≡ []
filter_nowhere p from n none = filter_range_same p (λ i. false) from n none ∙ filter_none (λ i. false) from n (λ i. refl)

-- lists of lists, found for the same numbers, or for numbers further on
flat_same : (f g : ℕ → List (List ℕ)) (from n : ℕ) → ((i : ℕ) → from ≤ i → i < from + n → f i ≡ g i) → flat_map f (range_with_len from n) ≡ flat_map g (range_with_len from n)
flat_same f g from zero same = refl
flat_same f g from (suc n) same =
    ap₂ (λ (first rest : List (List ℕ)). first ++ rest) (same from (omega arith) (omega arith)) (flat_same f g (from + 1) n (λ i low high. same i (omega (arith, low)) (omega (arith, high))))

flat_further : (f g : ℕ → List (List ℕ)) (h : List ℕ → List ℕ) (base from n : ℕ) → ((i : ℕ) → f (base + i) ≡ map h (g i)) → flat_map f (range_with_len (base + from) n) ≡ map h (flat_map g (range_with_len from n))
flat_further f g h base from zero same = refl
flat_further f g h base from (suc n) same =
    let next : base + from + 1 ≡ base + (from + 1) = omega arith in
    let rest = ap (λ k. flat_map f (range_with_len k n)) next ∙ flat_further f g h base (from + 1) n same in
    ap₂ (λ (first behind : List (List ℕ)). first ++ behind) (same from) rest ∙ sym (map-append h (g from) (flat_map g (range_with_len (from + 1) n)))

-- waves are cut alike further on
nil_further : (base : ℕ) (wave : List ℕ) → is_nil (map (λ i. base + i) wave) ≡ is_nil wave
nil_further base wave = ap (λ n. nat_eq n 0) (length-map wave (λ i. base + i))

cut_step : (fits : List ℕ → Bool) (base : ℕ) (wave places : List ℕ) (i : ℕ) → ((these : List ℕ) → cut_behind fits (map (λ k. base + k) these) (map (λ k. base + k) places) ≡ further base (cut_behind (λ those. fits (map (λ k. base + k) those)) these places)) → (b : Bool) → cond b (cut_behind fits (map (λ k. base + k) wave ++ (base + i) ∷ []) (map (λ k. base + k) places)) (map (λ k. base + k) wave ∷ cut_behind fits ((base + i) ∷ []) (map (λ k. base + k) places)) ≡ further base (cond b (cut_behind (λ those. fits (map (λ k. base + k) those)) (wave ++ i ∷ []) places) (wave ∷ cut_behind (λ those. fits (map (λ k. base + k) those)) (i ∷ []) places))
cut_step fits base wave places i rest true =
    ap (λ these. cut_behind fits these (map (λ k. base + k) places)) (sym (map-append (λ k. base + k) wave (i ∷ []))) ∙ rest (wave ++ i ∷ [])
cut_step fits base wave places i rest false = ap (λ (behind : List (List ℕ)). map (λ k. base + k) wave ∷ behind) (rest (i ∷ []))

cut_end : (base : ℕ) (wave : List ℕ) (b : Bool) → cond b [] (map (λ k. base + k) wave ∷ []) ≡ further base (cond b [] (wave ∷ []))
cut_end base wave true = refl
cut_end base wave false = refl

cut_further : (fits : List ℕ → Bool) (base : ℕ) (places wave : List ℕ) → cut_behind fits (map (λ i. base + i) wave) (map (λ i. base + i) places) ≡ further base (cut_behind (λ these. fits (map (λ i. base + i) these)) wave places)
cut_further fits base [] wave =
    let move : List ℕ → List ℕ = λ these. map (λ k. base + k) these in
    ap (λ b. cond b [] (move wave ∷ [])) (nil_further base wave) ∙ cut_end base wave (is_nil wave)
cut_further fits base (i ∷ places) wave =
    let move : List ℕ → List ℕ = λ these. map (λ k. base + k) these in
    let test : (is_nil (move wave) || fits (move wave ++ (base + i) ∷ [])) ≡ (is_nil wave || fits (move (wave ++ i ∷ []))) =
    ap₂ (λ a b. a || b) (nil_further base wave) (ap fits (sym (map-append (λ k. base + k) wave (i ∷ [])))) in
    ap (λ b. cond b (cut_behind fits (move wave ++ (base + i) ∷ []) (move places)) (move wave ∷ cut_behind fits ((base + i) ∷ []) (move places))) test
    ∙ cut_step fits base wave places i (cut_further fits base places) (is_nil wave || fits (move (wave ++ i ∷ [])))

module _ (fits : List ℕ → Bool) (front back : List ℕ) where
  abbrev levels : List ℕ
  levels = front ++ map (λ level. depth front + level) back

  abbrev own : List ℕ → Bool
  own these = fits (map (λ i. length front + i) these)

  depth_both : depth levels ≡ depth front + depth back
  depth_both =
      ap (fold max 0) (map-append (λ level. level + 1) front (map (λ level. depth front + level) back))
      ∙ (fold-append max 0 (map (λ level. level + 1) front) (map (λ level. level + 1) (map (λ level. depth front + level) back))
      ∙ (ap (λ n. fold max n (map (λ level. level + 1) (map (λ level. depth front + level) back))) (let e : depth front ≡ depth front + 0 = omega arith in e)
      ∙ depth_raised (depth front) 0 back))

  in_front : (i : ℕ) → i < length front → slice_index levels i ≡ slice_index front i
  in_front i low = get_or_append_left front (map (λ level. depth front + level) back) 0 i low

  in_back : (i : ℕ) → i < length back → slice_index levels (length front + i) ≡ depth front + slice_index back i
  in_back i low =
      get_or-append-add front (map (λ level. depth front + level) back) i 0
      ∙ get_or-map (λ level. depth front + level) back i 0 0 low

  places_both : (level : ℕ) → level_places levels level ≡ filter (λ i. nat_eq (slice_index levels i) level) (range_with_len 0 (length front)) ++ filter (λ i. nat_eq (slice_index levels i) level) (range_with_len (length front + 0) (length back))
  places_both level =
      let p : ℕ → Bool = λ i. nat_eq (slice_index levels i) level in
      let long : length levels ≡ length front + length back =
      length-append front (map (λ l. depth front + l) back) ∙ ap (λ n. length front + n) (length-map back (λ l. depth front + l)) in
      ap (λ n. filter p (range_with_len 0 n)) long
      ∙ (ap (filter p) (range_split 0 (length front) (length back))
      ∙ (filter-append p (range_with_len 0 (length front)) (range_with_len (0 + length front) (length back))
      ∙ ap (λ from. filter p (range_with_len 0 (length front)) ++ filter p (range_with_len from (length back))) (let e : 0 + length front ≡ length front + 0 = omega arith in e)))

  waves_low : (level : ℕ) → level < depth front → level_waves fits levels level ≡ level_waves fits front level
  waves_low level low =
      let p : ℕ → Bool = λ i. nat_eq (slice_index levels i) level in
      let first : filter p (range_with_len 0 (length front)) ≡ level_places front level =
      filter_range_same p (λ i. nat_eq (slice_index front i) level) 0 (length front) (λ i from below. ap (λ n. nat_eq n level) (in_front i (omega (arith, below)))) in
      let none : filter p (range_with_len (length front + 0) (length back)) ≡ [] =
      filter_further p (λ i. false) (length front) 0 (length back) (λ i below. ne_eqb (slice_index levels (length front + i)) level (λ same. absurd (omega (arith, same, in_back i (omega (arith, below)), low))))
      ∙ ap (map (λ i. length front + i)) (filter_none (λ i. false) 0 (length back) (λ i. refl)) in
      ap (cut_behind fits []) (places_both level ∙ (ap₂ (λ (xs ys : List ℕ). xs ++ ys) first none ∙ append-nil (level_places front level)))

  waves_high : (level : ℕ) → level_waves fits levels (depth front + level) ≡ further (length front) (level_waves own back level)
  waves_high level =
      let p : ℕ → Bool = λ i. nat_eq (slice_index levels i) (depth front + level) in
      let none : filter p (range_with_len 0 (length front)) ≡ [] =
      filter_nowhere p 0 (length front) (λ i from below. ne_eqb (slice_index levels i) (depth front + level) (λ same. absurd (omega (arith, same, in_front i (omega (arith, below)), level_below_depth front i (omega (arith, below)))))) in
      let rest : filter p (range_with_len (length front + 0) (length back)) ≡ map (λ i. length front + i) (level_places back level) =
      filter_further p (λ i. nat_eq (slice_index back i) level) (length front) 0 (length back) (λ i below. ap (λ n. nat_eq n (depth front + level)) (in_back i (omega (arith, below))) ∙ same_above (slice_index back i) level) in
      ap (cut_behind fits []) (places_both (depth front + level) ∙ ap₂ (λ (xs ys : List ℕ). xs ++ ys) none rest)
      ∙ cut_further fits (length front) (level_places back level) []
    where
      same_above : (a b : ℕ) → nat_eq (depth front + a) (depth front + b) ≡ nat_eq a b
      same_above a b =
          ⊎_elim (λ same. eq-eqb (depth front + a) (depth front + b) (ap (λ n. depth front + n) same) ∙ sym (eq-eqb a b same))
          (λ other. ne_eqb (depth front + a) (depth front + b) (λ same. other (omega (arith, same))) ∙ sym (ne_eqb a b other))
          (cases_eq a b)

  pub waves_both : waves_of fits levels ≡ waves_of fits front ++ further (length front) (waves_of own back)
  waves_both =
      let wave = level_waves fits levels in
      ap (λ n. flat_map wave (range_with_len 0 n)) depth_both
      ∙ (ap (flat_map wave) (range_split 0 (depth front) (depth back))
      ∙ (flat_map-append wave (range_with_len 0 (depth front)) (range_with_len (0 + depth front) (depth back))
      ∙ ap₂ (λ (xs ys : List (List ℕ)). xs ++ ys)
      (flat_same wave (level_waves fits front) 0 (depth front) (λ level from below. waves_low level (omega (arith, below))))
      (ap (λ from. flat_map wave (range_with_len from (depth back))) (let e : 0 + depth front ≡ depth front + 0 = omega arith in e)
      ∙ flat_further wave (level_waves own back) (map (λ i. length front + i)) (depth front) 0 (depth back) waves_high)))
