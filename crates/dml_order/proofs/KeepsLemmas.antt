-- An order in which no place goes before an earlier one that clashes with it picks free places, and picks in any order end as the
-- places that were picked do in list order.
use Rattle.std.proofs.Common.{◌≡◌, ℕ, ◌<◌, Bool, true, false, not, List, [], ◌∷◌, ◌++◌, filter, refl, sym, ◌∙◌, ap, subst, arith, ⊎_elim, append_assoc}
use Rattle.std.proofs.lemmas.Bool.{cases_Bool, cases_lt, and_left, and_right, and_from, and_parts, or_cases, or_left, or_right, eq-eqb, eqb-true, ltb-true, lt-ltb, false≢true, not_from_true, not_from_false, both_ways, false_from_ne_true}
use Rattle.std.proofs.lemmas.List.Folds.{list_any-append}
use Rattle.std.specs.Prelude.{nat_eq, nat_lt, ◌&&◌, ◌||◌}
use Rattle.std.specs.List.{range_with_len}
use Rattle.dml_order.specs.Order.{run_all, is_in, IsOrder, without, Picks, all_below, Commutes, taken_in_order, left_in_order}
use Rattle.dml_order.proofs.OrderLemmas.{left_after, picks_then_left, filter_range_same}

-- what is left after picks: what was left and is not among them
pub left_after_is : (order : List ℕ) (left : ℕ → Bool) (i : ℕ) → left_after left order i ≡ (left i && not (is_in i order))
left_after_is [] left i = elim (left i) as (λ b. b ≡ (b && true)) [ true ↦ refl | false ↦ refl ]
left_after_is (k ∷ order) left i =
    left_after_is order (without left k) i
    ∙ elim (left i) as (λ a. ((a && not (nat_eq i k)) && not (is_in i order)) ≡ (a && not (nat_eq i k || is_in i order))) [
      | true ↦ elim (nat_eq i k) as (λ b. (not b && not (is_in i order)) ≡ not (b || is_in i order)) [ true ↦ refl | false ↦ refl ]
      | false ↦ refl
    ]

left_after_out : (order : List ℕ) (left : ℕ → Bool) (i : ℕ) → is_in i order ≡ true → left_after left order i ≡ false
left_after_out order left i taken = left_after_is order left i ∙ and_right (left i) _ (not_from_true _ taken)

-- behind a front that was picked
keeps_from : (clash : ℕ → ℕ → Bool) (n : ℕ) (whole front order : List ℕ) → IsOrder clash n whole → whole ≡ front ++ order → Picks clash (left_after (all_below n) front) order
keeps_from clash n whole front [] is split = tt
keeps_from clash n whole front (i ∷ order) is split =
    let fresh : is_in i front ≡ false = is.once front order i split in
    let member : is_in i whole ≡ true =
    ap (is_in i) split ∙ (list_any-append (nat_eq i) front (i ∷ order)
    ∙ or_right (is_in i front) _ (or_left (nat_eq i i) _ (eq-eqb i i refl))) in
    let bounded : i < n = is.below i member in
    let here : left_after (all_below n) front i ≡ true =
    left_after_is front (all_below n) i ∙ and_from _ _ (lt-ltb i n bounded) (not_from_false _ fresh) in
    let unhindered : (earlier : ℕ) → earlier < i → left_after (all_below n) front earlier ≡ true → clash earlier i ≡ false =
    λ earlier low still.
    false_from_ne_true (clash earlier i)
    (λ clashing. both_ways _ (left_after_out front (all_below n) earlier (is.kept front order i earlier split low clashing)) still) in
    let next : left_after (all_below n) (front ++ i ∷ []) ≡ without (left_after (all_below n) front) i =
    left_after_append front (all_below n) i in (
      record { is_left = here; unhindered = unhindered },
      subst (λ (left : ℕ → Bool). Picks clash left order) next
          (keeps_from clash n whole (front ++ i ∷ []) order is (split ∙ sym (append_assoc front (i ∷ []) order))),
    )
  where
    left_after_append : (front : List ℕ) (left : ℕ → Bool) (i : ℕ) → left_after left (front ++ i ∷ []) ≡ without (left_after left front) i
    left_after_append [] left i = refl
    left_after_append (k ∷ front) left i = left_after_append front (without left k) i

pub order_picks : (clash : ℕ → ℕ → Bool) (n : ℕ) (order : List ℕ) → IsOrder clash n order → Picks clash (all_below n) order
order_picks clash n order is = keeps_from clash n order [] order is refl

pub order_whole : (clash : ℕ → ℕ → Bool) (n : ℕ) (order : List ℕ) → IsOrder clash n order → (i : ℕ) → left_after (all_below n) order i ≡ false
order_whole clash n order is i =
    ⊎_elim (λ below. left_after_out order (all_below n) i (is.all i below)) (λ past.
    left_after_is order (all_below n) i ∙ and_left (nat_lt i n) _ (false_from_ne_true _ (λ low. absurd (omega (arith, ltb-true i n low)))))
    (cases_lt i n)

-- and conversely: picks of which none is left keep the order
picks_once : (clash : ℕ → ℕ → Bool) (before : List ℕ) (left : ℕ → Bool) (i : ℕ) (behind : List ℕ) → Picks clash left (before ++ i ∷ behind) → left_after left before i ≡ true
picks_once clash [] left i behind picks = picks.0.is_left
picks_once clash (k ∷ before) left i behind picks = picks_once clash before (without left k) i behind picks.1

picks_kept : (clash : ℕ → ℕ → Bool) (before : List ℕ) (left : ℕ → Bool) (i : ℕ) (behind : List ℕ) → Picks clash left (before ++ i ∷ behind) → (earlier : ℕ) → earlier < i → left_after left before earlier ≡ true → clash earlier i ≡ false
picks_kept clash [] left i behind picks = picks.0.unhindered
picks_kept clash (k ∷ before) left i behind picks = picks_kept clash before (without left k) i behind picks.1

picks_left : (clash : ℕ → ℕ → Bool) (order : List ℕ) (left : ℕ → Bool) (i : ℕ) → Picks clash left order → is_in i order ≡ true → left i ≡ true
picks_left clash [] left i picks found = absurd (false≢true found)
picks_left clash (k ∷ order) left i picks found =
    ⊎_elim (λ same. ap left (eqb-true i k same) ∙ picks.0.is_left)
    (λ later. (and_parts (left i) _ (picks_left clash order (without left k) i picks.1 later)).0)
    (or_cases (nat_eq i k) (is_in i order) found)

pub order_from_picks : (clash : ℕ → ℕ → Bool) (n : ℕ) (order : List ℕ) → Picks clash (all_below n) order → ((i : ℕ) → left_after (all_below n) order i ≡ false) → IsOrder clash n order
order_from_picks clash n order picks whole = record {
  all = λ i below.
      ⊎_elim (λ found. found) (λ missing.
      absurd (both_ways _ (whole i) (left_after_is order (all_below n) i ∙ and_from _ _ (lt-ltb i n below) (not_from_false _ missing))))
      (cases_Bool (is_in i order));
  below = λ i found. ltb-true i n (picks_left clash order (all_below n) i picks found);
  once = λ before behind i split.
      let here = picks_once clash before (all_below n) i behind (subst (Picks clash (all_below n)) split picks) in
      false_from_ne_true _ (λ found. both_ways _ (left_after_out before (all_below n) i found) here);
  kept = λ before behind i earlier split low clashing.
      let cut = subst (Picks clash (all_below n)) split picks in
      let here = picks_once clash before (all_below n) i behind cut in
      let bounded : i < n = ltb-true i n (and_parts (nat_lt i n) _ (sym (left_after_is before (all_below n) i) ∙ here)).0 in
      ⊎_elim (λ found. found) (λ missing.
      let still : left_after (all_below n) before earlier ≡ true =
      left_after_is before (all_below n) earlier ∙ and_from _ _ (lt-ltb earlier n (omega arith)) (not_from_false _ missing) in
      absurd (both_ways _ (picks_kept clash before (all_below n) i behind cut earlier low still) clashing))
      (cases_Bool (is_in earlier before));
}

-- picks of a front
pub picks_front : (clash : ℕ → ℕ → Bool) (front back : List ℕ) (left : ℕ → Bool) → Picks clash left (front ++ back) → Picks clash left front
picks_front clash [] back left picks = tt
picks_front clash (i ∷ front) back left picks = (picks.0, picks_front clash front back (without left i) picks.1)

pub left_is : (n : ℕ) (order : List ℕ) → filter (left_after (all_below n) order) (range_with_len 0 n) ≡ left_in_order n order
left_is n order =
    filter_range_same (left_after (all_below n) order) (λ i. not (is_in i order)) 0 n
    (λ i low high. left_after_is order (all_below n) i ∙ ap (λ b. b && not (is_in i order)) (lt-ltb i n (omega arith)))

-- a picked place is not hindered by those picked before it: the picks by themselves are picks of what they took
picks_shrink : (clash : ℕ → ℕ → Bool) (order : List ℕ) (left fewer : ℕ → Bool) → ((i : ℕ) → fewer i ≡ true → left i ≡ true) → ((i : ℕ) → is_in i order ≡ true → fewer i ≡ true) → Picks clash left order → Picks clash fewer order
picks_shrink clash [] left fewer less among picks = tt
picks_shrink clash (i ∷ order) left fewer less among picks = (
  record {
    is_left = among i (or_left (nat_eq i i) _ (eq-eqb i i refl));
    unhindered = λ earlier low still. picks.0.unhindered earlier low (less earlier still);
  },
  picks_shrink clash order (without left i) (without fewer i)
      (λ k here. let parts = and_parts (fewer k) _ here in and_from _ _ (less k parts.0) parts.1)
      (λ k found.
      let other = (and_parts (left k) _ (picks_left clash order (without left i) k picks.1 found)).1 in
      and_from _ _ (among k (or_right (nat_eq k i) _ found)) other)
      picks.1,
)

pub picks_taken : {S : Type 0} {Good : S → Type 0} {after : S → ℕ → S} {clash : ℕ → ℕ → Bool} {n : ℕ} → Commutes S Good after clash n → (order : List ℕ) → Picks clash (all_below n) order → (state : S) → Good state → run_all after state order ≡ run_all after state (taken_in_order n order)
picks_taken {S} {Good} {after} {clash} {n} c order picks state good =
    let bounded : (i : ℕ) → is_in i order ≡ true → i < n = λ i found. ltb-true i n (picks_left clash order (all_below n) i picks found) in
    let own = picks_shrink clash order (all_below n) (λ i. is_in i order) (λ i found. lt-ltb i n (bounded i found)) (λ i found. found) picks in
    let gone : filter (left_after (λ i. is_in i order) order) (range_with_len 0 n) ≡ [] =
    filter_range_same (left_after (λ i. is_in i order) order) (λ _. false) 0 n (λ i low high. left_after_is order (λ k. is_in k order) i ∙ neither (is_in i order))
    ∙ nothing (range_with_len 0 n) in
    sym (picks_then_left c order (λ i. is_in i order) bounded state good own ∙ ap (run_all after (run_all after state order)) gone)
  where
    neither : (b : Bool) → (b && not b) ≡ false
    neither true = refl
    neither false = refl

    nothing : (xs : List ℕ) → filter (λ _. false) xs ≡ []
    nothing [] = refl
    nothing (x ∷ xs) = nothing xs
