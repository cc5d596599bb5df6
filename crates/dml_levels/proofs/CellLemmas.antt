-- Two ranges share a byte exactly where their cells meet.
use Rattle.std.proofs.Common.{◌≡◌, inl, inr, max, set, ℕ, ◌+◌, ◌-◌, ◌<◌, ◌≤◌, zero, suc, cond, List, [], ◌∷◌, length, get_or, filter, sym, ◌∙◌, ap, refl, arith, ⊎_elim}
use Rattle.std.proofs.lemmas.Bool.{cases_eq, cases_lt, le-leb, lt-leb}
use Rattle.std.proofs.lemmas.List.{get_or-set_other, length-set}
use Rattle.std.proofs.lemmas.Grind.{get_or-set_at}
use Rattle.std.specs.Prelude.{nat_le}
use Rattle.std.specs.List.Sorted.{IsNonDecreasing}
use Rattle.dml_levels.specs.declared.cells.Cells.{Cells}
use Rattle.dml_levels.specs.Starts.{IsSought}
use Rattle.dml_levels.specs.Cells.{cell_of, IsCell, IsGreatest, IsRaised}

cell_low : (start : ℕ) (xs : List ℕ) (x : ℕ) → start ≤ x → cell_of (start ∷ xs) x ≡ suc (cell_of xs x)
cell_low start xs x low = ap (λ b. length (cond b (start ∷ filter (λ s. nat_le s x) xs) (filter (λ s. nat_le s x) xs))) (le-leb start x low)

cell_high : (start : ℕ) (xs : List ℕ) (x : ℕ) → x < start → cell_of (start ∷ xs) x ≡ cell_of xs x
cell_high start xs x high = ap (λ b. length (cond b (start ∷ filter (λ s. nat_le s x) xs) (filter (λ s. nat_le s x) xs))) (lt-leb start x high)

-- the place that parts the starts at an address and before it from those behind it
pub cell_is : (xs : List ℕ) (x r : ℕ) → r ≤ length xs → ((k : ℕ) → k < r → get_or xs k 0 ≤ x) → ((k : ℕ) → r ≤ k → k < length xs → x < get_or xs k 0) → r ≡ cell_of xs x
cell_is [] x r within low high = omega arith
cell_is (y ∷ ys) x zero within low high =
    cell_is ys x zero (omega arith) (λ k below. absurd (omega (arith, below))) (λ k from below. high (suc k) (omega arith) (omega (arith, below)))
    ∙ sym (cell_high y ys x (high 0 (omega arith) (omega arith)))
cell_is (y ∷ ys) x (suc r) within low high =
    ap suc (cell_is ys x r (omega (arith, within)) (λ k below. low (suc k) (omega (arith, below))) (λ k from below. high (suc k) (omega (arith, from)) (omega (arith, below))))
    ∙ sym (cell_low y ys x (low 0 (omega arith)))

pub cell_le : (xs : List ℕ) (x y : ℕ) → x ≤ y → cell_of xs x ≤ cell_of xs y
cell_le [] x y before = omega arith
cell_le (s ∷ xs) x y before =
    let rest : cell_of xs x ≤ cell_of xs y = cell_le xs x y before in
    ⊎_elim (λ high. ⊎_elim (λ far. omega (arith, rest, cell_high s xs x high, cell_high s xs y far))
    (λ low. omega (arith, rest, cell_high s xs x high, cell_low s xs y low)) (cases_lt y s))
    (λ low. omega (arith, rest, cell_low s xs x low, cell_low s xs y (omega (arith, low, before))))
    (cases_lt x s)

-- what lies before a start lies in a lower cell
pub cell_lt : (xs : List ℕ) (x k : ℕ) → k < length xs → x < get_or xs k 0 → cell_of xs x < cell_of xs (get_or xs k 0)
cell_lt [] x k below before = absurd (omega (arith, below))
cell_lt (s ∷ xs) x zero below before = omega (arith, cell_le xs x s (omega (arith, before)), cell_high s xs x before, cell_low s xs s (omega arith))
cell_lt (s ∷ xs) x (suc k) below before =
    let y : ℕ = get_or xs k 0 in
    let rest : cell_of xs x < cell_of xs y = cell_lt xs x k (omega (arith, below)) before in
    ⊎_elim (λ high. ⊎_elim (λ far. omega (arith, rest, cell_high s xs x high, cell_high s xs y far))
    (λ low. omega (arith, rest, cell_high s xs x high, cell_low s xs y low)) (cases_lt y s))
    (λ low. omega (arith, rest, cell_low s xs x low, cell_low s xs y (omega (arith, low, before))))
    (cases_lt x s)

pub sought_low : (starts : List ℕ) (address first left half next rest : ℕ) → IsNonDecreasing starts → IsSought starts address first left → 0 < half → half ≤ left → get_or starts (first + half - 1) 0 ≤ address → next ≡ first + half → rest ≡ left - half → IsSought starts address next rest
sought_low starts address first left half next rest sorted known some most low e f = record {
  within = omega (arith, known.within, e, f);
  low = λ k below. omega (arith, low, sorted k (first + half - 1) 0 (omega (arith, e, below)) (omega (arith, known.within)));
  high = λ k from below. known.high k (omega (arith, from, e, f)) below;
}

pub sought_high : (starts : List ℕ) (address first left half next rest : ℕ) → IsNonDecreasing starts → IsSought starts address first left → 0 < half → half ≤ left → half ≤ left - half + 1 → address < get_or starts (first + half - 1) 0 → next ≡ first → rest ≡ left - half → IsSought starts address next rest
sought_high starts address first left half next rest sorted known some most near high e f = record {
  within = omega (arith, known.within, e, f);
  low = λ k below. known.low k (omega (arith, e, below));
  high = λ k from below. omega (arith, high, sorted (first + half - 1) k 0 (omega (arith, from, e, f)) below);
}

pub sought_found : (starts : List ℕ) (address first left : ℕ) → IsSought starts address first left → left ≡ 0 → first ≡ cell_of starts address
sought_found starts address first left known none =
    cell_is starts address first (omega (arith, known.within)) known.low (λ k from below. known.high k (omega (arith, from, none)) below)

-- a start in a lower place than the cell lies at the address or before it
pub starts_low : (starts : List ℕ) (x k : ℕ) → k < cell_of starts x → IsNonDecreasing starts → get_or starts k 0 ≤ x
starts_low starts x k below sorted =
    ⊎_elim (λ high.
    absurd (omega (arith, below, few starts x k (λ j from to. omega (arith, high, sorted k j 0 from to)))))
    (λ low. low) (cases_lt x (get_or starts k 0))
  where
    few : (xs : List ℕ) (x k : ℕ) → ((j : ℕ) → k ≤ j → j < length xs → x < get_or xs j 0) → cell_of xs x ≤ k
    few [] x k high = omega arith
    few (s ∷ xs) x zero high = omega (arith, few xs x zero (λ j from to. high (suc j) (omega arith) (omega (arith, to))), cell_high s xs x (high 0 (omega arith) (omega arith)))
    few (s ∷ xs) x (suc k) high =
        let rest = few xs x k (λ j from to. high (suc j) (omega (arith, from)) (omega (arith, to))) in
        ⊎_elim (λ far. omega (arith, rest, cell_high s xs x far)) (λ low. omega (arith, rest, cell_low s xs x low)) (cases_lt x s)

pub cell_within : (starts : List ℕ) (x : ℕ) → cell_of starts x ≤ length starts
cell_within [] x = omega arith
cell_within (s ∷ xs) x =
    let rest = cell_within xs x in
    ⊎_elim (λ high. omega (arith, rest, cell_high s xs x high)) (λ low. omega (arith, rest, cell_low s xs x low)) (cases_lt x s)

abbrev pub cells_from : ℕ → ℕ → Cells
cells_from first end = record { first = first; end = end }

-- the cells from first on, below end
abbrev pub Between : ℕ → ℕ → ℕ → Type 0
Between first end cell = IsCell (cells_from first end) cell

-- one cell more
pub greatest_more : (heights : List ℕ) (first end greatest : ℕ) → IsGreatest heights (Between first end) greatest → first ≤ end → IsGreatest heights (Between first (end + 1)) (max greatest (get_or heights end 0))
greatest_more heights first end greatest known order = record {
  bound = λ k covers. ⊎_elim (λ same. omega (arith, ap (λ j. get_or heights j 0) same)) (λ other. omega (arith, known.bound k (record { from = covers.from; to = omega (arith, covers.to, other) }))) (cases_eq k end);
  reached = ⊎_elim (λ high. inr (record { cell = end; covers = record { from = order; to = omega arith }; same = omega (arith, high) }))
      (λ low. ⊎_elim (λ none. inl (omega (arith, none, low))) (λ at. inr (record { cell = at.cell; covers = record { from = at.covers.from; to = omega (arith, at.covers.to) }; same = omega (arith, at.same, low) })) known.reached)
      (cases_lt greatest (get_or heights end 0));
}

pub raised_more : (old new : List ℕ) (first end height : ℕ) → IsRaised old (Between first end) height new → first ≤ end → end < length new → IsRaised old (Between first (end + 1)) height (set new end (max (get_or new end 0) height))
raised_more old new first end height known order room =
    let put = set new end (max (get_or new end 0) height) in
    let here : get_or put end 0 ≡ max (get_or new end 0) height = get_or-set_at new end end (max (get_or new end 0) height) 0 refl room in
    let before : get_or new end 0 ≡ get_or old end 0 =
    ⊎_elim (λ covered. absurd (omega (arith, covered.to))) (λ same. same) (known.outside end) in
    record {
      same_length = length-set new end (max (get_or new end 0) height) ∙ known.same_length;
      inside = λ k covers.
          ⊎_elim (λ same. omega (arith, here, before, ap (λ j. get_or old j 0) same, ap (λ j. get_or put j 0) same))
          (λ other. get_or-set_other new end k (max (get_or new end 0) height) 0 other ∙ known.inside k (record { from = covers.from; to = omega (arith, covers.to, other) }))
          (cases_eq k end);
      outside = λ k.
          ⊎_elim (λ same. inl (record { from = omega (arith, same, order); to = omega (arith, same) }))
          (λ other. ⊎_elim (λ covers. inl (record { from = covers.from; to = omega (arith, covers.to) })) (λ kept. inr (get_or-set_other new end k (max (get_or new end 0) height) 0 other ∙ kept)) (known.outside k))
          (cases_eq k end);
    }

-- all cells
pub greatest_all : (heights : List ℕ) (cells : Cells) (cell greatest : ℕ) → IsGreatest heights (Between cells.first cell) greatest → cells.end ≤ cell → cell ≤ max cells.first cells.end → IsGreatest heights (IsCell cells) greatest
greatest_all heights cells cell greatest known done near = record {
  bound = λ k covers. known.bound k (record { from = covers.from; to = omega (arith, covers.to, done) });
  reached = ⊎_elim (λ none. inl none) (λ at. inr (record { cell = at.cell; covers = record { from = at.covers.from; to = omega (arith, at.covers.from, at.covers.to, near) }; same = at.same })) known.reached;
}

pub raised_all : (old new : List ℕ) (cells : Cells) (cell height : ℕ) → IsRaised old (Between cells.first cell) height new → cells.end ≤ cell → cell ≤ max cells.first cells.end → IsRaised old (IsCell cells) height new
raised_all old new cells cell height known done near = record {
  same_length = known.same_length;
  inside = λ k covers. known.inside k (record { from = covers.from; to = omega (arith, covers.to, done) });
  outside = λ k. ⊎_elim (λ covers. inl (record { from = covers.from; to = omega (arith, covers.from, covers.to, near) })) (λ kept. inr kept) (known.outside k);
}
