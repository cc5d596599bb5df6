-- The cells of several ranges.
use Rattle.std.proofs.Common.{◌^◌, false, ◌≡◌, ◌⊎◌, inl, inr, ℕ, ◌+◌, ◌<◌, ◌≤◌, max, zero, suc, List, [], ◌∷◌, length, get_or, take, sym, ◌∙◌, refl, subst, arith, ⊎_elim}
use Rattle.std.proofs.lemmas.Bool.{cases_lt, lt-ltb, false≢true}
use Rattle.std.proofs.lemmas.List.Folds.{list_any_at}
use Rattle.std.specs.List.{list_any}
use Rattle.dml_types.specs.declared.spans.Span.{Span}
use Rattle.dml_types.specs.Job.{is_past}
use Rattle.dml_levels.specs.declared.cells.Cells.{Cells}
use Rattle.dml_levels.specs.Cells.{IsCell, IsCovered, IsGreatest, IsRaised}

pub greatest_of_none : (heights : List ℕ) → IsGreatest heights (IsCovered []) 0
greatest_of_none heights = record { bound = λ cell covers. absurd covers; reached = inl refl }

pub raised_of_none : (heights : List ℕ) (height : ℕ) → IsRaised heights (IsCovered []) height heights
raised_of_none heights height = record { same_length = refl; inside = λ cell covers. absurd covers; outside = λ cell. inr refl }

-- of one cover and another
pub greatest_both : (heights : List ℕ) (has more : ℕ → Type 0) (a b : ℕ) → IsGreatest heights has a → IsGreatest heights more b → IsGreatest heights (λ cell. has cell ⊎ more cell) (max a b)
greatest_both heights has more a b one other = record {
  bound = λ cell. ⊎_elim (λ covers. omega (arith, one.bound cell covers)) (λ covers. omega (arith, other.bound cell covers));
  reached = ⊎_elim (λ low. ⊎_elim (λ none. inl (omega (arith, none, low))) (λ at. inr (record { cell = at.cell; covers = inr at.covers; same = omega (arith, at.same, low) })) other.reached)
      (λ high. ⊎_elim (λ none. inl (omega (arith, none, high))) (λ at. inr (record { cell = at.cell; covers = inl at.covers; same = omega (arith, at.same, high) })) one.reached)
      (cases_lt a b);
}

pub raised_both : (old between new : List ℕ) (has more : ℕ → Type 0) (height : ℕ) → IsRaised old has height between → IsRaised between more height new → IsRaised old (λ cell. has cell ⊎ more cell) height new
raised_both old between new has more height one other = record {
  same_length = other.same_length ∙ one.same_length;
  inside = λ cell. ⊎_elim
      (λ covers. ⊎_elim (λ again. omega (arith, one.inside cell covers, other.inside cell again)) (λ kept. kept ∙ one.inside cell covers) (other.outside cell))
      (λ covers. ⊎_elim (λ again. omega (arith, one.inside cell again, other.inside cell covers)) (λ kept. omega (arith, kept, other.inside cell covers)) (one.outside cell));
  outside = λ cell. ⊎_elim (λ covers. inl (inl covers)) (λ kept. ⊎_elim (λ covers. inl (inr covers)) (λ same. inr (same ∙ kept)) (other.outside cell)) (one.outside cell);
}

-- the same cells in other words
greatest_as : (heights : List ℕ) (has same : ℕ → Type 0) (height : ℕ) → ((cell : ℕ) → has cell → same cell) → ((cell : ℕ) → same cell → has cell) → IsGreatest heights has height → IsGreatest heights same height
greatest_as heights has same height there back known = record {
  bound = λ cell covers. known.bound cell (back cell covers);
  reached = ⊎_elim (λ none. inl none) (λ at. inr (record { cell = at.cell; covers = there at.cell at.covers; same = at.same })) known.reached;
}

raised_as : (old new : List ℕ) (has same : ℕ → Type 0) (height : ℕ) → ((cell : ℕ) → has cell → same cell) → ((cell : ℕ) → same cell → has cell) → IsRaised old has height new → IsRaised old same height new
raised_as old new has same height there back known = record {
  same_length = known.same_length;
  inside = λ cell covers. known.inside cell (back cell covers);
  outside = λ cell. ⊎_elim (λ covers. inl (there cell covers)) (λ kept. inr kept) (known.outside cell);
}

-- one range more
covered_more : (cover : List Cells) (i : ℕ) (cells d : Cells) (cell : ℕ) → i < length cover → cells ≡ get_or cover i d → IsCovered (take i cover) cell ⊎ IsCell cells cell → IsCovered (take (suc i) cover) cell
covered_more [] i cells d cell below is covers = absurd (omega (arith, below))
covered_more (x ∷ cover) zero cells d cell below is covers = ⊎_elim (λ none. absurd none) (λ here. inl (subst (λ c. IsCell c cell) is here)) covers
covered_more (x ∷ cover) (suc i) cells d cell below is covers =
    ⊎_elim (⊎_elim (λ first. inl first) (λ before. inr (covered_more cover i cells d cell (omega (arith, below)) is (inl before))))
    (λ here. inr (covered_more cover i cells d cell (omega (arith, below)) is (inr here))) covers

covered_before : (cover : List Cells) (i : ℕ) (cells d : Cells) (cell : ℕ) → i < length cover → cells ≡ get_or cover i d → IsCovered (take (suc i) cover) cell → IsCovered (take i cover) cell ⊎ IsCell cells cell
covered_before [] i cells d cell below is covers = absurd (omega (arith, below))
covered_before (x ∷ cover) zero cells d cell below is covers = ⊎_elim (λ here. inr (subst (λ c. IsCell c cell) (sym is) here)) (λ none. absurd none) covers
covered_before (x ∷ cover) (suc i) cells d cell below is covers =
    ⊎_elim (λ first. inl (inl first))
    (λ later. ⊎_elim (λ before. inl (inr before)) (λ here. inr here) (covered_before cover i cells d cell (omega (arith, below)) is later)) covers

next : (i : ℕ) → suc i ≡ i + 1
next i = omega arith

pub greatest_next : (heights : List ℕ) (cover : List Cells) (i : ℕ) (cells d : Cells) (a b : ℕ) → i < length cover → cells ≡ get_or cover i d → IsGreatest heights (IsCovered (take i cover)) a → IsGreatest heights (IsCell cells) b → IsGreatest heights (IsCovered (take (i + 1) cover)) (max a b)
greatest_next heights cover i cells d a b below is known here =
    subst (λ n. IsGreatest heights (IsCovered (take n cover)) (max a b)) (next i)
    (greatest_as heights (λ cell. IsCovered (take i cover) cell ⊎ IsCell cells cell) (IsCovered (take (suc i) cover)) (max a b)
    (λ cell. covered_more cover i cells d cell below is) (λ cell. covered_before cover i cells d cell below is)
    (greatest_both heights (IsCovered (take i cover)) (IsCell cells) a b known here))

pub raised_next : (old between new : List ℕ) (cover : List Cells) (i : ℕ) (cells d : Cells) (height : ℕ) → i < length cover → cells ≡ get_or cover i d → IsRaised old (IsCovered (take i cover)) height between → IsRaised between (IsCell cells) height new → IsRaised old (IsCovered (take (i + 1) cover)) height new
raised_next old between new cover i cells d height below is known here =
    subst (λ n. IsRaised old (IsCovered (take n cover)) height new) (next i)
    (raised_as old new (λ cell. IsCovered (take i cover) cell ⊎ IsCell cells cell) (IsCovered (take (suc i) cover)) height
    (λ cell. covered_more cover i cells d cell below is) (λ cell. covered_before cover i cells d cell below is)
    (raised_both old between new (IsCovered (take i cover)) (IsCell cells) height known here))

pub not_past : (spans : List Span) (i : ℕ) (d : Span) → i < length spans → list_any is_past spans ≡ false → (get_or spans i d).start + (get_or spans i d).len ≤ 2 ^ 64
not_past spans i d below none =
    ⊎_elim (λ past. absurd (false≢true (sym none ∙ list_any_at is_past spans i d below (lt-ltb (2 ^ 64) ((get_or spans i d).start + (get_or spans i d).len) past))))
    (λ within. within) (cases_lt (2 ^ 64) ((get_or spans i d).start + (get_or spans i d).len))
