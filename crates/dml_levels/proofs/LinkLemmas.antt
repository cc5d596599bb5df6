-- Places that are linked by their levels.
use Rattle.std.proofs.Common.{◌≡◌, ◌≢◌, ℕ, ◌+◌, ◌-◌, ◌<◌, ◌≤◌, zero, suc, List, length, get_or, set, sym, ◌∙◌, ap, subst, arith, ⊎_elim}
use Rattle.std.proofs.lemmas.Bool.{cases_eq, cond-true, cond-false, eq-eqb, ne_eqb}
use Rattle.std.proofs.lemmas.List.{get_or-set_other, get_or-set_same, length-set}
use Rattle.std.specs.Prelude.{nat_eq, slice_index}
use Rattle.dml_order.specs.Waves.{depth, later_places}
use Rattle.dml_order.proofs.WaveLemmas.{level_below_depth}
use Rattle.dml_levels.specs.Links.{AreLinked, first_from, first_place}

first_here : (levels : List ℕ) (level from count : ℕ) → slice_index levels from ≡ level → first_place levels level from (suc count) ≡ from
first_here levels level from count same = cond-true (nat_eq (slice_index levels from) level) _ _ (eq-eqb _ _ same)

first_later : (levels : List ℕ) (level from count : ℕ) → slice_index levels from ≢ level → first_place levels level from (suc count) ≡ first_place levels level (from + 1) count
first_later levels level from count other = cond-false (nat_eq (slice_index levels from) level) _ _ (ne_eqb _ _ other)

-- what is found lies where it was sought, is of the level, and no place is passed
pub record IsFirst (levels : List ℕ) (level from count found : ℕ) : Type 0 where
  pub least : from ≤ found
  pub most : found ≤ from + count
  pub same : found < from + count → slice_index levels found ≡ level
  pub rest : later_places levels level from count ≡ later_places levels level found (from + count - found)

is_first : (levels : List ℕ) (level from count : ℕ) → IsFirst levels level from count (first_place levels level from count)
is_first levels level from zero = record {
  least = omega arith;
  most = omega arith;
  same = λ below. absurd (omega (arith, below));
  rest = ap (later_places levels level from) (let e : zero ≡ from + zero - from = omega arith in e);
}
is_first levels level from (suc count) =
    ⊎_elim (λ same.
    subst (IsFirst levels level from (suc count)) (sym (first_here levels level from count same))
    (record {
      least = omega arith;
      most = omega arith;
      same = λ below. same;
      rest = ap (later_places levels level from) (let e : suc count ≡ from + suc count - from = omega arith in e);
    }))
    (λ other.
    let found : ℕ = first_place levels level (from + 1) count in
    let later : IsFirst levels level (from + 1) count found = is_first levels level (from + 1) count in
    subst (IsFirst levels level from (suc count)) (sym (first_later levels level from count other))
    (record {
      least = omega (arith, later.least);
      most = omega (arith, later.most);
      same = λ below. later.same (omega (arith, below));
      rest = cond-false (nat_eq (slice_index levels from) level) _ _ (ne_eqb _ _ other)
          ∙ (later.rest ∙ ap (later_places levels level found) (let e : from + 1 + count - found ≡ from + suc count - found = omega arith in e));
    }))
    (cases_eq (slice_index levels from) level)

-- the same up to the end of the list
pub record IsNext (levels : List ℕ) (level from found : ℕ) : Type 0 where
  pub least : from ≤ found
  pub most : found ≤ length levels
  pub same : found < length levels → slice_index levels found ≡ level
  pub rest : later_places levels level from (length levels - from) ≡ later_places levels level found (length levels - found)

pub is_next : (levels : List ℕ) (level from found : ℕ) → from ≤ length levels → found ≡ first_from levels level from → IsNext levels level from found
is_next levels level from found within is =
    let first : IsFirst levels level from (length levels - from) found =
    subst (IsFirst levels level from (length levels - from)) (sym is) (is_first levels level from (length levels - from)) in
    record {
      least = first.least;
      most = omega (arith, first.most);
      same = λ below. first.same (omega (arith, below));
      rest = first.rest ∙ ap (later_places levels level found) (let e : from + (length levels - from) - found ≡ length levels - found = omega arith in e);
    }

one_more : (levels : List ℕ) (level place : ℕ) → place < length levels → first_from levels level place ≡ first_place levels level place (suc (length levels - (place + 1)))
one_more levels level place below = ap (first_place levels level place) (let e : length levels - place ≡ suc (length levels - (place + 1)) = omega arith in e)

-- one place more
pub linked_more : (levels links : List ℕ) (place first : ℕ) → place < length levels → first ≡ length levels + slice_index levels place → AreLinked levels links (place + 1) → AreLinked levels (set (set links place (get_or links first 0)) first place) place
linked_more levels links place first below is known =
    let n : ℕ = length levels in
    let own : ℕ = slice_index levels place in
    let low : own < depth levels = level_below_depth levels place below in
    let head : ℕ = get_or links first 0 in
    let between : List ℕ = set links place head in
    let new : List ℕ = set between first place in
    let long : length between ≡ n + depth levels = length-set links place head ∙ known.long in
    let found : head ≡ first_from levels own (place + 1) = ap (slice_index links) is ∙ known.first own low in
    let kept : (i : ℕ) → i ≢ place → i ≢ first → slice_index new i ≡ slice_index links i =
    λ i other away. get_or-set_other between first i place 0 away ∙ get_or-set_other links place i head 0 other in
    record {
      long = length-set between first place ∙ long;
      next = λ i from under.
          ⊎_elim (λ same.
          ap (slice_index new) same
          ∙ (get_or-set_other between first place place 0 (λ e. absurd (omega (arith, e, is, below)))
          ∙ (get_or-set_same links place head 0 (omega (arith, known.long, below))
          ∙ (found ∙ ap (λ k. first_from levels (slice_index levels k) (k + 1)) (sym same)))))
          (λ other. kept i other (λ e. absurd (omega (arith, e, is, under))) ∙ known.next i (omega (arith, from, other)) under)
          (cases_eq i place);
      first = λ level under.
          ⊎_elim (λ same.
          ap (slice_index new) (let e : n + level ≡ first = omega (arith, is, same) in e)
          ∙ (get_or-set_same between first place 0 (omega (arith, long, is, low))
          ∙ sym (one_more levels level place below ∙ first_here levels level place (n - (place + 1)) (sym same))))
          (λ other.
          kept (n + level) (λ e. absurd (omega (arith, e, below))) (λ e. other (omega (arith, e, is)))
          ∙ (known.first level under
          ∙ sym (one_more levels level place below ∙ first_later levels level place (n - (place + 1)) (λ e. other (sym e)))))
          (cases_eq level own);
    }
