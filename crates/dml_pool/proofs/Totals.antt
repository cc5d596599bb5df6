-- Sums over the views of all passes, and what each view has.
use Rattle.std.proofs.Common.{◌≡◌, ◌≢◌, ℕ, zero, suc, ◌+◌, ◌≤◌, List, [], ◌∷◌, ◌++◌, set, refl, sym, ap, ◌∙◌, subst, ⊎_elim, arith}
use mathlib.Core.Option.{some, some-injective, some-ne-none}
use lib.ListN.{get_elem?}
use Rattle.crossbeam_deque.proofs.Lists.{at_set, at_snoc, set_else}
use Rattle.dml_pool.specs.declared.rule.Hand.{Hand}
use Rattle.dml_pool.specs.Rule.{hand, total}

-- F holds of each view
abbrev pub Every : (Hand → Type 0) → List Hand → Type 0
Every F views = (port : ℕ) (v : Hand) → get_elem? views port ≡ some v → F v

pub total_set : (f : Hand → ℕ) (views : List Hand) (port : ℕ) (v w : Hand) → get_elem? views port ≡ some v → total f (set views port w) + f v ≡ total f views + f w
total_set f [] port v w at = absurd (some-ne-none v (sym at))
total_set f (u ∷ views) zero v w at = let same = ap f (some-injective u v at) in omega (arith, same)
total_set f (u ∷ views) (suc port) v w at = let rest = total_set f views port v w at in omega (arith, rest)

pub total_snoc : (f : Hand → ℕ) (views : List Hand) (w : Hand) → total f (views ++ w ∷ []) ≡ total f views + f w
total_snoc f [] w = omega arith
total_snoc f (u ∷ views) w = let rest = total_snoc f views w in omega (arith, rest)

pub total_zero : (f : Hand → ℕ) (views : List Hand) → Every (λ v. f v ≡ 0) views → total f views ≡ 0
total_zero f [] none = refl
total_zero f (v ∷ views) none =
    let here = none zero v refl in let rest = total_zero f views (λ port. none (suc port)) in omega (arith, here, rest)

pub part_of_total : (f : Hand → ℕ) (views : List Hand) (port : ℕ) (v : Hand) → get_elem? views port ≡ some v → f v ≤ total f views
part_of_total f [] port v at = absurd (some-ne-none v (sym at))
part_of_total f (u ∷ views) zero v at = let same = ap f (some-injective u v at) in omega (arith, same)
part_of_total f (u ∷ views) (suc port) v at = let rest = part_of_total f views port v at in omega (arith, rest)

pub every_set : (F : Hand → Type 0) (views : List Hand) (port : ℕ) (w : Hand) → F w
    → ((j : ℕ) (u : Hand) → j ≢ port → get_elem? views j ≡ some u → F u) → Every F (set views port w)
every_set F views port w mine others j u at =
    ⊎_elim (λ (x : (j ≡ port) × (w ≡ u)). subst F x.1 mine) (λ (x : (j ≢ port) × (get_elem? views j ≡ some u)). others j u x.0 x.1)
    (at_set views port j w u at)

pub every_snoc : (F : Hand → Type 0) (views : List Hand) (w : Hand) → Every F views → F w → Every F (views ++ w ∷ [])
every_snoc F views w old mine j u at = ⊎_elim (λ there. old j u there) (λ (is : w ≡ u). subst F is mine) (at_snoc views w u j at)

-- where one pass has all parts, every other one has none
pub only_one : (views : List Hand) (port : ℕ) (v : Hand) → get_elem? views port ≡ some v → total (λ u. u.parts) views ≡ v.parts
    → (j : ℕ) (u : Hand) → j ≢ port → get_elem? views j ≡ some u → u.parts ≡ 0
only_one views port v at all j u other there =
    let without = total_set (λ w. w.parts) views port v (hand [] 0 []) at in
    let part = part_of_total (λ w. w.parts) (set views port (hand [] 0 [])) j u (set_else views port j (hand [] 0 []) other ∙ there) in
    omega (arith, without, part, all)

-- where every other view counts nothing, the total is the count of this one
pub whole_total : (f : Hand → ℕ) (views : List Hand) (port : ℕ) (v : Hand) → get_elem? views port ≡ some v → f (hand [] 0 []) ≡ 0
    → ((j : ℕ) (u : Hand) → j ≢ port → get_elem? views j ≡ some u → f u ≡ 0) → total f views ≡ f v
whole_total f views port v at nothing others =
    let without = total_set f views port v (hand [] 0 []) at in
    let rest = total_zero f (set views port (hand [] 0 [])) (every_set (λ u. f u ≡ 0) views port (hand [] 0 []) nothing others) in
    omega (arith, without, rest, nothing)
