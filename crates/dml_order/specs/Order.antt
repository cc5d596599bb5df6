-- Steps by their places 0, 1, .. in a list, and the orders in which they may be carried out. What a step does is
-- not looked at: of two places it is only known whether they clash.
use Rattle.std.specs.Prelude.{◌≡◌, ℕ, ◌<◌, Bool, true, false, not, ◌&&◌, List, [], ◌∷◌, ◌++◌, filter, nat_eq, nat_lt}
use Rattle.std.specs.List.{list_any}
use Rattle.std.specs.List.{range_with_len}

-- the state after the steps at these places, one after another
abbrev pub run_all : {S : Type 0} → (S → ℕ → S) → S → List ℕ → S
run_all after state [] = state
run_all after state (i ∷ order) = run_all after (after state i) order

-- whether a place stands in a list
abbrev pub is_in : ℕ → List ℕ → Bool
is_in i order = list_any (nat_eq i) order

-- an order of the places below n: each stands in it once, and none before an earlier place that clashes with it
pub record IsOrder (clash : ℕ → ℕ → Bool) (n : ℕ) (order : List ℕ) : Type 0 where
  pub all : (i : ℕ) → i < n → is_in i order ≡ true
  pub below : (i : ℕ) → is_in i order ≡ true → i < n
  pub once : (before behind : List ℕ) (i : ℕ) → order ≡ before ++ i ∷ behind → is_in i before ≡ false
  pub kept :
      (before behind : List ℕ) (i earlier : ℕ) → order ≡ before ++ i ∷ behind → earlier < i → clash earlier i ≡ true
      → is_in earlier before ≡ true

-- of the places that are left, one is free where no earlier one that is left clashes with it
pub record IsFree (clash : ℕ → ℕ → Bool) (left : ℕ → Bool) (i : ℕ) : Type 0 where
  pub is_left : left i ≡ true
  pub unhindered : (earlier : ℕ) → earlier < i → left earlier ≡ true → clash earlier i ≡ false

abbrev pub without : (ℕ → Bool) → ℕ → ℕ → Bool
without left i other = left other && not (nat_eq other i)

-- picks: each place is free when its turn comes. They may stop before nothing is left
abbrev pub Picks : (ℕ → ℕ → Bool) → (ℕ → Bool) → List ℕ → Type 0
Picks clash left [] = Unit {0}
Picks clash left (i ∷ order) = IsFree clash left i × Picks clash (without left i) order

-- the places below n
abbrev pub all_below : ℕ → ℕ → Bool
all_below n i = nat_lt i n

-- the places below n that stand in a list, and those that do not, in list order
abbrev pub taken_in_order : ℕ → List ℕ → List ℕ
taken_in_order n taken = filter (λ i. is_in i taken) (range_with_len 0 n)

abbrev pub left_in_order : ℕ → List ℕ → List ℕ
left_in_order n taken = filter (λ i. not (is_in i taken)) (range_with_len 0 n)

-- steps at places below n that do not clash may change places in each state that is good, and steps keep it good
pub record Commutes (S : Type 0) (Good : S → Type 0) (after : S → ℕ → S) (clash : ℕ → ℕ → Bool) (n : ℕ) : Type 0 where
  pub keeps : (state : S) (i : ℕ) → Good state → Good (after state i)
  pub swap :
      (state : S) (i k : ℕ) → Good state → i < k → k < n → clash i k ≡ false
      → after (after state i) k ≡ after (after state k) i
