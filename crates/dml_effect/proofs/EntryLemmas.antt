-- The entries of a create as bytes: ten bytes each, by their places.
use Rattle.std.proofs.Common.{◌≡◌, ℕ, zero, suc, ◌+◌, ◌-◌, ◌*◌, ◌<◌, ◌≤◌, ◌^◌, Bool, true, false, not, List, [], ◌∷◌, ◌++◌, length, take, drop, get_or, cond, refl, sym, ◌∙◌, ap, subst, arith}
use Rattle.std.specs.Prelude.{⊤}
use Rattle.std.specs.List.{range_with_len, filter, flat_map}
use Rattle.std.specs.Int.{from_le_bytes, w16}
use Rattle.std.proofs.lemmas.List.{length-append}
use Rattle.std.proofs.lemmas.Nat.{from_le_bytes-to_le_bytes_2}
use Rattle.std.proofs.Math.Seq.{drop-append-add, take-append-add}
use Rattle.dml_types.specs.declared.jobs.Job.{Job}
use Rattle.dml_types.specs.Memory.{Memory, IsWhole, has_all}
use Rattle.dml_types.specs.Delta.{block_number, block_bytes, differing, differs, block_entry, is_readable, readable_blocks}
use Rattle.dml_types.proofs.FirstLemmas.{first_le}
use Rattle.dml_types.proofs.MemoryLemmas.{has_all_within, length_bytes_at}
use Rattle.dml_delta.proofs.UnitLemmas.{readable_here}
use Rattle.std.proofs.lemmas.Bool.{and_parts}

-- a fact of each number of a list
abbrev pub EachIs : (ℕ → Type 0) → List ℕ → Type 0
EachIs P [] = ⊤
EachIs P (x ∷ xs) = P x × EachIs P xs

pub each_in_range : (P : ℕ → Type 0) (passes : ℕ → Bool) (a n : ℕ) → ((i : ℕ) → i < n → P (a + i)) → EachIs P (filter passes (range_with_len a n))
each_in_range P passes a zero all = tt
each_in_range P passes a (suc n) all =
    let here : P a = subst P (omega arith) (all 0 (omega arith)) in
    let rest = each_in_range P passes (a + 1) n (λ i below. subst P (omega arith) (all (i + 1) (omega arith))) in
    one (passes a) here (filter passes (range_with_len (a + 1) n)) rest
  where
    one : (b : Bool) → P a → (xs : List ℕ) → EachIs P xs → EachIs P (cond b (a ∷ xs) xs)
    one true here xs rest = (here, rest)
    one false here xs rest = rest

take_none : (n : ℕ) → take {A = ℕ} n [] ≡ []
take_none zero = refl
take_none (suc n) = refl

drop_none : (n : ℕ) → drop {A = ℕ} n [] ≡ []
drop_none zero = refl
drop_none (suc n) = refl

-- what f gives for each number of a list, ten bytes each
module _ (f : ℕ → List ℕ) where
  abbrev pub AreTens : List ℕ → Type 0
  AreTens xs = EachIs (λ x. length (f x) ≡ 10) xs

  pub length_tens : (xs : List ℕ) → AreTens xs → length (flat_map f xs) ≡ 10 * length xs
  length_tens [] tens = refl
  length_tens (x ∷ xs) tens = omega (arith, length-append (f x) (flat_map f xs), tens.0, length_tens xs tens.1)

  pub take_tens : (xs : List ℕ) (k : ℕ) → AreTens xs → take (10 * k) (flat_map f xs) ≡ flat_map f (take k xs)
  take_tens [] k tens = take_none (10 * k) ∙ ap (flat_map f) (sym (take_none k))
  take_tens (x ∷ xs) zero tens = refl
  take_tens (x ∷ xs) (suc k) tens =
      let more : 10 * suc k ≡ length (f x) + 10 * k = omega (arith, tens.0) in
      ap (λ (n : ℕ). take n (f x ++ flat_map f xs)) more
      ∙ (take-append-add (f x) (flat_map f xs) (10 * k) ∙ ap (λ (ys : List ℕ). f x ++ ys) (take_tens xs k tens.1))

  pub drop_tens : (xs : List ℕ) (k : ℕ) → AreTens xs → drop (10 * k) (flat_map f xs) ≡ flat_map f (drop k xs)
  drop_tens [] k tens = drop_none (10 * k) ∙ ap (flat_map f) (sym (drop_none k))
  drop_tens (x ∷ xs) zero tens = refl
  drop_tens (x ∷ xs) (suc k) tens =
      let more : 10 * suc k ≡ length (f x) + 10 * k = omega (arith, tens.0) in
      ap (λ (n : ℕ). drop n (f x ++ flat_map f xs)) more
      ∙ (drop-append-add (f x) (flat_map f xs) (10 * k) ∙ drop_tens xs k tens.1)

-- those past a list's end are none
pub take_past : (xs : List ℕ) (k : ℕ) → length xs ≤ k → take k xs ≡ take (length xs) xs
take_past [] zero past = refl
take_past [] (suc k) past = refl
take_past (x ∷ xs) zero past = absurd (omega arith)
take_past (x ∷ xs) (suc k) past = ap (λ (ys : List ℕ). x ∷ ys) (take_past xs k (omega arith))

-- the entries of blocks that are readable, in a memory
module _ (memory : Memory) (job : Job) where
  number_there : (xs : List ℕ) (k : ℕ) → AreTens (block_entry memory job) xs → EachIs (λ x. x < 2 ^ 16) xs → k < length xs → from_le_bytes w16 (take 2 (drop (10 * k) (flat_map (block_entry memory job) xs))) ≡ get_or xs k 0
  number_there [] k tens small below = absurd (omega arith)
  number_there (x ∷ xs) zero tens small below = from_le_bytes-to_le_bytes_2 x small.0
  number_there (x ∷ xs) (suc k) tens small below =
      let entry = block_entry memory job x in
      let rest = flat_map (block_entry memory job) xs in
      let more : 10 * suc k ≡ length entry + 10 * k = omega (arith, tens.0) in
      ap (λ (n : ℕ). from_le_bytes w16 (take 2 (drop n (entry ++ rest)))) more
      ∙ (ap (λ (ys : List ℕ). from_le_bytes w16 (take 2 ys)) (drop-append-add entry rest (10 * k))
      ∙ number_there xs k tens.1 small.1 (omega arith))

  -- the number in front of entry k
  pub number_is : (xs : List ℕ) (k : ℕ) → AreTens (block_entry memory job) xs → EachIs (λ x. x < 2 ^ 16) xs → k < length xs → block_number (flat_map (block_entry memory job) xs) k ≡ get_or xs k 0
  number_is xs k tens small below =
      let two : 10 * k + 2 - 10 * k ≡ 2 = omega arith in
      ap (λ (n : ℕ). from_le_bytes w16 (take n (drop (10 * k) (flat_map (block_entry memory job) xs)))) two
      ∙ number_there xs k tens small below

  pub entries_tens : (from to : ℕ) → IsWhole memory → AreTens (block_entry memory job) (differing memory job from to)
  entries_tens from to whole =
      each_in_range (λ x. length (block_entry memory job x) ≡ 10) (differs memory job) from (readable_blocks memory job from to)
      (λ i below.
      let address = job.target + 8 * (from + i) in
      let here : has_all memory address 8 ≡ true = (and_parts _ _ (readable_here memory job from to i below)).1 in
      entry_long (from + i) (length_bytes_at memory address 8 (has_all_within memory address 8 whole here eight)))
    where
      eight : 0 < 8
      eight = omega arith

      entry_long : (b : ℕ) → length (block_bytes memory job.target b) ≡ 8 → length (block_entry memory job b) ≡ 10
      entry_long b long = omega (arith, long)

  pub blocks_small : (from to : ℕ) → to ≤ 65536 → EachIs (λ x. x < 2 ^ 16) (differing memory job from to)
  blocks_small from to most =
      each_in_range (λ x. x < 2 ^ 16) (differs memory job) from (readable_blocks memory job from to)
      (λ i below. omega (arith, below, first_le (to - from) (λ j. not (is_readable memory job (from + j)))))
