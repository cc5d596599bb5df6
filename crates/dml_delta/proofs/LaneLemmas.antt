-- Blocks in lists of bytes, and the marks of those that differ.
use Rattle.std.proofs.Common.{◌≡◌, ℕ, ◌+◌, ◌-◌, ◌*◌, ◌%◌, ◌^◌, ◌<◌, ◌≤◌, Bool, true, false, not, ◌&&◌, List, [], ◌∷◌, ◌++◌, length, get_or, take, drop, cond, eqb, Fits, w8, w64, refl, sym, ◌∙◌, ap, ap₂, subst, map, replicate, arith, rules, ⊎_elim}
use Rattle.std.specs.Prelude.{bytes_eq}
use Rattle.std.specs.Int.{bit_at, bit_not, to_le_bytes, w16}
use Rattle.std.specs.Prelude.{bit_and, bit_xor}
use Rattle.std.proofs.lemmas.Nat.Bits.{bit_at-trailing_zeros, bit_at-zero, bit_at-lt, bit_at_and, bit_at_ones, bit_at_ones_above, bit_at_xor, bit_at_clear_other, bit_at_clear_same}
use Rattle.std.proofs.lemmas.Bool.{cases_eq, cases_lt, eq-eqb, eqb-true, ne_eqb, and_left}
use Rattle.std.proofs.lemmas.List.{places, same_lists, drop_all, drop_at, take_all, get_or_past, length-replicate, replicate-append-replicate}
use Rattle.std.proofs.lemmas.Simd.{bit_mask_l, mask_l-mod, tops_compared, get_or-zip2, get_or_wider, chunk-fits, below_from_Fits, length-chunk}
use Rattle.std.proofs.lemmas.Slice.Eq.{bytes_eq-Decides}
use lib.Count.{count_trailing_zeros}
use lib.Lanes.{Each1, zip2, mask_l, top, number_l, digits_l}
use Rattle.dml_delta.specs.Entries.{nth_block, nth_differs, nth_entry, gathered, is_marked}
use Rattle.dml_types.specs.declared.jobs.Job.{Job}
use Rattle.dml_types.specs.Memory.{Memory, bytes_at}
use Rattle.dml_types.specs.Delta.{block_bytes, differs, block_entry}
use Rattle.dml_delta.proofs.EntryLemmas.{gathered_alike, gathered_next, gathered_none, gathered_split}

-- blocks
block_is : (xs : List ℕ) (i : ℕ) → nth_block xs i ≡ take 8 (drop (8 * i) xs)
block_is xs i = let eight : 8 * i + 8 - 8 * i ≡ 8 = omega arith in ap (λ (n : ℕ). take n (drop (8 * i) xs)) eight

pub block_past : (xs : List ℕ) (i : ℕ) → length xs ≤ 8 * i → nth_block xs i ≡ []
block_past xs i past = block_is xs i ∙ ap (take 8) (drop_all (8 * i) xs past)

-- of a part of a list that begins with block a
pub block_of_part : (xs : List ℕ) (place a m i : ℕ) → place ≡ 8 * a → 8 * i + 8 ≤ m → nth_block (take m (drop place xs)) i ≡ nth_block xs (a + i)
block_of_part xs place a m i at within = same_lists _ _ (search (rules, places)) (λ k d h. grind (arith, places))

-- of a list that is filled up
pub block_of_front : (xs zs : List ℕ) (i : ℕ) → 8 * i + 8 ≤ length xs → nth_block (xs ++ zs) i ≡ nth_block xs i
block_of_front xs zs i within = same_lists _ _ (search (rules, places)) (λ k d h. grind (arith, places))

pub block_behind : (xs ys zs : List ℕ) (i : ℕ) → length xs ≡ length ys → length xs ≤ 8 * i → nth_block (xs ++ zs) i ≡ nth_block (ys ++ zs) i
block_behind xs ys zs i same past = same_lists _ _ (search (rules, places)) (λ k d h. grind (arith, places))

pub zeros_left : (m n : ℕ) → n ≤ m → drop n (replicate {A = ℕ} m 0) ≡ replicate (m - n) 0
zeros_left m n within =
    let long : m ≡ n + (m - n) = omega arith in
    ap (λ (k : ℕ). drop n (replicate {A = ℕ} k 0)) long
    ∙ (ap (λ (xs : List ℕ). drop n xs) (sym (replicate-append-replicate {A = ℕ} n (m - n) 0)) ∙ drop_at (replicate {A = ℕ} n 0) (replicate (m - n) 0) n (length-replicate {A = ℕ} n 0))

-- equal blocks do not differ
pub alike : (one other : List ℕ) (i : ℕ) → nth_block one i ≡ nth_block other i → nth_differs one other i ≡ false
alike one other i same = ap not ((bytes_eq-Decides (nth_block one i) (nth_block other i)).1 same)

pub differs_filled : (one other zs : List ℕ) (i : ℕ) → length one ≡ length other → length one % 8 ≡ 0 → nth_differs (one ++ zs) (other ++ zs) i ≡ nth_differs one other i
differs_filled one other zs i same whole =
    ⊎_elim (λ inside.
    ap₂ (λ (a b : List ℕ). not (bytes_eq a b)) (block_of_front one zs i (omega arith)) (block_of_front other zs i (omega arith)))
    (λ past.
    alike (one ++ zs) (other ++ zs) i (block_behind one other zs i same past)
    ∙ sym (alike one other i (block_past one i past ∙ sym (block_past other i (omega arith)))))
    (cases_lt (8 * i) (length one))

-- the number that bytes make tells them
number_eq : (xs ys : List ℕ) → length xs ≡ length ys → Each1 (λ x. x < 256) xs → Each1 (λ y. y < 256) ys → eqb (number_l 256 xs) (number_l 256 ys) ≡ bytes_eq xs ys
number_eq [] [] same fit fits = refl
number_eq [] (y ∷ ys) same fit fits = absurd (omega arith)
number_eq (x ∷ xs) [] same fit fits = absurd (omega arith)
number_eq (x ∷ xs) (y ∷ ys) same fit fits =
    joined x y (number_l 256 xs) (number_l 256 ys) fit.0 fits.0 ∙ ap (λ (b : Bool). eqb x y && b) (number_eq xs ys (omega arith) fit.1 fits.1)
  where
    joined : (x y n m : ℕ) → x < 256 → y < 256 → eqb (x + 256 * n) (y + 256 * m) ≡ (eqb x y && eqb n m)
    joined x y n m low small =
        ⊎_elim (λ alike.
        ⊎_elim (λ both. eq-eqb (x + 256 * n) (y + 256 * m) (omega arith) ∙ sym (ap₂ (λ (a b : Bool). a && b) (eq-eqb x y alike) (eq-eqb n m both)))
        (λ apart. ne_eqb (x + 256 * n) (y + 256 * m) (λ e. apart (omega arith)) ∙ sym (ap₂ (λ (a b : Bool). a && b) (eq-eqb x y alike) (ne_eqb n m apart))) (cases_eq n m))
        (λ apart. ne_eqb (x + 256 * n) (y + 256 * m) (λ e. apart (omega arith)) ∙ sym (and_left (eqb x y) (eqb n m) (ne_eqb x y apart))) (cases_eq x y)

-- the marks that eight lanes give
abbrev words : List ℕ → List ℕ
words xs = digits_l 18446744073709551616 8 (number_l 256 (take 64 xs))

abbrev lane_marks : List ℕ → List ℕ → ℕ
lane_marks xs ys = mask_l (map (top 63) (zip2 (λ a b. cond (eqb a b) 18446744073709551615 0) xs ys)) % 18446744073709551616

word_is : (xs : List ℕ) (i : ℕ) → length xs ≡ 64 → ((k : ℕ) → Fits w8 (get_or xs k 0)) → i < 8 → (get_or (words xs) i 0 ≡ number_l 256 (nth_block xs i)) × (Each1 (λ x. x < 256) (nth_block xs i)) × (length (nth_block xs i) ≡ 8)
word_is xs i long fit below =
    let all : take 64 xs ≡ xs = take_all 64 xs (omega arith) in
    let bytes : Each1 (λ x. x < 256) (take 64 xs) = below_from_Fits w8 _ (chunk-fits w8 0 64 xs fit) in (
      get_or_wider 256 8 18446744073709551616 8 (take 64 xs) i refl bytes below
          ∙ ap (number_l 256) (ap (λ (zs : List ℕ). take 8 (drop (8 * i) zs)) all ∙ sym (block_is xs i)),
      subst (λ (zs : List ℕ). Each1 (λ x. x < 256) zs) (sym (block_is xs i)) (below_from_Fits w8 _ (chunk-fits w8 (8 * i) 8 xs fit)),
      ap (λ (zs : List ℕ). length zs) (block_is xs i) ∙ length-chunk (8 * i) 8 xs (omega arith),
    )

pub alike_are : (one other : List ℕ) (i : ℕ) → length one ≡ 64 → length other ≡ 64 → ((k : ℕ) → Fits w8 (get_or one k 0)) → ((k : ℕ) → Fits w8 (get_or other k 0)) → is_marked (bit_xor 255 (lane_marks (words one) (words other))) i ≡ nth_differs one other i
alike_are one other i long too fit fits =
    let bits = zip2 eqb (words one) (words other) in
    let mask : lane_marks (words one) (words other) ≡ mask_l bits =
    ap (λ (bs : List Bool). mask_l bs % 18446744073709551616) (tops_compared w64 eqb (words one) (words other)) ∙ mask_l-mod bits 64 (omega arith) in
    ap (λ (m : ℕ). is_marked (bit_xor 255 m) i) mask
    ∙ (ap (λ (b : ℕ). eqb b 1) (bit_at_xor 255 (mask_l bits) i)
    ∙ (ap (λ (b : ℕ). eqb ((bit_at 255 i + b) % 2) 1) (bit_mask_l bits i)
    ∙ ⊎_elim (λ below.
    let a = word_is one i long fit below in
    let b = word_is other i too fits below in
    ap (λ (n : ℕ). eqb ((n + cond (get_or bits i false) 1 0) % 2) 1) (bit_at_ones 8 i below)
    ∙ (turned (get_or bits i false)
    ∙ ap not
    (get_or-zip2 eqb (words one) (words other) i 0 0 false below below
    ∙ (ap₂ eqb a.0 b.0 ∙ number_eq (nth_block one i) (nth_block other i) (a.2 ∙ sym b.2) a.1 b.1))))
    (λ past.
    ap₂ (λ (n : ℕ) (c : Bool). eqb ((n + cond c 1 0) % 2) 1) (bit_at_ones_above 8 i past) (get_or_past bits i false past)
    ∙ sym (alike one other i (block_past one i (omega arith) ∙ sym (block_past other i (omega arith)))))
    (cases_lt i 8)))
  where
    turned : (b : Bool) → eqb ((1 + cond b 1 0) % 2) 1 ≡ not b
    turned true = refl
    turned false = refl

-- the lowest mark
pub record Lowest (marks all at : ℕ) : Type 0 where
  pub here : is_marked all (at + count_trailing_zeros 64 marks) ≡ true
  pub before : (i : ℕ) → i < count_trailing_zeros 64 marks → is_marked all (at + i) ≡ false

pub lowest : (marks all at : ℕ) → 0 < marks → marks < 2 ^ 64 → ((i : ℕ) → is_marked marks i ≡ is_marked all (at + i)) → Lowest marks all at
lowest marks all at some fit same =
    let z = count_trailing_zeros 64 marks in
    let first = bit_at-trailing_zeros w64 marks some fit in
    record {
      here = sym (same z) ∙ ap (λ (b : ℕ). eqb b 1) first.1;
      before = λ i below. sym (same i) ∙ ap (λ (b : ℕ). eqb b 1) (first.2 i below);
    }

pub no_marks : (i : ℕ) → is_marked 0 i ≡ false
no_marks i = ap (λ (b : ℕ). eqb b 1) (bit_at-zero i)

-- the marks without the lowest one
abbrev pub cleared : ℕ → ℕ → ℕ
cleared marks z = bit_and marks (bit_not w64 (1 * 2 ^ z % 2 ^ 64))

pub still_marked : (marks others i : ℕ) → is_marked (bit_and marks others) i ≡ true → is_marked marks i ≡ true
still_marked marks others i set =
    eq-eqb (bit_at marks i) 1 (omega (arith, eqb-true (bit_at (bit_and marks others) i) 1 set, bit_at_and marks others i, bit_at-lt marks i))

-- what is gathered by the marks: that of the lowest, and then by the others
pub gathered_by_lowest : (f : ℕ → List ℕ) (marks n : ℕ) → 0 < marks → marks < 2 ^ 64 → count_trailing_zeros 64 marks < n → n ≤ 64 → gathered f (is_marked marks) 0 n ≡ f (count_trailing_zeros 64 marks) ++ gathered f (is_marked (cleared marks (count_trailing_zeros 64 marks))) 0 n
gathered_by_lowest f marks n some fit within few =
    let z = count_trailing_zeros 64 marks in
    let rest = n - (z + 1) in
    let low = lowest marks marks 0 some fit (λ i. ap (is_marked marks) (omega arith)) in
    let below : z < 64 = omega (arith, within, few) in
    let others = is_marked (cleared marks z) in
    let parts : n ≡ z + 1 + rest = omega (arith, within) in
    let start : 0 + z + 1 ≡ z + 1 = omega arith in
    let from_zero : 0 + z ≡ z = omega arith in
    let one : gathered f (is_marked marks) 0 (z + 1) ≡ f z =
    ap (gathered f (is_marked marks) 0) (sym start) ∙ (gathered_next f (is_marked marks) 0 z low.before low.here ∙ ap f from_zero) in
    let none : gathered f others 0 (z + 1) ≡ [] = gathered_none f others 0 (z + 1) (λ i under. gone z below low.before i under) in
    let same : gathered f (is_marked marks) (0 + (z + 1)) rest ≡ gathered f others (0 + (z + 1)) rest =
    gathered_alike f f (is_marked marks) others (0 + (z + 1)) (0 + (z + 1)) rest
    (λ i under. ap (λ (b : ℕ). eqb b 1) (sym (bit_at_clear_other w64 marks z below (0 + (z + 1) + i) (omega (arith, parts, under, few)) (λ e. absurd (omega (arith, e))))))
    (λ i under. refl) in
    ap (gathered f (is_marked marks) 0) parts
    ∙ (gathered_split f (is_marked marks) 0 (z + 1) rest
    ∙ (ap₂ (λ (xs ys : List ℕ). xs ++ ys) one same
    ∙ ap (λ (xs : List ℕ). f z ++ xs)
    (sym (ap (gathered f others 0) parts ∙ (gathered_split f others 0 (z + 1) rest ∙ ap (λ (xs : List ℕ). xs ++ gathered f others (0 + (z + 1)) rest) none)))))
  where
    gone : (z : ℕ) → z < 64 → ((i : ℕ) → i < z → is_marked marks (0 + i) ≡ false) → (i : ℕ) → i < z + 1 → is_marked (cleared marks z) (0 + i) ≡ false
    gone z below before i under =
        ⊎_elim (λ same.
        let here : 0 + i ≡ z = omega (arith, same) in
        ap (is_marked (cleared marks z)) here ∙ ap (λ (b : ℕ). eqb b 1) (bit_at_clear_same w64 marks z below))
        (λ apart.
        let lower : i < z = omega (arith, apart, under) in
        ap (λ (b : ℕ). eqb b 1) (bit_at_clear_other w64 marks z below (0 + i) (omega (arith, lower, below)) (λ e. apart (omega (arith, e)))) ∙ before i lower)
        (cases_eq i z)

-- the entry of a block has ten bytes
pub length_nth_entry : (number : ℕ) (bytes : List ℕ) (i : ℕ) → 8 * i + 8 ≤ length bytes → length (nth_entry number bytes i) ≡ 10
length_nth_entry number bytes i inside = omega (arith, length_block bytes i inside)
  where
    length_block : (bytes : List ℕ) (i : ℕ) → 8 * i + 8 ≤ length bytes → length (nth_block bytes i) ≡ 8
    length_block bytes i inside = search (rules, places)

-- the entries of a part of two lists are those of its blocks in the lists
pub part_entries : (one other : List ℕ) (marks number place a m k n : ℕ) → place ≡ 8 * a → 8 * n ≤ m → 8 * n ≤ k → ((i : ℕ) → is_marked marks i ≡ nth_differs (take m (drop place one)) (take k (drop place other)) i) → gathered (nth_entry (number + a) (take k (drop place other))) (is_marked marks) 0 n ≡ gathered (nth_entry number other) (nth_differs one other) a n
part_entries one other marks number place a m k n at within too same =
    gathered_alike (nth_entry (number + a) (take k (drop place other))) (nth_entry number other) (is_marked marks) (nth_differs one other) 0 a n
    (λ i below.
    let from_zero : 0 + i ≡ i = omega arith in
    ap (is_marked marks) from_zero
    ∙ (same i
    ∙ ap₂ (λ (x y : List ℕ). not (bytes_eq x y)) (block_of_part one place a m i at (omega arith)) (block_of_part other place a k i at (omega arith))))
    (λ i below.
    let from_zero : 0 + i ≡ i = omega arith in
    let numbered : number + a + i ≡ number + (a + i) = omega arith in
    ap (nth_entry (number + a) (take k (drop place other))) from_zero
    ∙ ap₂ (λ (b : ℕ) (x : List ℕ). to_le_bytes w16 b ++ x) numbered (block_of_part other place a k i at (omega arith)))

-- blocks that are read from a memory at once
block_of_read : (memory : Memory) (address b n m i : ℕ) → 8 * i + 8 ≤ m → m ≤ n → nth_block (take m (bytes_at memory (address + 8 * b) n)) i ≡ block_bytes memory address (b + i)
block_of_read memory address b n m i within short = same_lists _ _ (search (rules, places)) (λ k d h. grind (arith, places))

pub memory_entries : (memory : Memory) (job : Job) (one other : List ℕ) (b m n : ℕ) → one ≡ bytes_at memory (job.source + 8 * b) (length one) → other ≡ bytes_at memory (job.target + 8 * b) (length other) → m ≤ length one → m ≤ length other → 8 * n ≤ m → gathered (nth_entry b (take m other)) (nth_differs (take m one) (take m other)) 0 n ≡ gathered (block_entry memory job) (differs memory job) b n
memory_entries memory job one other b m n read also short too within =
    gathered_alike (nth_entry b (take m other)) (block_entry memory job) (nth_differs (take m one) (take m other)) (differs memory job) 0 b n
    (λ i below.
    let from_zero : 0 + i ≡ i = omega arith in
    ap (nth_differs (take m one) (take m other)) from_zero
    ∙ ap₂ (λ (x y : List ℕ). not (bytes_eq x y)) (first i below) (second i below))
    (λ i below.
    let from_zero : 0 + i ≡ i = omega arith in
    ap (nth_entry b (take m other)) from_zero ∙ ap (λ (x : List ℕ). to_le_bytes w16 (b + i) ++ x) (second i below))
  where
    first : (i : ℕ) → i < n → nth_block (take m one) i ≡ block_bytes memory job.source (b + i)
    first i below = ap (λ (xs : List ℕ). nth_block (take m xs) i) read ∙ block_of_read memory job.source b (length one) m i (omega arith) short

    second : (i : ℕ) → i < n → nth_block (take m other) i ≡ block_bytes memory job.target (b + i)
    second i below = ap (λ (xs : List ℕ). nth_block (take m xs) i) also ∙ block_of_read memory job.target b (length other) m i (omega arith) too
