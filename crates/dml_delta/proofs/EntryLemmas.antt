-- The entries of blocks, one after another.
use Rattle.std.proofs.Common.{◌≡◌, ℕ, zero, suc, ◌+◌, ◌-◌, ◌*◌, ◌<◌, ◌≤◌, Bool, true, false, List, [], ◌∷◌, ◌++◌, length, drop, cond, refl, ◌∙◌, ap, ap₂, arith, zero-add, append_assoc, take}
use Rattle.std.specs.List.{range_with_len, filter, flat_map}
use Rattle.std.proofs.lemmas.List.{append-nil, length-append, length-take}
use Rattle.std.proofs.lemmas.Slice.{take-put_mid}
use borrow.Rule.Slice.PartMut.{put_mid}
use Rattle.std.proofs.lemmas.List.Concat.{flat_map-append}
use Rattle.std.proofs.lemmas.List.Elements.{filter-append}
use Rattle.dml_types.specs.declared.jobs.Job.{Job}
use Rattle.dml_types.specs.Memory.{Memory}
use Rattle.dml_types.specs.Delta.{block_entry}
use Rattle.dml_delta.specs.Entries.{nth_entry, gathered}

range_split : (a m n : ℕ) → range_with_len a (m + n) ≡ range_with_len a m ++ range_with_len (a + m) n
range_split a zero n =
    let none : zero + n ≡ n = omega arith in
    let start : a ≡ a + zero = omega arith in
    ap (range_with_len a) none ∙ ap (λ (b : ℕ). range_with_len b n) start
range_split a (suc m) n =
    let more : suc m + n ≡ suc (m + n) = omega arith in
    let start : a + 1 + m ≡ a + suc m = omega arith in
    ap (range_with_len a) more
    ∙ (ap (λ (xs : List ℕ). a ∷ xs) (range_split (a + 1) m n)
    ∙ ap (λ (b : ℕ). a ∷ (range_with_len (a + 1) m ++ range_with_len b n)) start)

-- those of two neighbouring ranges
pub gathered_split : (f : ℕ → List ℕ) (passes : ℕ → Bool) (a m n : ℕ) → gathered f passes a (m + n) ≡ gathered f passes a m ++ gathered f passes (a + m) n
gathered_split f passes a m n =
    ap (λ (xs : List ℕ). flat_map f (filter passes xs)) (range_split a m n)
    ∙ (ap (flat_map f) (filter-append passes (range_with_len a m) (range_with_len (a + m) n))
    ∙ flat_map-append f (filter passes (range_with_len a m)) (filter passes (range_with_len (a + m) n)))

-- one more number, which passes or not
pub gathered_yes : (f : ℕ → List ℕ) (passes : ℕ → Bool) (a n b : ℕ) → a + n ≡ b → passes b ≡ true → gathered f passes a (n + 1) ≡ gathered f passes a n ++ f b
gathered_yes f passes a n b at pass =
    gathered_split f passes a n 1
    ∙ ap (λ (xs : List ℕ). gathered f passes a n ++ xs)
    (ap (λ (k : ℕ). gathered f passes k 1) at
    ∙ (ap (λ (here : Bool). flat_map f (cond here (b ∷ []) [])) pass ∙ append-nil (f b)))

pub gathered_no : (f : ℕ → List ℕ) (passes : ℕ → Bool) (a n b : ℕ) → a + n ≡ b → passes b ≡ false → gathered f passes a (n + 1) ≡ gathered f passes a n
gathered_no f passes a n b at fail =
    gathered_split f passes a n 1
    ∙ (ap (λ (xs : List ℕ). gathered f passes a n ++ xs)
    (ap (λ (k : ℕ). gathered f passes k 1) at
    ∙ ap (λ (here : Bool). flat_map f (cond here (b ∷ []) [])) fail)
    ∙ append-nil (gathered f passes a n))

-- ranges whose numbers pass alike and give the same
pub gathered_alike : (f g : ℕ → List ℕ) (p q : ℕ → Bool) (a b n : ℕ) → ((i : ℕ) → i < n → p (a + i) ≡ q (b + i)) → ((i : ℕ) → i < n → f (a + i) ≡ g (b + i)) → gathered f p a n ≡ gathered g q b n
gathered_alike f g p q a b zero tests gives = refl
gathered_alike f g p q a b (suc n) tests gives =
    let here : p a ≡ q b = ap p (omega arith) ∙ (tests 0 (omega arith) ∙ ap q (omega arith)) in
    let given : f a ≡ g b = ap f (omega arith) ∙ (gives 0 (omega arith) ∙ ap g (omega arith)) in
    let rest : gathered f p (a + 1) n ≡ gathered g q (b + 1) n =
    gathered_alike f g p q (a + 1) (b + 1) n
    (λ i below. ap p (omega arith) ∙ (tests (i + 1) (omega arith) ∙ ap q (omega arith)))
    (λ i below. ap f (omega arith) ∙ (gives (i + 1) (omega arith) ∙ ap g (omega arith))) in
    head (p a) (q b) here (filter p (range_with_len (a + 1) n)) (filter q (range_with_len (b + 1) n)) given rest
  where
    head : (x y : Bool) → x ≡ y → (xs ys : List ℕ) → f a ≡ g b → flat_map f xs ≡ flat_map g ys → flat_map f (cond x (a ∷ xs) xs) ≡ flat_map g (cond y (b ∷ ys) ys)
    head true true same xs ys given rest = ap₂ (λ (u v : List ℕ). u ++ v) given rest
    head false false same xs ys given rest = rest
    head true false same xs ys given rest = absurd (cc)
    head false true same xs ys given rest = absurd (cc)

-- where each gives at most k, all give at most k a number
pub length_gathered : (f : ℕ → List ℕ) (passes : ℕ → Bool) (k : ℕ) → ((i : ℕ) → length (f i) ≤ k) → (a n : ℕ) → length (gathered f passes a n) ≤ k * n
length_gathered f passes k short a zero = omega arith
length_gathered f passes k short a (suc n) =
    let rest = length_gathered f passes k short (a + 1) n in
    let more : k * suc n ≡ k + k * n = mul_more k n in
    one (passes a) (filter passes (range_with_len (a + 1) n)) (k * n) rest more
  where
    mul_more : (k n : ℕ) → k * suc n ≡ k + k * n
    mul_more k n = omega arith

    one : (here : Bool) (xs : List ℕ) (m : ℕ) → length (flat_map f xs) ≤ m → k * suc n ≡ k + m → length (flat_map f (cond here (a ∷ xs) xs)) ≤ k * suc n
    one true xs m rest more = omega (arith, length-append (f a) (flat_map f xs), short a)
    one false xs m rest more = omega arith

pub length_entry : (memory : Memory) (job : Job) (b : ℕ) → length (block_entry memory job b) ≤ 10
length_entry memory job b =
    let address = job.target + 8 * b in
    omega (arith, length-take (address + 8 - address) (drop address memory.bytes))

pub length_entries : (memory : Memory) (job : Job) (passes : ℕ → Bool) (a n : ℕ) → length (gathered (block_entry memory job) passes a n) ≤ 10 * n
length_entries memory job passes a n = length_gathered (block_entry memory job) passes 10 (length_entry memory job) a n

-- what is held and gathered, behind what was before
pub so_far : (old entries here more : List ℕ) → here ++ more ≡ old ++ entries → length here + length more ≡ length old + length entries
so_far old entries here more is =
    omega (arith, ap (λ (xs : List ℕ). length xs) is, length-append here more, length-append old entries)

-- none passes
pub gathered_none : (f : ℕ → List ℕ) (passes : ℕ → Bool) (a n : ℕ) → ((i : ℕ) → i < n → passes (a + i) ≡ false) → gathered f passes a n ≡ []
gathered_none f passes a zero none = refl
gathered_none f passes a (suc n) none =
    let here : passes a ≡ false = ap passes (omega arith) ∙ none 0 (omega arith) in
    ap (λ (b : Bool). flat_map f (cond b (a ∷ filter passes (range_with_len (a + 1) n)) (filter passes (range_with_len (a + 1) n)))) here
    ∙ gathered_none f passes (a + 1) n (λ i below. ap passes (omega arith) ∙ none (i + 1) (omega arith))

-- the next one that passes, behind some that do not, and where no further one does
pub gathered_next : (f : ℕ → List ℕ) (passes : ℕ → Bool) (at skipped : ℕ) → ((i : ℕ) → i < skipped → passes (at + i) ≡ false) → passes (at + skipped) ≡ true → gathered f passes 0 (at + skipped + 1) ≡ gathered f passes 0 at ++ f (at + skipped)
gathered_next f passes at skipped none pass =
    gathered_yes f passes 0 (at + skipped) (at + skipped) (omega arith) pass
    ∙ ap (λ (xs : List ℕ). xs ++ f (at + skipped)) (gathered_rest f passes at skipped none)
  where
    gathered_rest : (f : ℕ → List ℕ) (passes : ℕ → Bool) (at n : ℕ) → ((i : ℕ) → i < n → passes (at + i) ≡ false) → gathered f passes 0 (at + n) ≡ gathered f passes 0 at
    gathered_rest f passes at n none =
        gathered_split f passes 0 at n
        ∙ (ap (λ (xs : List ℕ). gathered f passes 0 at ++ xs) (ap (λ (k : ℕ). gathered f passes k n) (zero-add at) ∙ gathered_none f passes at n none)
        ∙ append-nil (gathered f passes 0 at))

-- an entry for a block of a list
pub length_entry_in : (number : ℕ) (bytes : List ℕ) (i : ℕ) → length (nth_entry number bytes i) ≤ 10
length_entry_in number bytes i = omega (arith, length-take (8 * i + 8 - 8 * i) (drop (8 * i) bytes))

pub length_entries_in : (number : ℕ) (bytes : List ℕ) (passes : ℕ → Bool) (a n : ℕ) → length (gathered (nth_entry number bytes) passes a n) ≤ 10 * n
length_entries_in number bytes passes a n = length_gathered (nth_entry number bytes) passes 10 (length_entry_in number bytes) a n

-- what was written behind the first bytes of a buffer: two parts, one behind the other
pub added : (bytes number block old first second : List ℕ) (len : ℕ) → take len bytes ≡ old → len ≤ length bytes → number ≡ first → length first ≡ 2 → block ≡ second → length second ≡ 8 → take (len + 10) (put_mid (len + 2) (len + 10 - (len + 2)) (put_mid len (len + 2 - len) bytes number) block) ≡ old ++ (first ++ second)
added bytes number block old first second len is room named two put eight =
    let long : length number ≡ 2 = ap (λ (xs : List ℕ). length xs) named ∙ two in
    let short : length block ≡ 8 = ap (λ (xs : List ℕ). length xs) put ∙ eight in
    let behind = drop (len + 2 - len) (drop len bytes) in
    let inside : len + 2 ≤ length (put_mid len (len + 2 - len) bytes number) =
    omega (arith, length-append (take len bytes) (number ++ behind), length-append number behind, length-take len bytes) in
    take-put_mid (len + 2) (len + 10 - (len + 2)) (put_mid len (len + 2 - len) bytes number) block (len + 10) (omega arith) inside
    ∙ (ap (λ (xs : List ℕ). xs ++ block) (take-put_mid len (len + 2 - len) bytes number (len + 2) (omega arith) room)
    ∙ (append_assoc (take len bytes) number block
    ∙ (ap (λ (xs : List ℕ). xs ++ (number ++ block)) is ∙ ap₂ (λ (xs ys : List ℕ). old ++ (xs ++ ys)) named put)))
