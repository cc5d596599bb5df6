-- The laws of puts, reads and presence.
use Rattle.std.proofs.Common.{◌≡◌, ℕ, ◌+◌, ◌-◌, ◌*◌, ◌/◌, ◌<◌, ◌≤◌, true, false, not, List, [], ◌∷◌, ◌++◌, length, get_or, take, drop, refl, sym, ◌∙◌, ap, subst, arith, rules, ◌⊎◌, ⊎_elim, eq-eqb, eqb-true}
use Rattle.std.proofs.lemmas.List.{places, same_lists, get_or_past}
use Rattle.std.proofs.lemmas.Bool.{cases_lt, false≢true, not-false}
use Rattle.dml_types.specs.Memory.{Memory, IsMemory, IsWhole, page_size, has, has_all, present_bytes, bytes_at, overwrite, put, Put, puts_made}
use Rattle.dml_types.proofs.FirstLemmas.{first_none, none_pass, fails_before}

-- overwrite: its length, and each of its elements
pub length_overwrite : {X : Type 0} (old : List X) (place : ℕ) (new : List X) → place + length new ≤ length old → length (overwrite old place new) ≡ length old
unfolding overwrite
length_overwrite old place new within = search (rules, places)

pub overwrite_nil : {X : Type 0} (old : List X) (place : ℕ) → overwrite old place [] ≡ old
unfolding overwrite
overwrite_nil old place = search (rules, places)

pub overwrite_below : {X : Type 0} (old : List X) (place : ℕ) (new : List X) (k : ℕ) (d : X) → place + length new ≤ length old → k < place → get_or (overwrite old place new) k d ≡ get_or old k d
unfolding overwrite
overwrite_below old place new k d within low = search (rules, places)

pub overwrite_inside : {X : Type 0} (old : List X) (place : ℕ) (new : List X) (k : ℕ) (d : X) → place + length new ≤ length old → k < length new → get_or (overwrite old place new) (place + k) d ≡ get_or new k d
unfolding overwrite
overwrite_inside old place new k d within low = search (rules, places)

pub overwrite_past : {X : Type 0} (old : List X) (place : ℕ) (new : List X) (k : ℕ) (d : X) → place + length new ≤ length old → place + length new ≤ k → get_or (overwrite old place new) k d ≡ get_or old k d
unfolding overwrite
overwrite_past old place new k d within high = search (rules, places)

-- disjoint parts may be written in either order, and neighbours at once
pub overwrite_comm : {X : Type 0} (old : List X) (a : ℕ) (xs : List X) (b : ℕ) (ys : List X) → a + length xs ≤ b → b + length ys ≤ length old → overwrite (overwrite old a xs) b ys ≡ overwrite (overwrite old b ys) a xs
unfolding overwrite
overwrite_comm old a xs b ys apart within = same_lists _ _ (search (rules, places)) (λ k d h. grind (arith, places))

pub overwrite_append : {X : Type 0} (old : List X) (a : ℕ) (xs ys : List X) → a + (length xs + length ys) ≤ length old → overwrite (overwrite old a xs) (a + length xs) ys ≡ overwrite old a (xs ++ ys)
unfolding overwrite
overwrite_append old a xs ys within = same_lists _ _ (search (rules, places)) (λ k d h. grind (arith, places))

-- reads after a write: what was written, and what stands aside
pub length_bytes_at : (memory : Memory) (address n : ℕ) → address + n ≤ length memory.bytes → length (bytes_at memory address n) ≡ n
length_bytes_at memory address n within = search (rules, places)

pub read_written : (memory : Memory) (address : ℕ) (bytes : List ℕ) → address + length bytes ≤ length memory.bytes → bytes_at (put memory address bytes) address (length bytes) ≡ bytes
unfolding overwrite
read_written memory address bytes within = same_lists _ _ (search (rules, places)) (λ k d h. grind (arith, places))

pub read_beside : (memory : Memory) (address : ℕ) (bytes : List ℕ) (from n : ℕ) → address + length bytes ≤ length memory.bytes → (from + n ≤ address) ⊎ (address + length bytes ≤ from) → bytes_at (put memory address bytes) from n ≡ bytes_at memory from n
unfolding overwrite
read_beside memory address bytes from n within apart = same_lists _ _ (search (rules, places)) (λ k d h. grind (arith, places))

-- presence: a byte that is present is one of the image's bytes
pub has_within : (memory : Memory) (address : ℕ) → IsWhole memory → has memory address ≡ true → address < length memory.bytes
has_within memory address whole present =
    ⊎_elim (λ low. omega (arith, whole.each_page, div-lt address (length memory.present) low)) (λ high.
    let absent : has memory address ≡ false = get_or_past memory.present (address / page_size) false high in
    absurd (false≢true (sym absent ∙ present)))
    (cases_lt (address / page_size) (length memory.present))
  where
    div-lt : (a pages : ℕ) → a / 4096 < pages → a < 4096 * pages
    div-lt a pages low = omega arith

pub has_all_at : (memory : Memory) (address n i : ℕ) → has_all memory address n ≡ true → i < n → has memory (address + i) ≡ true
has_all_at memory address n i all below =
    not-false (has memory (address + i)) (none_pass n (λ j. not (has memory (address + j))) (eqb-true _ _ all) i below)

pub has_all_from : (memory : Memory) (address n : ℕ) → ((i : ℕ) → i < n → has memory (address + i) ≡ true) → has_all memory address n ≡ true
has_all_from memory address n present =
    eq-eqb _ _ (first_none n (λ j. not (has memory (address + j))) (λ i below. ap not (present i below)))

-- a range that is present and not empty lies in the image
pub has_all_within : (memory : Memory) (address n : ℕ) → IsWhole memory → has_all memory address n ≡ true → 0 < n → address + n ≤ length memory.bytes
has_all_within memory address n whole all some =
    let last = has_within memory (address + (n - 1)) whole (has_all_at memory address n (n - 1) all (omega arith)) in
    omega arith

-- a range whose front is present
pub present_front : (memory : Memory) (address n : ℕ) → has_all memory address (present_bytes memory address n) ≡ true
present_front memory address n =
    has_all_from memory address (present_bytes memory address n)
    (λ i below. not-false (has memory (address + i)) (fails_before n (λ j. not (has memory (address + j))) i below))

-- puts leave presence, and the bytes as many
pub puts_present : (memory : Memory) (puts : List Put) → (puts_made memory puts).present ≡ memory.present
puts_present memory [] = refl
puts_present memory (p ∷ puts) = puts_present (put memory p.address p.bytes) puts

pub put_whole : (memory : Memory) (address : ℕ) (bytes : List ℕ) → IsWhole memory → address + length bytes ≤ length memory.bytes → IsWhole (put memory address bytes)
put_whole memory address bytes whole within =
    record { each_page = length_overwrite memory.bytes address bytes within ∙ whole.each_page }

-- a write over present bytes keeps all that an image keeps
pub put_keeps : (memory : Memory) (address : ℕ) (bytes : List ℕ) → IsMemory memory → has_all memory address (length bytes) ≡ true → IsMemory (put memory address bytes)
put_keeps memory address [] good all = subst (λ (items : List ℕ). IsMemory (record memory { bytes = items })) (sym (overwrite_nil memory.bytes address)) good
put_keeps memory address (x ∷ xs) good all =
    let within = has_all_within memory address (length (x ∷ xs)) good.whole all (omega arith) in
    record {
      least_pages = good.least_pages;
      most_pages = good.most_pages;
      by_home = good.by_home;
      whole = put_whole memory address (x ∷ xs) good.whole within;
      absent = λ k gone.
          ⊎_elim (λ low. overwrite_below memory.bytes address (x ∷ xs) k 0 within low ∙ good.absent k gone) (λ high.
          ⊎_elim (λ inside.
          let at : address + (k - address) ≡ k = omega arith in
          let here = has_all_at memory address (length (x ∷ xs)) (k - address) all (omega arith) in
          absurd (false≢true (sym gone ∙ (ap (has memory) (sym at) ∙ here))))
          (λ past. overwrite_past memory.bytes address (x ∷ xs) k 0 within past ∙ good.absent k gone)
          (cases_lt k (address + length (x ∷ xs))))
          (cases_lt k address);
    }

-- no bytes: nothing is read, and nothing is written
pub bytes_at_none : (memory : Memory) (address n : ℕ) → n ≡ 0 → bytes_at memory address n ≡ []
bytes_at_none memory address n none =
    let nothing : address + n - address ≡ 0 = omega arith in ap (λ (k : ℕ). take k (drop address memory.bytes)) nothing

pub put_nil : (memory : Memory) (address : ℕ) → put memory address [] ≡ memory
put_nil memory address = ap (λ (items : List ℕ). record memory { bytes = items }) (overwrite_nil memory.bytes address)

pub put_comm : (memory : Memory) (a : ℕ) (xs : List ℕ) (b : ℕ) (ys : List ℕ) → a + length xs ≤ b → b + length ys ≤ length memory.bytes → put (put memory a xs) b ys ≡ put (put memory b ys) a xs
put_comm memory a xs b ys apart within =
    ap (λ (items : List ℕ). record memory { bytes = items }) (overwrite_comm memory.bytes a xs b ys apart within)

pub put_append : (memory : Memory) (a : ℕ) (xs ys : List ℕ) → a + (length xs + length ys) ≤ length memory.bytes → put (put memory a xs) (a + length xs) ys ≡ put memory a (xs ++ ys)
put_append memory a xs ys within =
    ap (λ (items : List ℕ). record memory { bytes = items }) (overwrite_append memory.bytes a xs ys within)
