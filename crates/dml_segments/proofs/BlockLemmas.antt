-- Puts of entries: of neighbouring ones, into a page, and into lent memory.
use Rattle.std.proofs.Common.{◌≡◌, ℕ, zero, suc, ◌+◌, ◌-◌, ◌*◌, ◌/◌, ◌<◌, ◌≤◌, Bool, true, List, [], ◌∷◌, ◌++◌, length, slice_range, rules, refl, sym, ◌∙◌, ap, subst, arith}
use Rattle.std.proofs.lemmas.List.{places}
use Rattle.std.proofs.lemmas.List.Folds.{list_all-append}
use Rattle.std.proofs.lemmas.Bool.{and_parts}
use Rattle.dml_types.specs.Memory.{Memory, IsMemory, Put, has_all, overwrite, put, puts_made}
use Rattle.dml_types.specs.Delta.{block_number}
use Rattle.dml_types.proofs.MemoryLemmas.{has_all_within, put_keeps, puts_present}
use Rattle.dml_segments.specs.Blocks.{after_puts, are_present, block_put, block_puts, block_puts_from, AreInside, IsInside}

-- puts made in two parts
pub made_both : (memory : Memory) (puts more : List Put) → puts_made memory (puts ++ more) ≡ puts_made (puts_made memory puts) more
made_both memory [] more = refl
made_both memory (p ∷ puts) more = made_both (put memory p.address p.bytes) puts more

-- presence stays, and so does a memory
pub present_after : (memory : Memory) (puts more : List Put) → are_present (puts_made memory puts) more ≡ are_present memory more
present_after memory puts more =
    ap (λ (present : List Bool). are_present (record memory { present = present; bytes = [] }) more) (puts_present memory puts)

pub kept_after_puts : (memory : Memory) (puts : List Put) → IsMemory memory → are_present memory puts ≡ true → IsMemory (puts_made memory puts)
kept_after_puts memory [] good here = good
kept_after_puts memory (p ∷ puts) good here =
    let parts = and_parts (has_all memory p.address (length p.bytes)) (are_present memory puts) here in
    kept_after_puts (put memory p.address p.bytes) puts (put_keeps memory p.address p.bytes good parts.0) parts.1

-- one more put
pub inside_more : (begin m : ℕ) (puts : List Put) (p : Put) → AreInside begin m puts → IsInside begin m p.address (length p.bytes) → AreInside begin m (puts ++ p ∷ [])
inside_more begin m [] p before here = (here, tt)
inside_more begin m (first ∷ puts) p before here = (before.0, inside_more begin m puts p before.1 here)

pub after_more : (begin : ℕ) (bytes : List ℕ) (puts : List Put) (p : Put) → after_puts begin bytes (puts ++ p ∷ []) ≡ overwrite (after_puts begin bytes puts) (p.address - begin) p.bytes
after_more begin bytes [] p = refl
after_more begin bytes (first ∷ puts) p = after_more begin (overwrite bytes (first.address - begin) first.bytes) puts p

-- puts of two parts
pub inside_both : (begin m : ℕ) (puts more : List Put) → AreInside begin m puts → AreInside begin m more → AreInside begin m (puts ++ more)
inside_both begin m [] more before behind = behind
inside_both begin m (first ∷ puts) more before behind = (before.0, inside_both begin m puts more before.1 behind)

pub after_both : (begin : ℕ) (bytes : List ℕ) (puts more : List Put) → after_puts begin bytes (puts ++ more) ≡ after_puts begin (after_puts begin bytes puts) more
after_both begin bytes [] more = refl
after_both begin bytes (first ∷ puts) more = after_both begin (overwrite bytes (first.address - begin) first.bytes) puts more

-- puts into the whole memory
pub made_in_all : (memory : Memory) (puts : List Put) → puts_made memory puts ≡ record memory { bytes = after_puts 0 memory.bytes puts }
made_in_all memory [] = refl
made_in_all memory (p ∷ puts) =
    let start : p.address ≡ p.address - 0 = omega arith in
    made_in_all (put memory p.address p.bytes) puts
    ∙ ap (λ (place : ℕ). record memory { bytes = after_puts 0 (overwrite memory.bytes place p.bytes) puts }) start

module _ (target : ℕ) (entries : List ℕ) where
  -- the puts of neighbouring entries
  pub puts_split : (x m n y : ℕ) → x + m ≡ y → block_puts_from target entries x (m + n) ≡ block_puts_from target entries x m ++ block_puts_from target entries y n
  puts_split x zero n y at =
      let none : zero + n ≡ n = omega arith in
      let start : x ≡ y = omega arith in
      ap (block_puts_from target entries x) none ∙ ap (λ (z : ℕ). block_puts_from target entries z n) start
  puts_split x (suc m) n y at =
      let more : suc m + n ≡ suc (m + n) = omega arith in
      ap (block_puts_from target entries x) more
      ∙ ap (λ (puts : List Put). block_put target entries x ∷ puts) (puts_split (x + 1) m n y (omega arith))

  puts_to : (x y n z : ℕ) → x ≤ y → y + n ≡ z → block_puts_from target entries x (z - x) ≡ block_puts_from target entries x (y - x) ++ block_puts_from target entries y n
  puts_to x y n z order end =
      let both : z - x ≡ (y - x) + n = omega arith in
      ap (block_puts_from target entries x) both ∙ puts_split x (y - x) n y (omega arith)

  pub inside_to : (begin m x y n z : ℕ) → x ≤ y → y + n ≡ z → AreInside begin m (block_puts_from target entries x (y - x)) → AreInside begin m (block_puts_from target entries y n) → AreInside begin m (block_puts_from target entries x (z - x))
  inside_to begin m x y n z order end before behind =
      subst (AreInside begin m) (sym (puts_to x y n z order end))
      (inside_both begin m (block_puts_from target entries x (y - x)) (block_puts_from target entries y n) before behind)

  pub after_to : (begin x y n z : ℕ) (bytes now after : List ℕ) → x ≤ y → y + n ≡ z → now ≡ after_puts begin bytes (block_puts_from target entries x (y - x)) → after ≡ after_puts begin now (block_puts_from target entries y n) → after ≡ after_puts begin bytes (block_puts_from target entries x (z - x))
  after_to begin x y n z bytes now after order end before behind =
      behind
      ∙ (ap (λ (held : List ℕ). after_puts begin held (block_puts_from target entries y n)) before
      ∙ (sym (after_both begin bytes (block_puts_from target entries x (y - x)) (block_puts_from target entries y n))
      ∙ ap (after_puts begin bytes) (sym (puts_to x y n z order end))))

  pub puts_more : (x n y : ℕ) → x ≤ y → n ≡ y - x → block_puts_from target entries x (y + 1 - x) ≡ block_puts_from target entries x n ++ block_put target entries y ∷ []
  puts_more x n y order is =
      let more : y + 1 - x ≡ n + 1 = omega arith in
      ap (block_puts_from target entries x) more ∙ puts_split x n 1 y (omega arith)

  -- the block of an entry
  pub length_block : (i : ℕ) → i < length entries / 10 → length (slice_range entries (10 * i + 2) (10 * i + 10)) ≡ 8
  length_block i below = search (rules, places)

  module _ (memory : Memory) (here : are_present memory (block_puts target entries) ≡ true) where
    front_and_rest : (i n : ℕ) → length entries / 10 ≡ i + n → (are_present memory (block_puts_from target entries 0 i) ≡ true) × (are_present memory (block_puts_from target entries i n) ≡ true)
    front_and_rest i n count =
        let both : block_puts target entries ≡ block_puts_from target entries 0 i ++ block_puts_from target entries i n =
        ap (block_puts_from target entries 0) count ∙ puts_split 0 i n i (omega arith) in
        and_parts (are_present memory (block_puts_from target entries 0 i)) (are_present memory (block_puts_from target entries i n))
        (sym (ap (are_present memory) both ∙ list_all-append (λ (p : Put). has_all memory p.address (length p.bytes)) (block_puts_from target entries 0 i) (block_puts_from target entries i n)) ∙ here)

    pub front_present : (i : ℕ) → i ≤ length entries / 10 → are_present memory (block_puts_from target entries 0 i) ≡ true
    front_present i within = (front_and_rest i (length entries / 10 - i) (omega arith)).0

    pub block_present : (i : ℕ) → i < length entries / 10 → has_all memory (target + 8 * block_number entries i) 8 ≡ true
    block_present i below =
        let rest = (front_and_rest i (suc (length entries / 10 - (i + 1))) (omega arith)).1 in
        ap (has_all memory (target + 8 * block_number entries i)) (sym (length_block i below))
        ∙ (and_parts (has_all memory (target + 8 * block_number entries i) (length (slice_range entries (10 * i + 2) (10 * i + 10)))) (are_present memory (block_puts_from target entries (i + 1) (length entries / 10 - (i + 1)))) rest).0

    pub block_fits : (i : ℕ) → IsMemory memory → i < length entries / 10 → target + 8 * block_number entries i + 8 ≤ length memory.bytes
    block_fits i good below = has_all_within memory (target + 8 * block_number entries i) 8 good.whole (block_present i below) (omega arith)

    pub address_fits : (i : ℕ) → IsMemory memory → i < length entries / 10 → target + 8 * block_number entries i + 8 ≤ 17592186044416
    address_fits i good below = omega (arith, block_fits i good below, good.whole.each_page, good.most_pages)

-- what an image keeps, after the puts of entries
pub kept_after_blocks : (inside now after : Memory) (puts : List Put) → inside ≡ now → IsMemory inside → are_present now puts ≡ true → after ≡ puts_made inside puts → IsMemory after
kept_after_blocks inside now after puts is good here done =
    rw done (kept_after_puts inside puts good (ap (λ (m : Memory). are_present m puts) is ∙ here))
