-- A range of an image, worked on a part of a page at a time.
use Rattle.std.proofs.Common.{◌≡◌, ℕ, ◌+◌, ◌-◌, ◌%◌, ◌<◌, ◌≤◌, List, ◌++◌, length, take, drop, slice_range, true, rules, sym, ◌∙◌, ap, ap₂, arith}
use Rattle.std.proofs.lemmas.List.{places, same_lists}
use Rattle.dml_types.specs.Memory.{Memory, IsMemory, has, has_all, bytes_at, put}
use Rattle.dml_types.specs.Bytewise.{pattern_bytes}
use Rattle.dml_types.proofs.MemoryLemmas.{has_all_at, has_all_from, has_all_within, put_append, put_keeps}
use Rattle.dml_segments.proofs.PatternLemmas.{length_pattern_bytes, pattern_bytes_append}

-- the next byte of a range is present, also after some of it was written
pub next_present : (old now : Memory) (address done n : ℕ) (bytes : List ℕ) → now ≡ put old address bytes → has_all old address n ≡ true → done < n → has now (address + done) ≡ true
next_present old now address done n bytes is all below =
    ap (λ (m : Memory). has m (address + done)) is ∙ has_all_at old address n done all below

-- addresses of present bytes are small
pub range_fits : (memory : Memory) (address n done : ℕ) → IsMemory memory → has_all memory address n ≡ true → done < n → address + n ≤ 17592186044416
range_fits memory address n done good all below =
    omega (arith, has_all_within memory address n good.whole all (omega arith), good.whole.each_page, good.most_pages)

-- a front of a range, and a part behind it, are present too
pub part_present : (old now : Memory) (address done n k : ℕ) (bytes : List ℕ) → now ≡ put old address bytes → has_all old address n ≡ true → done + k ≤ n → has_all now (address + done) k ≡ true
part_present old now address done n k bytes is all within =
    has_all_from now (address + done) k (λ i below.
    let place : address + (done + i) ≡ address + done + i = omega arith in
    ap (λ (m : Memory). has m (address + done + i)) is ∙ (ap (has old) (sym place) ∙ has_all_at old address n (done + i) all (omega arith)))

pub memory_after_put : (old now : Memory) (address n : ℕ) (bytes : List ℕ) → now ≡ put old address bytes → IsMemory old → has_all old address n ≡ true → length bytes ≤ n → IsMemory now
memory_after_put old now address n bytes is good all within =
    rw is (put_keeps old address bytes good (has_all_from old address (length bytes) (λ i below. has_all_at old address n i all (omega arith))))

-- a part more was written, filled, read
joined : (old now after : Memory) (address done : ℕ) (xs ys : List ℕ) → length xs ≡ done → address + (done + length ys) ≤ length old.bytes → now ≡ put old address xs → after ≡ put now (address + done) ys → after ≡ put old address (xs ++ ys)
joined old now after address done xs ys long within is next =
    next ∙ (ap (λ (m : Memory). put m (address + done) ys) is
    ∙ (ap (λ k. put (put old address xs) (address + k) ys) (sym long) ∙ put_append old address xs ys (omega (arith, long))))

pub write_more : (old now after : Memory) (address done end : ℕ) (bytes : List ℕ) → IsMemory old → has_all old address (length bytes) ≡ true → now ≡ put old address (take done bytes) → done < end → end ≤ length bytes → after ≡ put now (address + done) (take (end - done) (drop done bytes)) → after ≡ put old address (take end bytes)
write_more old now after address done end bytes good all is some within next =
    let front : length (take done bytes) ≡ done = search (rules, places) in
    let part : length (take (end - done) (drop done bytes)) ≡ end - done = search (rules, places) in
    let whole : take done bytes ++ take (end - done) (drop done bytes) ≡ take end bytes = same_lists _ _ (search (rules, places)) (λ k d h. grind (arith, places)) in
    let inside = has_all_within old address (length bytes) good.whole all (omega arith) in
    joined old now after address done (take done bytes) (take (end - done) (drop done bytes)) front (omega (arith, part, inside)) is next
    ∙ ap (put old address) whole

pub fill_more : (old now after : Memory) (address done n len pattern : ℕ) → IsMemory old → has_all old address len ≡ true → now ≡ put old address (pattern_bytes pattern done) → done % 8 ≡ 0 → 0 < n → done + n ≤ len → after ≡ put now (address + done) (pattern_bytes pattern n) → after ≡ put old address (pattern_bytes pattern (done + n))
fill_more old now after address done n len pattern good all is words some within next =
    let inside = has_all_within old address len good.whole all (omega arith) in
    joined old now after address done (pattern_bytes pattern done) (pattern_bytes pattern n) (length_pattern_bytes pattern done) (omega (arith, length_pattern_bytes pattern n, inside)) is next
    ∙ ap (put old address) (pattern_bytes_append pattern done n words)

pub read_more : (memory : Memory) (address done n : ℕ) (buffer after part : List ℕ) → take done buffer ≡ bytes_at memory address done → part ≡ bytes_at memory (address + done) (length part) → n ≡ length part → take (done + n) after ≡ take done buffer ++ part → take (done + n) after ≡ bytes_at memory address (done + n)
read_more memory address done n buffer after part before here is next =
    next ∙ (ap₂ (λ (xs ys : List ℕ). xs ++ ys) before here ∙ (ap (λ k. bytes_at memory address done ++ bytes_at memory (address + done) k) (sym is) ∙ behind memory.bytes address done n))
  where
    behind : (bytes : List ℕ) (address done n : ℕ) → slice_range bytes address (address + done) ++ slice_range bytes (address + done) (address + done + n) ≡ slice_range bytes address (address + (done + n))
    behind bytes address done n = same_lists _ _ (search (rules, places)) (λ k d h. grind (arith, places))

-- neighbours that are read one after another are read at once
pub bytes_at_append : (memory : Memory) (address a b : ℕ) → address + (a + b) ≤ length memory.bytes → bytes_at memory address a ++ bytes_at memory (address + a) b ≡ bytes_at memory address (a + b)
bytes_at_append memory address a b within = same_lists _ _ (search (rules, places)) (λ k d h. grind (arith, places))

-- the front of bytes that were read
pub front_read : (memory : Memory) (address n : ℕ) (bytes : List ℕ) → bytes ≡ bytes_at memory address (length bytes) → n ≤ length bytes → take n bytes ≡ bytes_at memory address n
front_read memory address n bytes is within =
    ap (take n) is ∙ front memory.bytes address n (length bytes) within
  where
    front : (items : List ℕ) (address n m : ℕ) → n ≤ m → take n (slice_range items address (address + m)) ≡ slice_range items address (address + n)
    front items address n m within = same_lists _ _ (search (rules, places)) (λ k d h. grind (arith, places))
