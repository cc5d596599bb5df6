-- Bytes copied inside an image, a part at a time, in the order in which no byte is overwritten before it is read.
use Rattle.std.proofs.Common.{◌≡◌, ℕ, zero, suc, ◌+◌, ◌-◌, ◌<◌, ◌≤◌, List, ◌++◌, length, slice_range, Bool, true, false, ◌&&◌, ◌%◌, subst, rules, refl, sym, ◌∙◌, ap, ap₂, arith, inl, inr, ◌⊎◌, ⊎_elim}
use Rattle.std.proofs.lemmas.List.{places, same_lists}
use Rattle.std.proofs.lemmas.Bool.{and_parts}
use Rattle.dml_image.proofs.RunLemmas.{has_all_of_page}
use Rattle.dml_segments.specs.Copied.{copied}
use Rattle.dml_types.specs.Memory.{Memory, IsMemory, has, has_all, bytes_at, put}
use Rattle.dml_types.proofs.MemoryLemmas.{bytes_at_none, has_all_at, has_all_from, has_all_within, length_bytes_at, put_append, put_comm, put_keeps, put_nil, read_beside}

-- a part of a range is present, also after a write
pub range_part : (memory : Memory) (address n from k : ℕ) → has_all memory address n ≡ true → address ≤ from → from + k ≤ address + n → has_all memory from k ≡ true
range_part memory address n from k all low high =
    has_all_from memory from k (λ i below.
    let place : address + (from + i - address) ≡ from + i = omega arith in
    ap (has memory) (sym place) ∙ has_all_at memory address n (from + i - address) all (omega arith))

pub part_after : (old now : Memory) (place address n from k : ℕ) (bytes : List ℕ) → now ≡ put old place bytes → has_all old address n ≡ true → address ≤ from → from + k ≤ address + n → has_all now from k ≡ true
part_after old now place address n from k bytes is all low high =
    ap (λ (m : Memory). has_all m from k) is ∙ range_part old address n from k all low high

pub kept_after : (old now : Memory) (place address n : ℕ) (bytes : List ℕ) → now ≡ put old place bytes → IsMemory old → has_all old address n ≡ true → address ≤ place → place + length bytes ≤ address + n → IsMemory now
kept_after old now place address n bytes is good all low high =
    rw is (put_keeps old place bytes good (range_part old address n place (length bytes) all low high))

length_read : (memory : Memory) (address n from k : ℕ) → IsMemory memory → has_all memory address n ≡ true → address ≤ from → from + k ≤ address + n → length (bytes_at memory from k) ≡ k
length_read memory address n from k good all low high =
    ⊎_elim (λ some. length_bytes_at memory from k (omega (arith, has_all_within memory address n good.whole all (omega arith))))
    (λ none. ap length (bytes_at_none memory from k (omega arith)) ∙ omega arith) (cases_zero k)
  where
    cases_zero : (k : ℕ) → (0 < k) ⊎ (k ≡ 0)
    cases_zero zero = inr refl
    cases_zero (suc k) = inl (omega arith)

bytes_joined : (memory : Memory) (address m n : ℕ) → bytes_at memory address m ++ bytes_at memory (address + m) n ≡ bytes_at memory address (m + n)
bytes_joined memory address m n = behind memory.bytes address m n
  where
    behind : (bytes : List ℕ) (address m n : ℕ) → slice_range bytes address (address + m) ++ slice_range bytes (address + m) (address + m + n) ≡ slice_range bytes address (address + (m + n))
    behind bytes address m n = same_lists _ _ (search (rules, places)) (λ k d h. grind (arith, places))

-- upwards: what is still to be read lies behind what was written, or aside
pub up_more : (old now after : Memory) (source target done n len : ℕ) → IsMemory old → has_all old source len ≡ true → has_all old target len ≡ true → (target ≤ source) ⊎ (source + len ≤ target) → now ≡ put old target (bytes_at old source done) → 0 < n → done + n ≤ len → after ≡ put now (target + done) (bytes_at now (source + done) n) → after ≡ put old target (bytes_at old source (done + n))
up_more old now after source target done n len good at_source at_target order is some within next =
    let inside = has_all_within old target len good.whole at_target (omega arith) in
    let front = length_read old source len source done good at_source (omega arith) (omega arith) in
    let part = length_read old source len (source + done) n good at_source (omega arith) (omega arith) in
    let as_before : bytes_at now (source + done) n ≡ bytes_at old (source + done) n =
    ap (λ (m : Memory). bytes_at m (source + done) n) is
    ∙ read_beside old target (bytes_at old source done) (source + done) n (omega (arith, front, inside))
    (⊎_elim (λ low. inr (omega (arith, front))) (λ high. inl (omega arith)) order) in
    next ∙ (ap₂ (λ (m : Memory) (bytes : List ℕ). put m (target + done) bytes) is as_before
    ∙ (ap (λ k. put (put old target (bytes_at old source done)) (target + k) (bytes_at old (source + done) n)) (sym front)
    ∙ (put_append old target (bytes_at old source done) (bytes_at old (source + done) n) (omega (arith, front, part, inside))
    ∙ ap (put old target) (bytes_joined old source done n))))

pub nothing_moved : (old : Memory) (source target : ℕ) → old ≡ put old target (bytes_at old source 0)
nothing_moved old source target = sym (ap (put old target) (bytes_at_none old source 0 refl) ∙ put_nil old target)

pub up_kept : (old now : Memory) (source target done len : ℕ) → IsMemory old → has_all old source len ≡ true → has_all old target len ≡ true → now ≡ put old target (bytes_at old source done) → done ≤ len → IsMemory now
up_kept old now source target done len good at_source at_target is within =
    let long = length_read old source len source done good at_source (omega arith) (omega arith) in
    kept_after old now target target len (bytes_at old source done) is good at_target (omega arith) (omega (arith, long))

-- downwards: what is still to be read lies before what was written; `rest` bytes are left, of them n are done next
pub down_more : (old now after : Memory) (source target rest n len : ℕ) → IsMemory old → has_all old source len ≡ true → has_all old target len ≡ true → source ≤ target → now ≡ put old (target + (rest + n)) (bytes_at old (source + (rest + n)) (len - (rest + n))) → 0 < n → rest + n ≤ len → after ≡ put now (target + rest) (bytes_at now (source + rest) n) → after ≡ put old (target + rest) (bytes_at old (source + rest) (len - rest))
down_more old now after source target rest n len good at_source at_target order is some within next =
    let inside = has_all_within old target len good.whole at_target (omega arith) in
    let behind : List ℕ = bytes_at old (source + (rest + n)) (len - (rest + n)) in
    let part : List ℕ = bytes_at old (source + rest) n in
    let long = length_read old source len (source + (rest + n)) (len - (rest + n)) good at_source (omega arith) (omega arith) in
    let long_part = length_read old source len (source + rest) n good at_source (omega arith) (omega arith) in
    let as_before : bytes_at now (source + rest) n ≡ part =
    ap (λ (m : Memory). bytes_at m (source + rest) n) is
    ∙ read_beside old (target + (rest + n)) behind (source + rest) n (omega (arith, long, inside)) (inl (omega arith)) in
    let edge : target + (rest + n) ≡ target + rest + length part = omega (arith, long_part) in
    let joined : part ++ behind ≡ bytes_at old (source + rest) (len - rest) =
    ap (λ a. part ++ bytes_at old a (len - (rest + n))) (omega arith)
    ∙ (bytes_joined old (source + rest) n (len - (rest + n)) ∙ ap (bytes_at old (source + rest)) (omega arith)) in
    next ∙ (ap₂ (λ (m : Memory) (bytes : List ℕ). put m (target + rest) bytes) is as_before
    ∙ (sym (put_comm old (target + rest) part (target + (rest + n)) behind (omega (arith, long_part)) (omega (arith, long, inside)))
    ∙ (ap (λ a. put (put old (target + rest) part) a behind) edge
    ∙ (put_append old (target + rest) part behind (omega (arith, long, long_part, inside)) ∙ ap (put old (target + rest)) joined))))

pub down_kept : (old now : Memory) (source target left len : ℕ) → IsMemory old → has_all old source len ≡ true → has_all old target len ≡ true → now ≡ put old (target + left) (bytes_at old (source + left) (len - left)) → left ≤ len → IsMemory now
down_kept old now source target left len good at_source at_target is within =
    let long = length_read old source len (source + left) (len - left) good at_source (omega arith) (omega arith) in
    kept_after old now (target + left) target len (bytes_at old (source + left) (len - left)) is good at_target (omega arith) (omega (arith, long))

pub down_start : (old : Memory) (source target len : ℕ) → old ≡ put old (target + len) (bytes_at old (source + len) (len - len))
down_start old source target len =
    sym (ap (put old (target + len)) (bytes_at_none old (source + len) (len - len) (omega arith)) ∙ put_nil old (target + len))

pub first_present : (memory : Memory) (address n : ℕ) → has_all memory address n ≡ true → 0 < n → has memory address ≡ true
first_present memory address n all some = ap (has memory) (omega arith) ∙ has_all_at memory address n 0 all some

-- what an image keeps, after a move
pub kept_after_move : (inside now after : Memory) (source target n : ℕ) → inside ≡ now → IsMemory inside → has_all now source n ≡ true → has_all now target n ≡ true → after ≡ put inside target (bytes_at inside source n) → IsMemory after
kept_after_move inside now after source target n is good at_source at_target done =
    let all : (address : ℕ) → has_all now address n ≡ true → has_all inside address n ≡ true = λ address here. ap (λ (m : Memory). has_all m address n) is ∙ here in
    up_kept inside after source target n n good (all source at_source) (all target at_target) done (omega arith)

-- a move from page to page, where it was made
pub both_in_page : (memory : Memory) (source target n : ℕ) → source % 4096 + n ≤ 4096 → target % 4096 + n ≤ 4096 → true ≡ (has memory source && has memory target) → (has_all memory source n ≡ true) × (has_all memory target n ≡ true)
both_in_page memory source target n in_source in_target present =
    let here = and_parts (has memory source) (has memory target) (sym present) in
    (has_all_of_page memory source n in_source here.0, has_all_of_page memory target n in_target here.1)

pub kept_in_page : (inside now after : Memory) (source target n : ℕ) (moved : Bool) → inside ≡ now → IsMemory inside → source % 4096 + n ≤ 4096 → target % 4096 + n ≤ 4096 → moved ≡ (has inside source && has inside target) → (moved ≡ true → after ≡ put inside target (bytes_at inside source n)) → (moved ≡ false → after ≡ inside) → IsMemory after
kept_in_page inside now after source target n true is good in_source in_target present done kept =
    let all = both_in_page inside source target n in_source in_target present in
    kept_after_move inside inside after source target n refl good all.0 all.1 (done refl)
kept_in_page inside now after source target n false is good in_source in_target present done kept =
    subst IsMemory (sym (kept refl)) good

-- and one to a page and then to another
pub all_three : (memory : Memory) (source first second n : ℕ) → source % 4096 + n ≤ 4096 → first % 4096 + n ≤ 4096 → second % 4096 + n ≤ 4096 → true ≡ (has memory second && (has memory source && has memory first)) → (has_all memory source n ≡ true) × (has_all memory first n ≡ true) × (has_all memory second n ≡ true)
all_three memory source first second n in_source in_first in_second present =
    let here = and_parts (has memory second) (has memory source && has memory first) (sym present) in
    let both = both_in_page memory source first n in_source in_first (sym here.1) in
    (both.0, both.1, has_all_of_page memory second n in_second here.0)

pub kept_twice : (inside after : Memory) (source first second n : ℕ) (moved : Bool) → IsMemory inside → source % 4096 + n ≤ 4096 → first % 4096 + n ≤ 4096 → second % 4096 + n ≤ 4096 → moved ≡ (has inside second && (has inside source && has inside first)) → (moved ≡ true → after ≡ copied (copied inside source first n) source second n) → (moved ≡ false → after ≡ inside) → IsMemory after
kept_twice inside after source first second n true good in_source in_first in_second present done kept =
    let all = all_three inside source first second n in_source in_first in_second present in
    let once : Memory = copied inside source first n in
    let between = kept_after_move inside inside once source first n refl good all.0 all.1 refl in
    kept_after_move once once after source second n refl between all.0 all.2 (done refl)
kept_twice inside after source first second n false good in_source in_first in_second present done kept =
    subst IsMemory (sym (kept refl)) good

-- and a fill of a page
pub kept_after_fill : (inside now after : Memory) (target n : ℕ) (bytes : List ℕ) (filled : Bool) → inside ≡ now → IsMemory inside → target % 4096 + n ≤ 4096 → length bytes ≡ n → filled ≡ has inside target → (filled ≡ true → after ≡ put inside target bytes) → (filled ≡ false → after ≡ inside) → IsMemory after
kept_after_fill inside now after target n bytes true is good within size present done kept =
    kept_after inside after target target n bytes (done refl) good (has_all_of_page inside target n within (sym present)) (omega arith) (omega (arith, size))
kept_after_fill inside now after target n bytes false is good within size present done kept = subst IsMemory (sym (kept refl)) good

-- a byte of a range is present
pub byte_of_range : (memory : Memory) (address n k : ℕ) → has_all memory address n ≡ true → address ≤ k → k < address + n → has memory k ≡ true
byte_of_range memory address n k all low high =
    ap (has memory) (omega arith) ∙ has_all_at memory address n (k - address) all (omega arith)
