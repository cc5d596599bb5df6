-- Bytes after puts, by the ranges in which the puts lie.
use Rattle.std.proofs.Common.{◌≡◌, ℕ, ◌+◌, ◌-◌, ◌<◌, ◌≤◌, max, min, Bool, true, false, List, [], ◌∷◌, length, get_or, refl, sym, ◌∙◌, ap, subst, arith, ◌⊎◌, ⊎_elim, inl, inr}
use Rattle.std.proofs.lemmas.Bool.{cases_Bool, cases_lt, ltb-true, lt-ltb, leb-true, le-leb, and_from, and_parts, or_parts, or_cases, or_left, or_right, false≢true, false_from_ne_true, both_ways}
use Rattle.std.proofs.lemmas.List.{places, same_lists, get_or_default, get_or_past}
use Rattle.std.specs.Prelude.{nat_le, nat_lt, ◌&&◌, slice_range}
use Rattle.std.specs.List.{list_any}
use Rattle.dml_types.specs.declared.spans.Span.{Span}
use Rattle.dml_types.specs.Job.{shares, any_shares}
use Rattle.dml_types.specs.Memory.{Memory, Put, put, puts_made, overwrite, bytes_at}
use Rattle.dml_types.proofs.MemoryLemmas.{length_overwrite, overwrite_nil, overwrite_below, overwrite_inside, overwrite_past}

-- an address lies in one of these ranges
abbrev pub touched : List Span → ℕ → Bool
touched spans x = list_any (λ range. nat_le range.start x && nat_lt x (range.start + range.len)) spans

pub touched_head : (range : Span) (spans : List Span) (i : ℕ) → i < range.len → touched (range ∷ spans) (range.start + i) ≡ true
touched_head range spans i below =
    or_left _ _ (and_from _ _ (le-leb range.start (range.start + i) (omega arith)) (lt-ltb (range.start + i) (range.start + range.len) (omega arith)))

pub touched_tail : (range : Span) (spans : List Span) (x : ℕ) → touched spans x ≡ true → touched (range ∷ spans) x ≡ true
touched_tail range spans x there = or_right (nat_le range.start x && nat_lt x (range.start + range.len)) _ there

pub touched_at : (range : Span) (spans : List Span) (x : ℕ) → range.start ≤ x → x < range.start + range.len → touched (range ∷ spans) x ≡ true
touched_at range spans x low high = or_left _ _ (and_from _ _ (le-leb range.start x low) (lt-ltb x (range.start + range.len) high))

-- ranges that share no byte have no address in common
one_apart : (range : Span) (ys : List Span) (x : ℕ) → list_any (shares range) ys ≡ false → (nat_le range.start x && nat_lt x (range.start + range.len)) ≡ true → touched ys x ≡ false
one_apart range [] x apart here = refl
one_apart range (y ∷ ys) x apart here =
    let parts = or_parts _ _ apart in
    let place = and_parts _ _ here in
    false_from_ne_true (touched (y ∷ ys) x)
    (λ there.
    ⊎_elim (λ first.
    let other = and_parts _ _ first in
    both_ways (shares range y) parts.0
    (lt-ltb (max range.start y.start) (min (range.start + range.len) (y.start + y.len))
    (omega (arith, leb-true range.start x place.0, ltb-true x (range.start + range.len) place.1, leb-true y.start x other.0, ltb-true x (y.start + y.len) other.1))))
    (λ later. both_ways _ (one_apart range ys x parts.1 here) later)
    (or_cases _ _ there))

pub apart_touched : (xs ys : List Span) (x : ℕ) → any_shares xs ys ≡ false → touched xs x ≡ true → touched ys x ≡ false
apart_touched [] ys x apart here = absurd (false≢true here)
apart_touched (range ∷ xs) ys x apart here =
    let parts = or_parts _ _ apart in
    ⊎_elim (λ first. one_apart range ys x parts.0 first) (λ later. apart_touched xs ys x parts.1 later) (or_cases _ _ here)

pub apart_swapped : (xs ys : List Span) (x : ℕ) → any_shares xs ys ≡ false → touched ys x ≡ true → touched xs x ≡ false
apart_swapped xs ys x apart here =
    false_from_ne_true (touched xs x) (λ there. both_ways _ (apart_touched xs ys x apart there) here)

-- a memory with other bytes
abbrev pub with_bytes : Memory → List ℕ → Memory
with_bytes memory bytes = record memory { bytes = bytes }

abbrev pub bytes_after : List ℕ → List Put → List ℕ
bytes_after bytes [] = bytes
bytes_after bytes (p ∷ puts) = bytes_after (overwrite bytes p.address p.bytes) puts

pub puts_made_is : (memory : Memory) (puts : List Put) → puts_made memory puts ≡ with_bytes memory (bytes_after memory.bytes puts)
puts_made_is memory [] = refl
puts_made_is memory (p ∷ puts) = puts_made_is (put memory p.address p.bytes) puts

-- two lists of bytes of one length that agree in these ranges
pub record Agree (spans : List Span) (these those : List ℕ) : Type 0 where
  pub size : length these ≡ length those
  pub same : (x : ℕ) → touched spans x ≡ true → get_or these x 0 ≡ get_or those x 0

-- a put within these ranges and within the bytes; one of no bytes may stand anywhere
pub record PutIn (spans : List Span) (size : ℕ) (p : Put) : Type 0 where
  pub fits : 0 < length p.bytes → p.address + length p.bytes ≤ size
  pub inside : (x : ℕ) → p.address ≤ x → x < p.address + length p.bytes → touched spans x ≡ true

abbrev pub PutsIn : List Span → ℕ → List Put → Type 0
PutsIn spans size [] = Unit {0}
PutsIn spans size (p ∷ puts) = PutIn spans size p × PutsIn spans size puts

no_bytes : (bytes : List ℕ) → length bytes ≤ 0 → bytes ≡ []
no_bytes [] none = refl
no_bytes (x ∷ xs) none = absurd (omega arith)

-- overwrite, as far as it fits where there are bytes
overwrite_long : (old : List ℕ) (place : ℕ) (new : List ℕ) → (0 < length new → place + length new ≤ length old) → length (overwrite old place new) ≡ length old
overwrite_long old place new fits =
    ⊎_elim (λ some. length_overwrite old place new (fits some))
    (λ none. ap (λ (bytes : List ℕ). length (overwrite old place bytes)) (no_bytes new none) ∙ ap length (overwrite_nil old place))
    (cases_lt 0 (length new))

overwrite_outside : (old : List ℕ) (place : ℕ) (new : List ℕ) (x : ℕ) → (0 < length new → place + length new ≤ length old) → (x < place) ⊎ (place + length new ≤ x) → get_or (overwrite old place new) x 0 ≡ get_or old x 0
overwrite_outside old place new x fits outside =
    ⊎_elim (λ some.
    ⊎_elim (λ low. overwrite_below old place new x 0 (fits some) low) (λ high. overwrite_past old place new x 0 (fits some) high) outside)
    (λ none.
    ap (λ (bytes : List ℕ). get_or (overwrite old place bytes) x 0) (no_bytes new none) ∙ ap (λ (bytes : List ℕ). get_or bytes x 0) (overwrite_nil old place))
    (cases_lt 0 (length new))

overwrite_local : (one other : List ℕ) (place : ℕ) (new : List ℕ) (x : ℕ) → length one ≡ length other → (0 < length new → place + length new ≤ length one) → get_or one x 0 ≡ get_or other x 0 → get_or (overwrite one place new) x 0 ≡ get_or (overwrite other place new) x 0
overwrite_local one other place new x size fits same =
    let fits_other : 0 < length new → place + length new ≤ length other = λ some. omega (arith, fits some, size) in
    let aside : (x < place) ⊎ (place + length new ≤ x) → get_or (overwrite one place new) x 0 ≡ get_or (overwrite other place new) x 0 =
    λ outside. overwrite_outside one place new x fits outside ∙ (same ∙ sym (overwrite_outside other place new x fits_other outside)) in
    ⊎_elim (λ low. aside (inl low)) (λ high.
    ⊎_elim (λ inside.
    let some : 0 < length new = omega arith in
    let at : place + (x - place) ≡ x = omega arith in
    let within : x - place < length new = omega arith in
    subst (λ k. get_or (overwrite one place new) k 0 ≡ get_or (overwrite other place new) k 0) at
    (overwrite_inside one place new (x - place) 0 (fits some) within ∙ sym (overwrite_inside other place new (x - place) 0 (fits_other some) within)))
    (λ past. aside (inr past)) (cases_lt x (place + length new)))
    (cases_lt x place)

pub puts_long : (spans : List Span) (size : ℕ) (bytes : List ℕ) (puts : List Put) → length bytes ≡ size → PutsIn spans size puts → length (bytes_after bytes puts) ≡ size
puts_long spans size bytes [] long within = long
puts_long spans size bytes (p ∷ puts) long within =
    puts_long spans size (overwrite bytes p.address p.bytes) puts
    (overwrite_long bytes p.address p.bytes (λ some. omega (arith, within.0.fits some, long)) ∙ long) within.1

-- what is not touched stays
pub puts_outside : (spans : List Span) (size : ℕ) (bytes : List ℕ) (puts : List Put) (x : ℕ) → length bytes ≡ size → PutsIn spans size puts → touched spans x ≡ false → get_or (bytes_after bytes puts) x 0 ≡ get_or bytes x 0
puts_outside spans size bytes [] x long within aside = refl
puts_outside spans size bytes (p ∷ puts) x long within aside =
    let fits : 0 < length p.bytes → p.address + length p.bytes ≤ length bytes = λ some. omega (arith, within.0.fits some, long) in
    let outside : (x < p.address) ⊎ (p.address + length p.bytes ≤ x) =
    ⊎_elim (λ low. inl low) (λ high.
    ⊎_elim (λ inside. absurd (both_ways _ aside (within.0.inside x high inside))) (λ past. inr past) (cases_lt x (p.address + length p.bytes)))
    (cases_lt x p.address) in
    puts_outside spans size (overwrite bytes p.address p.bytes) puts x (overwrite_long bytes p.address p.bytes fits ∙ long) within.1 aside
    ∙ overwrite_outside bytes p.address p.bytes x fits outside

-- a byte after puts comes from the byte before at that place
pub puts_local : (spans : List Span) (size : ℕ) (one other : List ℕ) (puts : List Put) (x : ℕ) → length one ≡ size → length other ≡ size → PutsIn spans size puts → get_or one x 0 ≡ get_or other x 0 → get_or (bytes_after one puts) x 0 ≡ get_or (bytes_after other puts) x 0
puts_local spans size one other [] x long_one long_other within same = same
puts_local spans size one other (p ∷ puts) x long_one long_other within same =
    let fits : 0 < length p.bytes → p.address + length p.bytes ≤ length one = λ some. omega (arith, within.0.fits some, long_one) in
    let fits_other : 0 < length p.bytes → p.address + length p.bytes ≤ length other = λ some. omega (arith, within.0.fits some, long_other) in
    puts_local spans size (overwrite one p.address p.bytes) (overwrite other p.address p.bytes) puts x
    (overwrite_long one p.address p.bytes fits ∙ long_one) (overwrite_long other p.address p.bytes fits_other ∙ long_other) within.1
    (overwrite_local one other p.address p.bytes x (long_one ∙ sym long_other) fits same)

-- lists of bytes that agree everywhere
same_bytes : (xs ys : List ℕ) → length xs ≡ length ys → ((x : ℕ) → get_or xs x 0 ≡ get_or ys x 0) → xs ≡ ys
same_bytes xs ys size same =
    same_lists xs ys size
    (λ k d below. get_or_default xs k d 0 below ∙ (same k ∙ get_or_default ys k 0 d (omega (arith, size))))

-- puts into ranges that are apart may be made in either order
pub puts_comm : (these those : List Span) (size : ℕ) (bytes : List ℕ) (first second : List Put) → length bytes ≡ size → PutsIn these size first → PutsIn those size second → any_shares these those ≡ false → bytes_after (bytes_after bytes first) second ≡ bytes_after (bytes_after bytes second) first
puts_comm these those size bytes first second long in_these in_those apart =
    let long_first = puts_long these size bytes first long in_these in
    let long_second = puts_long those size bytes second long in_those in
    same_bytes _ _ (puts_long those size _ second long_first in_those ∙ sym (puts_long these size _ first long_second in_these))
    (λ x.
    ⊎_elim (λ here.
    let aside = apart_touched these those x apart here in
    puts_outside those size (bytes_after bytes first) second x long_first in_those aside
    ∙ sym (puts_local these size (bytes_after bytes second) bytes first x long_second long in_these (puts_outside those size bytes second x long in_those aside)))
    (λ aside.
    puts_local those size (bytes_after bytes first) bytes second x long_first long in_those (puts_outside these size bytes first x long in_these aside)
    ∙ sym (puts_outside these size (bytes_after bytes second) first x long_second in_these aside))
    (cases_Bool (touched these x)))

-- bytes agree with those before puts, where the puts lie elsewhere
pub puts_agree : (these those : List Span) (size : ℕ) (bytes : List ℕ) (puts : List Put) → length bytes ≡ size → PutsIn those size puts → ((x : ℕ) → touched these x ≡ true → touched those x ≡ false) → Agree these (bytes_after bytes puts) bytes
puts_agree these those size bytes puts long within apart = record {
  size = puts_long those size bytes puts long within ∙ sym long;
  same = λ x here. puts_outside those size bytes puts x long within (apart x here);
}

-- reads of bytes that agree
pub bytes_at_agree : (memory : Memory) (bytes : List ℕ) (address n : ℕ) → length bytes ≡ length memory.bytes → ((i : ℕ) → i < n → get_or bytes (address + i) 0 ≡ get_or memory.bytes (address + i) 0) → bytes_at (with_bytes memory bytes) address n ≡ bytes_at memory address n
bytes_at_agree memory bytes address n size same =
    let long : length (bytes_at (with_bytes memory bytes) address n) ≡ length (bytes_at memory address n) = length_of_part bytes memory.bytes address n size in
    same_bytes _ _ long (λ i.
    ⊎_elim (λ below. part_at bytes address n i below ∙ (same i below ∙ sym (part_at memory.bytes address n i below)))
    (λ past. get_or_past _ i 0 (part_short bytes address n i past) ∙ sym (get_or_past _ i 0 (part_short memory.bytes address n i past)))
    (cases_lt i n))
  where
    length_of_part : (xs ys : List ℕ) (address n : ℕ) → length xs ≡ length ys → length (slice_range xs address (address + n)) ≡ length (slice_range ys address (address + n))
    length_of_part xs ys address n size = grind (arith, places)

    part_at : (xs : List ℕ) (address n i : ℕ) → i < n → get_or (slice_range xs address (address + n)) i 0 ≡ get_or xs (address + i) 0
    part_at xs address n i below = grind (arith, places)

    part_short : (xs : List ℕ) (address n i : ℕ) → n ≤ i → length (slice_range xs address (address + n)) ≤ i
    part_short xs address n i past = grind (arith, places)

pub length_bytes_at_le : (memory : Memory) (address n : ℕ) → length (bytes_at memory address n) ≤ n
length_bytes_at_le memory address n = short memory.bytes address n
  where
    short : (xs : List ℕ) (address n : ℕ) → length (slice_range xs address (address + n)) ≤ n
    short xs address n = grind (arith, places)
