-- A page's content, and what a range shows.
use Rattle.std.proofs.Common.{◌≡◌, ℕ, zero, suc, ◌+◌, ◌-◌, ◌/◌, ◌%◌, ◌<◌, ◌≤◌, min, true, false, List, [], ◌∷◌, ◌++◌, Option, None, Some, arith, rules, length, map, get_or, replicate, sym, ap, ◌∙◌, append_assoc}
use Rattle.std.proofs.lemmas.List.{append-nil, get_or-map, get_or-replicate, length-map, length-replicate, places, same_lists}
use Rattle.std.proofs.lemmas.List.FromFn.{get_or-map-range_with_len, length-map-range_with_len, map-range_with_len_more}
use Rattle.dml_types.specs.Memory.{Memory, IsMemory, byte_at, bytes_at, has, has_all}
use Rattle.dml_types.proofs.MemoryLemmas.{has_all_from, has_all_within, has_within, length_bytes_at}
use Rattle.dml_image.specs.Brought.{padded}
use Rattle.dml_script.specs.Run.{shown_at, shown_bytes}

pub page_is : (bytes copied zeros : List ℕ) → copied ≡ bytes → zeros ≡ replicate (4096 - length bytes) 0 → copied ++ zeros ≡ padded bytes
page_is bytes copied zeros same none = ap (λ l. l ++ zeros) same ∙ ap (λ l. bytes ++ l) none

shown_more : (memory : Memory) (address n : ℕ) → shown_bytes memory address (n + 1) ≡ shown_bytes memory address n ++ shown_at memory (address + n) ∷ []
shown_more memory address n = map-range_with_len_more (λ i. shown_at memory (address + i)) 0 n n (omega arith)

-- a range that is shown in two parts
pub shown_parts : (memory : Memory) (address m n : ℕ)
    → shown_bytes memory address (m + n) ≡ shown_bytes memory address m ++ shown_bytes memory (address + m) n
shown_parts memory address m zero =
    let none : m + 0 ≡ m = omega arith in
    ap (shown_bytes memory address) none ∙ sym (append-nil (shown_bytes memory address m))
shown_parts memory address m (suc n) =
    let one : suc n ≡ n + 1 = omega arith in
    let more : m + suc n ≡ (m + n) + 1 = omega arith in
    let place : (address + m) + n ≡ address + (m + n) = omega arith in
    ap (shown_bytes memory address) more ∙ shown_more memory address (m + n)
    ∙ ap (λ shown. shown ++ shown_at memory (address + (m + n)) ∷ []) (shown_parts memory address m n)
    ∙ append_assoc (shown_bytes memory address m) (shown_bytes memory (address + m) n) (shown_at memory (address + (m + n)) ∷ [])
    ∙ ap (λ at. shown_bytes memory address m ++ (shown_bytes memory (address + m) n ++ shown_at memory at ∷ [])) (sym place)
    ∙ ap (λ shown. shown_bytes memory address m ++ shown) (sym (shown_more memory (address + m) n) ∙ ap (shown_bytes memory (address + m)) (sym one))

-- a range in one page is present where its first address is
same_page : (memory : Memory) (address n i : ℕ) → address % 4096 + n ≤ 4096 → i < n → has memory (address + i) ≡ has memory address
same_page memory address n i within low =
    let page : (address + i) / 4096 ≡ address / 4096 = omega arith in ap (λ page. get_or memory.present page false) page

pub page_present : (memory : Memory) (address n : ℕ) → address % 4096 + n ≤ 4096 → has memory address ≡ true → has_all memory address n ≡ true
page_present memory address n within present = has_all_from memory address n (λ i low. same_page memory address n i within low ∙ present)

page_inside : (memory : Memory) (address n : ℕ) → IsMemory memory → address % 4096 + n ≤ 4096 → has memory address ≡ true → address + n ≤ length memory.bytes
page_inside memory address zero good within present =
    let inside : address < length memory.bytes = has_within memory address good.whole present in omega arith
page_inside memory address (suc n) good within present =
    has_all_within memory address (suc n) good.whole (page_present memory address (suc n) within present) (omega arith)

byte_read : (memory : Memory) (address n k : ℕ) → address + n ≤ length memory.bytes → k < n → get_or (bytes_at memory address n) k 0 ≡ byte_at memory (address + k)
byte_read memory address n k inside low = search (rules, places)

pub page_shown : (memory : Memory) (address n : ℕ) → IsMemory memory → address % 4096 + n ≤ 4096 → has memory address ≡ true
    → map (λ byte. Some byte) (bytes_at memory address n) ≡ shown_bytes memory address n
page_shown memory address n good within present =
    same_lists _ _ (length-map (bytes_at memory address n) (λ (byte : ℕ). Some byte) ∙ length_bytes_at memory address n (page_inside memory address n good within present)
    ∙ sym (length-map-range_with_len (λ i. shown_at memory (address + i)) 0 n))
    (λ k d low.
    let below : k < n = omega (arith, length-map (bytes_at memory address n) (λ (byte : ℕ). Some byte), length_bytes_at memory address n (page_inside memory address n good within present)) in
    let here : k < length (bytes_at memory address n) = omega (arith, length_bytes_at memory address n (page_inside memory address n good within present)) in
    let byte : get_or (bytes_at memory address n) k 0 ≡ byte_at memory (address + k) = byte_read memory address n k (page_inside memory address n good within present) below in
    let shows : shown_at memory (address + k) ≡ Some (byte_at memory (address + k)) = rw (same_page memory address n k within below, present) in
    get_or-map (λ (byte : ℕ). Some byte) (bytes_at memory address n) k 0 d here ∙ ap (λ (byte : ℕ). Some byte) byte ∙ sym shows
    ∙ sym (get_or-map-range_with_len (λ i. shown_at memory (address + i)) 0 n k k d below (omega arith)))

-- what is read of a present page is what is shown of it
pub present_shown : (memory : Memory) (address n : ℕ) (bytes : List ℕ) → IsMemory memory → address % 4096 + n ≤ 4096 → has memory address ≡ true
    → bytes ≡ bytes_at memory address (length bytes) → length bytes ≡ min n (4096 - address % 4096)
    → map (λ byte. Some byte) bytes ≡ shown_bytes memory address n
present_shown memory address n bytes good within present read long =
    let size : length bytes ≡ n = omega (arith, long, within) in
    ap (map (λ byte. Some byte)) (read ∙ ap (bytes_at memory address) size) ∙ page_shown memory address n good within present

-- of an absent page nothing is shown
pub absent_shown : (memory : Memory) (address n : ℕ) → address % 4096 + n ≤ 4096 → has memory address ≡ false
    → replicate n None ≡ shown_bytes memory address n
absent_shown memory address n within absent =
    same_lists _ _ (length-replicate n None ∙ sym (length-map-range_with_len (λ i. shown_at memory (address + i)) 0 n))
    (λ k d low.
    let nothing : Option ℕ = None in
    let below : k < n = omega (arith, length-replicate n nothing) in
    let none : shown_at memory (address + k) ≡ None = rw (same_page memory address n k within below, absent) in
    get_or-replicate n k None d below ∙ sym none
    ∙ sym (get_or-map-range_with_len (λ i. shown_at memory (address + i)) 0 n k k d below (omega arith)))
