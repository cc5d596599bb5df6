-- One absent page is brought to an image.
use Rattle.std.proofs.Common.{◌≡◌, ◌≢◌, ℕ, ◌+◌, ◌-◌, ◌*◌, ◌/◌, ◌<◌, ◌≤◌, ◌⊎◌, true, false, List, [], ◌∷◌, length, get_or, set, refl, sym, ◌∙◌, ap, arith, ⊎_elim, inl, inr}
use Rattle.std.proofs.lemmas.List.{length-set, get_or-set_other}
use Rattle.std.proofs.lemmas.Bool.{cases_lt, false≢true, and_parts, and_from}
use Rattle.dml_types.specs.Memory.{Memory, IsWhole, has, has_all, byte_at, bytes_at, put}
use Rattle.dml_types.specs.Effect.{Fault, is_clear}
use Rattle.dml_types.proofs.MemoryLemmas.{overwrite_below, overwrite_past, length_overwrite, has_all_at, bytes_at_none, read_beside, put_nil, put_comm, has_all_within}
use Rattle.dml_image.specs.Brought.{brought}

-- an absent page of a whole image, and bytes for it
pub record IsToBring (memory : Memory) (page : ℕ) (bytes : List ℕ) : Type 0 where
  pub whole : IsWhole memory
  pub is_page : page < length memory.present
  pub long : length bytes ≡ 4096
  pub gone : get_or memory.present page false ≡ false

-- the image that shows the page, with the bytes that stood there
abbrev shown : Memory → ℕ → Memory
shown memory page = record memory { present = set memory.present page true }

pub whole_brought : (memory : Memory) (page : ℕ) (bytes : List ℕ) → IsToBring memory page bytes → IsWhole (brought memory page bytes)
whole_brought memory page bytes b =
    let within : 4096 * page + length bytes ≤ length memory.bytes = omega (arith, b.whole.each_page, b.long, b.is_page) in
    record { each_page = length_overwrite memory.bytes (4096 * page) bytes within ∙ (b.whole.each_page ∙ ap (λ n. 4096 * n) (sym (length-set memory.present page true))) }

-- a byte that is present lies in another page
other_page : (memory : Memory) (page : ℕ) (bytes : List ℕ) → IsToBring memory page bytes → (address : ℕ) → has memory address ≡ true → address / 4096 ≢ page
other_page memory page bytes b address present same =
    absurd (false≢true (sym b.gone ∙ (ap (λ place. get_or memory.present place false) (sym same) ∙ present)))

pub has_kept : (memory : Memory) (page : ℕ) (bytes : List ℕ) → IsToBring memory page bytes → (address : ℕ) → has memory address ≡ true → has (brought memory page bytes) address ≡ true
has_kept memory page bytes b address present =
    get_or-set_other memory.present page (address / 4096) true false (other_page memory page bytes b address present) ∙ present

-- a range that is present ends before the page, or begins behind it
beside_page : (memory : Memory) (page : ℕ) (bytes : List ℕ) → IsToBring memory page bytes → (address n : ℕ) → has_all memory address n ≡ true → 0 < n → (address + n ≤ 4096 * page) ⊎ (4096 * page + 4096 ≤ address)
beside_page memory page bytes b address n all some =
    ⊎_elim (λ low.
    ⊎_elim (λ across.
    let here = other_page memory page bytes b (address + (4096 * page - address)) (has_all_at memory address n (4096 * page - address) all (omega arith)) in
    absurd (here (omega arith)))
    (λ before. inl before) (cases_lt (4096 * page) (address + n)))
    (λ high.
    let start = other_page memory page bytes b (address + 0) (has_all_at memory address n 0 all some) in
    inr (behind start high))
    (cases_lt address (4096 * page))
  where
    behind : (address + 0) / 4096 ≢ page → 4096 * page ≤ address → 4096 * page + 4096 ≤ address
    behind other high = omega arith

pub byte_kept : (memory : Memory) (page : ℕ) (bytes : List ℕ) → IsToBring memory page bytes → (address : ℕ) → has memory address ≡ true → byte_at (brought memory page bytes) address ≡ byte_at memory address
byte_kept memory page bytes b address present =
    let within : 4096 * page + length bytes ≤ length memory.bytes = omega (arith, b.whole.each_page, b.long, b.is_page) in
    let other = other_page memory page bytes b address present in
    ⊎_elim (λ low. overwrite_below memory.bytes (4096 * page) bytes address 0 within low)
    (λ high. overwrite_past memory.bytes (4096 * page) bytes address 0 within (omega (arith, b.long)))
    (cases_lt address (4096 * page))

pub read_kept : (memory : Memory) (page : ℕ) (bytes : List ℕ) → IsToBring memory page bytes → (address n : ℕ) → has_all memory address n ≡ true → bytes_at (brought memory page bytes) address n ≡ bytes_at memory address n
read_kept memory page bytes b address n all =
    ⊎_elim (λ some.
    let within : 4096 * page + length bytes ≤ length memory.bytes = omega (arith, b.whole.each_page, b.long, b.is_page) in
    read_beside (shown memory page) (4096 * page) bytes address n within
    (⊎_elim (λ before. inl before) (λ behind. inr (omega (arith, b.long))) (beside_page memory page bytes b address n all some)))
    (λ none. let nothing : n ≡ 0 = omega arith in bytes_at_none (brought memory page bytes) address n nothing ∙ sym (bytes_at_none memory address n nothing))
    (cases_lt 0 n)

-- what was put over present bytes and then the page is the page and then what was put
pub put_then_brought : (memory : Memory) (page : ℕ) (bytes : List ℕ) → IsToBring memory page bytes → (address : ℕ) (xs : List ℕ) → has_all memory address (length xs) ≡ true → brought (put memory address xs) page bytes ≡ put (brought memory page bytes) address xs
put_then_brought memory page bytes b address [] all =
    ap (λ m. brought m page bytes) (put_nil memory address) ∙ sym (put_nil (brought memory page bytes) address)
put_then_brought memory page bytes b address (x ∷ xs) all =
    let within : 4096 * page + length bytes ≤ length memory.bytes = omega (arith, b.whole.each_page, b.long, b.is_page) in
    ⊎_elim (λ before. put_comm (shown memory page) address (x ∷ xs) (4096 * page) bytes before within)
    (λ behind.
    let room = has_all_within memory address (length (x ∷ xs)) b.whole all (omega arith) in
    sym (put_comm (shown memory page) (4096 * page) bytes address (x ∷ xs) (omega (arith, b.long)) room))
    (beside_page memory page bytes b address (length (x ∷ xs)) all (omega arith))

-- an offset that was clear stays clear
pub clear_kept : (memory : Memory) (page : ℕ) (bytes : List ℕ) → IsToBring memory page bytes → (faults : List Fault) → is_clear memory faults ≡ true → is_clear (brought memory page bytes) faults ≡ true
clear_kept memory page bytes b [] clear = refl
clear_kept memory page bytes b (fault ∷ faults) clear =
    let parts = and_parts _ _ clear in
    and_from _ _ (has_kept memory page bytes b fault.address parts.0) (clear_kept memory page bytes b faults parts.1)
