-- Buffers that share no byte, put into a memory of zeros: each is held.
use Rattle.std.proofs.Common.{◌≡◌, ℕ, suc, ◌+◌, ◌*◌, ◌/◌, ◌<◌, ◌≤◌, ◌⊎◌, Bool, true, false, List, [], ◌∷◌, length, get_or, replicate, refl, sym, ◌∙◌, ap, subst, arith, ⊎_elim}
use Rattle.std.proofs.lemmas.Bool.{cases_lt}
use Rattle.std.proofs.lemmas.Bool.Decides.{nat_tests}
use Rattle.std.proofs.lemmas.List.{length-replicate, places}
use Rattle.std.proofs.lemmas.List.Elements.{All-cons, All-head, All-nil, All-tail}
use Rattle.std.specs.Prelude.{All}
use Rattle.dml_types.specs.declared.spans.Span.{Span}
use Rattle.dml_types.specs.Job.{shares, span}
use Rattle.dml_types.specs.Memory.{IsWhole, Memory, Put, has_all, put, puts_made}
use Rattle.dml_types.proofs.MemoryLemmas.{bytes_at_none, has_all_from, length_overwrite, put_nil}
use Rattle.dml_buffers.specs.Holds.{Holds, HoldsEach, LieWithin, ShareNoByte, blank, range_of}
use Rattle.dml_buffers.proofs.HoldsLemmas.{held_beside, held_written, no_bytes}

-- so many pages, all present
record IsOpen (pages : ℕ) (memory : Memory) : Type 0 where
  present : memory.present ≡ replicate pages true
  room : length memory.bytes ≡ 4096 * pages

blank_open : (pages : ℕ) → IsOpen pages (blank pages)
blank_open pages = record { present = refl; room = length-replicate {A = ℕ} (4096 * pages) 0 }

module _ (pages : ℕ) (memory : Memory) (opened : IsOpen pages memory) where
  open_whole : IsWhole memory
  open_whole = record {
    each_page = opened.room
        ∙ ap (λ (n : ℕ). 4096 * n) (sym (ap (λ (pages : List Bool). length pages) opened.present ∙ length-replicate {A = Bool} pages true));
  }

  open_has : (address n : ℕ) → address + n ≤ 4096 * pages → has_all memory address n ≡ true
  open_has address n within =
      has_all_from memory address n
      (λ i below.
      ap (λ (present : List Bool). get_or present ((address + i) / 4096) false) opened.present
      ∙ page_here pages ((address + i) / 4096) (omega arith))
    where
      page_here : (pages page : ℕ) → page < pages → get_or (replicate pages true) page false ≡ true
      page_here pages page below = grind (arith, places)

  module _ (address : ℕ) (bytes : List ℕ) (within : address + length bytes ≤ 4096 * pages) where
    room_within : address + length bytes ≤ length memory.bytes
    room_within = omega (arith, opened.room)

    open_put : IsOpen pages (put memory address bytes)
    open_put = record {
      present = opened.present;
      room = length_overwrite memory.bytes address bytes room_within ∙ opened.room;
    }

    held_put : Holds (put memory address bytes) address bytes
    held_put = held_written memory address bytes (open_has address (length bytes) within) room_within

-- no byte is always held
no_byte_held : (memory : Memory) (address : ℕ) (bytes : List ℕ) → length bytes ≤ 0 → Holds memory address bytes
no_byte_held memory address bytes none = record {
  present = has_all_from memory address (length bytes) (λ i below. absurd (omega arith));
  content = bytes_at_none memory address (length bytes) (omega arith) ∙ sym (no_bytes bytes none);
}

ends_apart : (one other : Span) → shares one other ≡ false → 0 < one.len → 0 < other.len → (one.start + one.len ≤ other.start) ⊎ (other.start + other.len ≤ one.start)
ends_apart one other apart = grind (arith, nat_tests)

-- a put that shares no byte with a buffer leaves it, and so do many
held_aside : (pages : ℕ) (memory : Memory) → IsOpen pages memory → (address : ℕ) (bytes : List ℕ) → Holds memory address bytes → (other : Put) → other.address + length other.bytes ≤ 4096 * pages → shares (span address (length bytes)) (range_of other) ≡ false → Holds (put memory other.address other.bytes) address bytes
held_aside pages memory opened address bytes held other within apart =
    ⊎_elim (λ some.
    ⊎_elim (λ more.
    held_beside memory address other.address bytes other.bytes held (room_within pages memory opened other.address other.bytes within)
    (ends_apart (span address (length bytes)) (range_of other) apart some more))
    (λ nothing.
    subst (λ (m : Memory). Holds m address bytes)
    (sym (ap (put memory other.address) (no_bytes other.bytes nothing) ∙ put_nil memory other.address)) held)
    (cases_lt 0 (length other.bytes)))
    (λ none. no_byte_held (put memory other.address other.bytes) address bytes none)
    (cases_lt 0 (length bytes))

puts_aside : (pages : ℕ) (memory : Memory) (buffers : List Put) → IsOpen pages memory → (address : ℕ) (bytes : List ℕ) → Holds memory address bytes → LieWithin pages buffers → All (λ buffer. shares (span address (length bytes)) (range_of buffer) ≡ false) buffers → Holds (puts_made memory buffers) address bytes
puts_aside pages memory [] opened address bytes held within apart = held
puts_aside pages memory (other ∷ buffers) opened address bytes held within apart =
    let here = All-head (λ buffer. buffer.address + length buffer.bytes ≤ 4096 * pages) other buffers within in
    puts_aside pages (put memory other.address other.bytes) buffers (open_put pages memory opened other.address other.bytes here) address bytes
    (held_aside pages memory opened address bytes held other here
    (All-head (λ buffer. shares (span address (length bytes)) (range_of buffer) ≡ false) other buffers apart))
    (All-tail (λ buffer. buffer.address + length buffer.bytes ≤ 4096 * pages) other buffers within)
    (All-tail (λ buffer. shares (span address (length bytes)) (range_of buffer) ≡ false) other buffers apart)

-- each of them is held at the end
puts_held : (pages : ℕ) (memory : Memory) (buffers : List Put) → IsOpen pages memory → LieWithin pages buffers → ShareNoByte buffers → HoldsEach (puts_made memory buffers) buffers
puts_held pages memory [] opened within apart = All-nil (λ buffer. Holds memory buffer.address buffer.bytes)
puts_held pages memory (first ∷ buffers) opened within apart =
    let here = All-head (λ buffer. buffer.address + length buffer.bytes ≤ 4096 * pages) first buffers within in
    let later = All-tail (λ buffer. buffer.address + length buffer.bytes ≤ 4096 * pages) first buffers within in
    let next = put memory first.address first.bytes in
    let opened_next = open_put pages memory opened first.address first.bytes here in
    All-cons (λ buffer. Holds (puts_made next buffers) buffer.address buffer.bytes) first buffers
    (puts_aside pages next buffers opened_next first.address first.bytes (held_put pages memory opened first.address first.bytes here) later
    (λ k d below. apart 0 (suc k) d (omega arith) (omega arith)))
    (puts_held pages next buffers opened_next later (λ i j d low high. apart (suc i) (suc j) d (omega arith) (omega arith)))

puts_open : (pages : ℕ) (memory : Memory) (buffers : List Put) → IsOpen pages memory → LieWithin pages buffers → IsOpen pages (puts_made memory buffers)
puts_open pages memory [] opened within = opened
puts_open pages memory (first ∷ buffers) opened within =
    let here = All-head (λ buffer. buffer.address + length buffer.bytes ≤ 4096 * pages) first buffers within in
    puts_open pages (put memory first.address first.bytes) buffers (open_put pages memory opened first.address first.bytes here)
    (All-tail (λ buffer. buffer.address + length buffer.bytes ≤ 4096 * pages) first buffers within)

pub blank_holds : (pages : ℕ) (buffers : List Put) → LieWithin pages buffers → ShareNoByte buffers → HoldsEach (puts_made (blank pages) buffers) buffers
blank_holds pages buffers within apart = puts_held pages (blank pages) buffers (blank_open pages) within apart

pub blank_whole : (pages : ℕ) (buffers : List Put) → LieWithin pages buffers → IsWhole (puts_made (blank pages) buffers)
blank_whole pages buffers within =
    open_whole pages (puts_made (blank pages) buffers) (puts_open pages (blank pages) buffers (blank_open pages) within)
