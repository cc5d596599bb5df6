-- Which pages and bytes of a caller's are a memory.
use Rattle.std.proofs.Common.{◌≡◌, ℕ, ◌*◌, ◌/◌, ◌%◌, ◌<◌, ◌≤◌, Bool, List, Option, None, true, false, length, replicate, slice_index, slice_index_or, sym, ◌∙◌, arith, ⊎_elim}
use Rattle.std.proofs.lemmas.List.{get_or_past, get_or-replicate, length-replicate}
use Rattle.std.proofs.lemmas.Bool.{cases_lt, false≢true}
use Rattle.dml_types.specs.Memory.{Memory, IsMemory, InOnePiece, memory_of, on_loan}

-- the absent ones of the first n pages are full of 0
abbrev pub AreBlank : List Bool → List ℕ → ℕ → Type 0
AreBlank present bytes n =
    (k : ℕ) → k < 4096 * n → slice_index_or present (k / 4096) false ≡ false → slice_index bytes k ≡ 0

pub marked_kept : (present : List Bool) (bytes : List ℕ) (home : Option ℕ) (n : ℕ) → 1 ≤ length present → length present ≤ 4096 → length bytes ≡ 4096 * length present → length present ≤ n → AreBlank present bytes n → IsMemory (memory_of present bytes home)
marked_kept present bytes home n some most size all blank = record {
  least_pages = some;
  most_pages = omega arith;
  by_home = λ home. most;
  whole = record { each_page = size };
  absent = λ k gone.
      ⊎_elim (λ low. blank k low gone) (λ high. get_or_past bytes k 0 (omega (arith, size))) (cases_lt k (4096 * n));
}

-- Memory in one piece: there are as many pages as its bytes are, and none is absent.
abbrev pub piece_of : List ℕ → ℕ → Memory
piece_of bytes name = on_loan (memory_of (replicate (length bytes / 4096) true) bytes None) (InOnePiece name)

pub piece_kept : (bytes : List ℕ) (name : ℕ) → length bytes % 4096 ≡ 0 → 4096 ≤ length bytes → length bytes ≤ 4294967295 * 4096 → IsMemory (piece_of bytes name)
piece_kept bytes name even least most =
    let pages : length (replicate (length bytes / 4096) true) ≡ length bytes / 4096 = length-replicate (length bytes / 4096) true in
    record {
      least_pages = omega arith;
      most_pages = omega arith;
      by_home = λ is. absurd cc;
      whole = record { each_page = omega arith };
      absent = λ k gone.
          ⊎_elim (λ low. absurd (false≢true (sym gone ∙ get_or-replicate (length bytes / 4096) (k / 4096) true false low)))
          (λ high. get_or_past bytes k 0 (omega arith)) (cases_lt (k / 4096) (length bytes / 4096));
    }

pub piece_is : (bytes : List ℕ) (name : ℕ) → IsMemory (piece_of bytes name) → (length bytes % 4096 ≡ 0) × (4096 ≤ length bytes) × (length bytes ≤ 4294967295 * 4096)
piece_is bytes name memory =
    let pages : length (replicate (length bytes / 4096) true) ≡ length bytes / 4096 = length-replicate (length bytes / 4096) true in
    let whole : length bytes ≡ 4096 * length (replicate (length bytes / 4096) true) = memory.whole.each_page in
    (omega arith, omega (arith, memory.least_pages), omega (arith, memory.most_pages))
