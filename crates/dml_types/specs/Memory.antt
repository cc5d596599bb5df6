-- A memory image: pages that are present or absent, and the bytes from address 0 on.
use Rattle.std.specs.Prelude.{◌≡◌, ℕ, ◌+◌, ◌-◌, ◌*◌, ◌/◌, ◌≤◌, Bool, true, false, not, ◌&&◌, Option, is_none, List, [], ◌∷◌, ◌++◌, length, take, drop, slice_index, slice_index_or, slice_range, nat_eq}
use Rattle.dml_types.specs.Types.{Direction, Forward, Backward, position_or_len, range_with_len}

-- the first index: the least i below n with test i, and n where there is none
unfoldable pub first : ℕ → (ℕ → Bool) → ℕ
first n test = position_or_len test (range_with_len 0 n)

abbrev pub page_size : ℕ
page_size = 4096

-- where a segment of lent memory lies: its first page, how many pages it has, and the name of the reference that was lent
pub record Place : Type 0 where
  pub first : ℕ
  pub pages : ℕ
  pub name : ℕ

-- how memory is lent: `home` says it; or all of it is lent in one piece, each page present, and this names the
-- reference that was lent; or it is lent in segments that lie at these places, and a page in none of them is absent
pub data Loan : Type 0 where
  ByHome : Loan
  InOnePiece : (name : ℕ) → Loan
  InSegments : (places : List Place) → Loan

-- `home` and `loan` are for the prover alone. `home` is the name of the reference that was lent with a list of which
-- pages are present; it is none for an image's own pages, and for memory in one piece or in segments. No step reads or
-- changes the two
pub record Memory : Type 0 where
  pub present : List Bool
  pub bytes : List ℕ
  pub home : Option ℕ
  pub loan : Loan

-- a memory whose `home` says whose pages it has
abbrev pub memory_of : List Bool → List ℕ → Option ℕ → Memory
memory_of present bytes home = record { present = present; bytes = bytes; home = home; loan = ByHome }

-- the same pages and bytes elsewhere
abbrev pub at_home : Memory → Option ℕ → Memory
at_home memory home = record memory { home = home }

-- the same pages and bytes, lent in another way
abbrev pub on_loan : Memory → Loan → Memory
on_loan memory loan = record memory { loan = loan }

-- whether it is lent in one piece
abbrev pub is_one_piece : Loan → Bool
is_one_piece ByHome = false
is_one_piece (InOnePiece name) = true
is_one_piece (InSegments places) = false

abbrev pub is_in_one_piece : Memory → Bool
is_in_one_piece memory = is_one_piece memory.loan

-- whether it is lent in segments
abbrev pub are_segments : Loan → Bool
are_segments ByHome = false
are_segments (InOnePiece name) = false
are_segments (InSegments places) = true

abbrev pub is_in_segments : Memory → Bool
is_in_segments memory = are_segments memory.loan

-- whether the pages are an image's own: nobody lent them
abbrev pub is_own : Memory → Bool
is_own memory = is_none memory.home && not (is_in_one_piece memory) && not (is_in_segments memory)

-- there are as many bytes as the pages have, present and absent pages alike
pub record IsWhole (memory : Memory) : Type 0 where
  pub each_page : length memory.bytes ≡ page_size * length memory.present

-- whether a byte is present; past the last page none is
abbrev pub has : Memory → ℕ → Bool
has memory address = slice_index_or memory.present (address / page_size) false

-- what every image keeps: 1 to 2^32 - 1 whole pages, 4,096 at most but where it is lent in one piece or in segments, and
-- an absent byte stands as 0
pub record IsMemory (memory : Memory) : Type 0 where
  pub least_pages : 1 ≤ length memory.present
  pub most_pages : length memory.present ≤ 4294967295
  pub by_home : memory.loan ≡ ByHome → length memory.present ≤ 4096
  pub whole : IsWhole memory
  pub absent : (address : ℕ) → has memory address ≡ false → slice_index memory.bytes address ≡ 0

-- the offset that comes i-th where n offsets are worked on in a direction
abbrev pub worked_offset : Direction → ℕ → ℕ → ℕ
worked_offset Forward n i = i
worked_offset Backward n i = n - 1 - i

-- how many of n bytes come before the first absent one
abbrev pub present_toward : Direction → Memory → ℕ → ℕ → ℕ
present_toward direction memory address n =
    first n (λ i. not (has memory (address + worked_offset direction n i)))

abbrev pub present_bytes : Memory → ℕ → ℕ → ℕ
present_bytes memory address n = first n (λ i. not (has memory (address + i)))

abbrev pub has_all : Memory → ℕ → ℕ → Bool
has_all memory address n = nat_eq (present_bytes memory address n) n

abbrev pub byte_at : Memory → ℕ → ℕ
byte_at memory address = slice_index memory.bytes address

abbrev pub bytes_at : Memory → ℕ → ℕ → List ℕ
bytes_at memory address n = slice_range memory.bytes address (address + n)

-- a list with another list written over it from a place on
unfoldable pub overwrite : {X : Type 0} → List X → ℕ → List X → List X
overwrite old place new = take place old ++ (new ++ drop (place + length new) old)

abbrev pub put : Memory → ℕ → List ℕ → Memory
put memory address bytes = record memory { bytes = overwrite memory.bytes address bytes }

-- bytes to be written from an address on
pub record Put : Type 0 where
  pub address : ℕ
  pub bytes : List ℕ

abbrev pub put_of : ℕ → List ℕ → Put
put_of address bytes = record { address = address; bytes = bytes }

-- the memory after puts, one after another
abbrev pub puts_made : Memory → List Put → Memory
puts_made memory [] = memory
puts_made memory (p ∷ puts) = puts_made (put memory p.address p.bytes) puts
