-- Create and apply. A delta record's entry: a block's number (the entry's offset) in 2 bytes, low byte first,
-- and the block's 8.
use Rattle.std.specs.Prelude.{ℕ, ◌+◌, ◌-◌, ◌*◌, ◌/◌, ◌%◌, ◌^◌, Bool, not, ◌&&◌, List, [], ◌∷◌, ◌++◌, map, length, take, filter, flat_map, find, Option, None, Some, is_some, option_map, if◌then◌else◌, ◌==◌, nat_lt, nat_le, slice_index, slice_range, bytes_eq}
use Rattle.dml_types.specs.Types.{Job, Record, Success, NotRising, OffsetRange, range_with_len, from_le_bytes, to_le_bytes, w16}
use Rattle.dml_types.specs.Memory.{first, Memory, Put, put_of, present_bytes, has_all, bytes_at}
use Rattle.dml_types.specs.Effect.{Effect, effect_of, Fault, read_fault, write_fault, ended, faulted, judged}

abbrev pub first_absent : Memory → ℕ → ℕ → ℕ
first_absent memory address n = address + present_bytes memory address n

-- block b of a range
abbrev pub has_block : Memory → ℕ → ℕ → Bool
has_block memory address b = has_all memory (address + 8 * b) 8

abbrev pub block_bytes : Memory → ℕ → ℕ → List ℕ
block_bytes memory address b = bytes_at memory (address + 8 * b) 8

-- Create. A block with all its bytes in both sources, and one whose two contents differ
abbrev pub is_readable : Memory → Job → ℕ → Bool
is_readable memory job b = has_block memory job.source b && has_block memory job.target b

abbrev pub differs : Memory → Job → ℕ → Bool
differs memory job b = not (bytes_eq (block_bytes memory job.source b) (block_bytes memory job.target b))

-- how many of the blocks that are at least `from` and below `to` come before the first that is not readable
abbrev pub readable_blocks : Memory → Job → ℕ → ℕ → ℕ
readable_blocks memory job from to = first (to - from) (λ i. not (is_readable memory job (from + i)))

-- of these, the blocks whose two contents differ, upwards
abbrev pub differing : Memory → Job → ℕ → ℕ → List ℕ
differing memory job from to =
    filter (differs memory job) (range_with_len from (readable_blocks memory job from to))

-- how many entries' places in the record range, of those up to the maximum, come before the first with an
-- absent byte
abbrev pub entry_room : Memory → Job → ℕ
entry_room memory job = first (job.delta_size / 10) (λ x. not (has_all memory (job.extra + 10 * x) 10))

abbrev pub block_entry : Memory → Job → ℕ → List ℕ
block_entry memory job b = to_le_bytes w16 b ++ block_bytes memory job.target b

-- bit r of the mask says that result r is expected
abbrev pub expects : Job → ℕ → Bool
expects job outcome = job.expected / 2 ^ outcome % 2 == 1

-- the read fault of a block, of source before source 2
abbrev pub block_fault : Memory → Job → ℕ → Fault
block_fault memory job b =
    let address = (if has_block memory job.source b then job.target else job.source) in
    read_fault (first_absent memory (address + 8 * b) 8)

-- the completion record where the entry for a block has no room: overflow at the maximum, else a write fault
abbrev pub crowded : Memory → Job → ℕ → ℕ → Record
crowded memory job room b =
    if room == job.delta_size / 10 then ended (judged job (expects job 2)) 2 (8 * b) (10 * room)
    else faulted (write_fault (first_absent memory (job.extra + 10 * room) 10)) 0 (8 * b) (10 * room)

-- the completion record where all entries were written: a read fault at the first block that is not readable,
-- else the end
abbrev pub written_out : Memory → Job → ℕ → Record
written_out memory job entries =
    let s = readable_blocks memory job 0 (job.size / 8) in
    let outcome = (if entries == 0 then 0 else 1) in
    if s == job.size / 8 then ended (judged job (expects job outcome)) outcome job.size (10 * entries)
    else faulted (block_fault memory job s) 0 (8 * s) (10 * entries)

unfoldable pub created : Memory → Job → Effect
created memory job =
    let blocks = differing memory job 0 (job.size / 8) in
    let room = entry_room memory job in
    effect_of (put_of job.extra (flat_map (block_entry memory job) (take room blocks)) ∷ [])
    (if nat_lt room (length blocks) then crowded memory job room (slice_index blocks room)
    else written_out memory job (length blocks))

-- The number of the block that entry i of a list of whole entries is for
abbrev pub block_number : List ℕ → ℕ → ℕ
block_number entries i = from_le_bytes w16 (slice_range entries (10 * i) (10 * i + 2))

-- Apply. The offset of entry x
abbrev pub entry_offset : Memory → Job → ℕ → ℕ
entry_offset memory job x = from_le_bytes w16 (bytes_at memory (job.source + 10 * x) 2)

-- the fault for which entry x is bad: of the causes, in order, the first that holds. The offsets of the
-- entries after the one named `behind` have to rise: a whole job says 0, a chunk its first entry
abbrev pub entry_fault : ℕ → Memory → Job → ℕ → Option Fault
entry_fault behind memory job x =
    let offset = entry_offset memory job x in
    let causes : List (Bool × Fault) =
    (not (has_all memory (job.source + 10 * x) 10), read_fault (first_absent memory (job.source + 10 * x) 10))
    ∷ (
      nat_lt behind x && nat_le offset (entry_offset memory job (x - 1)),
      record { status = NotRising; address = 0 },
    )
    ∷ (nat_le (job.size / 8) offset, record { status = OffsetRange; address = 0 })
    ∷ (
      not (has_block memory job.target offset),
      write_fault (first_absent memory (job.target + 8 * offset) 8),
    ) ∷ [] in
    option_map (λ cause. cause.1) (find (λ cause. cause.0) causes)

-- how many of the entries that are at least `from` and below `to` come before the first bad one
abbrev pub good_entries : Memory → Job → ℕ → ℕ → ℕ
good_entries memory job from to = first (to - from) (λ i. is_some (entry_fault from memory job (from + i)))

abbrev pub entry_put : Memory → Job → ℕ → Put
entry_put memory job x =
    put_of (job.target + 8 * entry_offset memory job x) (bytes_at memory (job.source + 10 * x + 2) 8)

abbrev pub apply_answer : ℕ → Option Fault → Record
apply_answer x None = ended Success 0 (10 * x) 0
apply_answer x (Some fault) = faulted fault 0 (10 * x) 0

unfoldable pub applied : Memory → Job → Effect
applied memory job =
    let x = good_entries memory job 0 (job.delta_size / 10) in
    effect_of (map (entry_put memory job) (range_with_len 0 x))
    (apply_answer x (if x == job.delta_size / 10 then None else entry_fault 0 memory job x))
