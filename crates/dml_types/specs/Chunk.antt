-- What one chunk of a job gives, over an image: of the job's offsets, blocks or entries, those at least
-- `from` and below `to`. A scan's chunk has the operation's equation on them alone, in the job's direction.
-- One of create looks neither at the maximum nor at the record's pages: both are judged when the chunks are
-- joined. One of apply judges the rise between two of its own entries only, and tells the offset of its first
-- entry where all bytes of that are present, even if the entry is bad.
use Rattle.std.specs.Prelude.{ℕ, ◌+◌, ◌-◌, ◌*◌, ◌/◌, not, ◌&&◌, List, [], flat_map, Option, None, Some, option_map, if◌then◌else◌, ◌==◌}
use Rattle.dml_types.specs.declared.findings.Found.{Found}
use Rattle.dml_types.specs.declared.findings.Found.TheVariants.{All, Differs, Fault as Faults}
use Rattle.dml_types.specs.Types.{Job, Op, NoOp, Move, CreateDelta, ApplyDelta, Dualcast}
use Rattle.dml_types.specs.Memory.{first, Memory, bytes_at, has_all, worked_offset}
use Rattle.dml_types.specs.Effect.{code_of, Fault, is_clear, first_fault}
use Rattle.dml_types.specs.Bytewise.{operation_direction, lowest_done, faults_at, passes}
use Rattle.dml_types.specs.Delta.{readable_blocks, differing, block_entry, block_fault, entry_offset, entry_fault, good_entries}

-- how many offsets a scan goes over: a no-op has none
abbrev pub scan_size : Op → Job → ℕ
scan_size NoOp job = 0
scan_size _ job = job.size

-- how many offsets, blocks of a create or entries of an apply there are
abbrev pub units : Op → Job → ℕ
units CreateDelta job = job.size / 8
units ApplyDelta job = job.delta_size / 10
units op job = scan_size op job

-- how many of these a chunk of so many bytes has: one block or entry for each 8 bytes
abbrev pub chunk_units : Op → ℕ → ℕ
chunk_units CreateDelta chunk = chunk / 8
chunk_units ApplyDelta chunk = chunk / 8
chunk_units _ chunk = chunk

-- Scans: move, fill, dualcast and both compares, by offsets.
-- the offset that comes i-th in the order of work
abbrev pub scan_offset : Op → Job → ℕ → ℕ → ℕ → ℕ
scan_offset op job from to i = from + worked_offset (operation_direction op job) (to - from) i

-- how many offsets come before the first that does not pass
abbrev pub scan_done : Op → Memory → Job → ℕ → ℕ → ℕ
scan_done op memory job from to =
    first (to - from) (λ i. not (passes op memory job (scan_offset op job from to i)))

abbrev pub fault_found : ℕ → Fault → Found
fault_found done fault = Faults done fault.address (code_of fault.status == 0x83)

unfoldable pub scan_found : Op → Memory → Job → ℕ → ℕ → Found
scan_found op memory job from to =
    let done = scan_done op memory job from to in
    let faults = faults_at op job (scan_offset op job from to done) in
    if done == to - from then All
    else (if is_clear memory faults then Differs done else fault_found done (first_fault memory faults))

-- the source bytes of the done offsets, in address order
unfoldable pub scan_staged : Op → Memory → Job → ℕ → ℕ → List ℕ
scan_staged Move memory job from to =
    let done = scan_done Move memory job from to in
    bytes_at memory (job.source + (from + lowest_done (operation_direction Move job) (to - from) done)) done
scan_staged Dualcast memory job from to =
    bytes_at memory (job.source + from) (scan_done Dualcast memory job from to)
scan_staged _ memory job from to = []

-- Create, by blocks: the entries of those that differ before the first that is not readable, and the fault of
-- that one.
unfoldable pub create_staged : Memory → Job → ℕ → ℕ → List ℕ
create_staged memory job from to = flat_map (block_entry memory job) (differing memory job from to)

unfoldable pub create_fault : Memory → Job → ℕ → ℕ → Option (ℕ × ℕ)
create_fault memory job from to =
    let b = from + readable_blocks memory job from to in
    if b == to then None else Some (b, (block_fault memory job b).address)

-- Apply, by entries: those before the first bad one, and that one with its fault.
unfoldable pub apply_staged : Memory → Job → ℕ → ℕ → List ℕ
apply_staged memory job from to =
    bytes_at memory (job.source + 10 * from) (10 * good_entries memory job from to)

unfoldable pub apply_bad : Memory → Job → ℕ → ℕ → Option (ℕ × Fault)
apply_bad memory job from to =
    let x = from + good_entries memory job from to in
    if x == to then None else option_map (λ fault. (x, fault)) (entry_fault from memory job x)

-- the offset of the chunk's first entry, good or bad, where all its bytes are present; and that of its last
-- good one
unfoldable pub apply_first : Memory → Job → ℕ → ℕ → Option ℕ
apply_first memory job from to =
    if not (from == to) && has_all memory (job.source + 10 * from) 10
    then Some (entry_offset memory job from) else None

unfoldable pub apply_last : Memory → Job → ℕ → ℕ → Option ℕ
apply_last memory job from to =
    let done = good_entries memory job from to in
    if done == 0 then None else Some (entry_offset memory job (from + done - 1))
