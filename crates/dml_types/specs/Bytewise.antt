-- The operations that go byte by byte: move, fill, compare, compare pattern and dualcast.
use Rattle.std.specs.Prelude.{ℕ, ◌+◌, ◌-◌, ◌%◌, Bool, not, ◌&&◌, List, [], ◌∷◌, map, if◌then◌else◌, ◌==◌, nat_lt, slice_index}
use Rattle.dml_types.specs.Types.{Job, Record, Op, Move, Fill, Compare, ComparePattern, Dualcast, Direction, Forward, Backward, range_with_len, to_le_bytes, w64}
use Rattle.dml_types.specs.Memory.{first, Memory, worked_offset, present_bytes, byte_at, bytes_at, put_of}
use Rattle.dml_types.specs.Effect.{Effect, effect_of, Fault, read_fault, write_fault, is_clear, first_fault, ended, faulted, judged, stopped_at}

-- the 8 bytes of a pattern, low byte first, repeated
abbrev pub pattern_byte : ℕ → ℕ → ℕ
pattern_byte pattern i = slice_index (to_le_bytes w64 pattern) (i % 8)

unfoldable pub pattern_bytes : ℕ → ℕ → List ℕ
pattern_bytes pattern n = map (pattern_byte pattern) (range_with_len 0 n)

-- a move goes backward exactly where its destination begins inside its source, behind the source's first byte
abbrev pub move_direction : ℕ → ℕ → ℕ → Direction
move_direction source target n =
    if nat_lt source target && nat_lt target (source + n) then Backward else Forward

abbrev pub operation_direction : Op → Job → Direction
operation_direction Move job = move_direction job.source job.target job.size
operation_direction _ job = Forward

-- the result of a move
abbrev pub result_of : Direction → ℕ
result_of Forward = 0
result_of Backward = 1

-- the lowest of the k offsets that come first where n offsets are worked on in a direction
abbrev pub lowest_done : Direction → ℕ → ℕ → ℕ
lowest_done Forward n k = 0
lowest_done Backward n k = n - k

-- the faults that may come at an offset, in their order
abbrev pub faults_at : Op → Job → ℕ → List Fault
faults_at Move job i = read_fault (job.source + i) ∷ write_fault (job.target + i) ∷ []
faults_at Fill job i = write_fault (job.target + i) ∷ []
faults_at Compare job i = read_fault (job.source + i) ∷ read_fault (job.target + i) ∷ []
faults_at ComparePattern job i = read_fault (job.source + i) ∷ []
faults_at Dualcast job i =
    read_fault (job.source + i) ∷ write_fault (job.target + i) ∷ write_fault (job.extra + i) ∷ []
faults_at _ job i = []

-- whether no byte is absent at an offset and, in the compares, the two bytes are equal
abbrev pub passes : Op → Memory → Job → ℕ → Bool
passes Compare memory job i =
    is_clear memory (faults_at Compare job i)
    && (byte_at memory (job.source + i) == byte_at memory (job.target + i))
passes ComparePattern memory job i =
    is_clear memory (faults_at ComparePattern job i)
    && (byte_at memory (job.source + i) == pattern_byte job.target i)
passes op memory job i = is_clear memory (faults_at op job i)

-- how many offsets, in the order of work, come before the first that does not pass
abbrev pub length_of : Op → Memory → Job → ℕ
length_of op memory job =
    first job.size (λ i. not (passes op memory job (worked_offset (operation_direction op job) job.size i)))

unfoldable pub moved : Memory → Job → Effect
moved memory job =
    let direction = operation_direction Move job in
    let k = length_of Move memory job in
    let from = lowest_done direction job.size k in
    effect_of (put_of (job.target + from) (bytes_at memory (job.source + from) k) ∷ [])
    (stopped_at memory job (result_of direction) k (faults_at Move job (worked_offset direction job.size k)))

unfoldable pub dualcast : Memory → Job → Effect
dualcast memory job =
    let k = length_of Dualcast memory job in
    let bytes = bytes_at memory job.source k in
    effect_of (put_of job.target bytes ∷ put_of job.extra bytes ∷ [])
    (stopped_at memory job 0 k (faults_at Dualcast job k))

unfoldable pub filled : Memory → Job → Effect
filled memory job =
    let k = present_bytes memory job.target job.size in
    effect_of (put_of job.target (pattern_bytes job.source k) ∷ [])
    (stopped_at memory job 0 k (faults_at Fill job k))

-- the record of a compare that came to offset k; the faults are those of that offset. The whole byte is
-- expected
abbrev pub compare_answer : Memory → Job → ℕ → List Fault → Record
compare_answer memory job k faults =
    if k == job.size then ended (judged job (job.expected == 0)) 0 k 0
    else (if is_clear memory faults then ended (judged job (job.expected == 1)) 1 k 0
    else faulted (first_fault memory faults) 0 k 0)

-- either compare: the first offset at which a byte is absent or the two bytes differ decides
unfoldable pub compared : Op → Memory → Job → Effect
compared op memory job =
    let k = length_of op memory job in effect_of [] (compare_answer memory job k (faults_at op job k))
