-- What an operation does depends on the presence of pages and on the bytes that it reads, and it puts bytes into the ranges that
-- it writes alone: for each of the operations that go byte by byte.
use Rattle.std.proofs.Common.{◌≡◌, ℕ, ◌+◌, ◌-◌, ◌<◌, ◌≤◌, not, List, [], ◌∷◌, length, get_or, refl, ◌∙◌, ap, arith, subst}
use Rattle.std.proofs.lemmas.Bool.{and_parts, not-false}
use Rattle.std.proofs.lemmas.List.FromFn.{length-map-range_with_len}
use Rattle.std.specs.Prelude.{◌&&◌, nat_eq}
use Rattle.dml_types.specs.declared.jobs.Job.{Job}
use Rattle.dml_types.specs.declared.spans.Span.{Span}
use Rattle.dml_types.specs.declared.operations.Op.{Op}
use Rattle.dml_types.specs.declared.operations.Op.TheVariants.{NoOp, Move, Fill, Compare, ComparePattern, Dualcast}
use Rattle.dml_types.specs.declared.operations.Direction.{Direction}
use Rattle.dml_types.specs.declared.operations.Direction.TheVariants.{Forward, Backward}
use Rattle.dml_types.specs.Job.{reads, writes, span}
use Rattle.dml_types.specs.Memory.{Memory, IsWhole, put_of, present_bytes, bytes_at, has, worked_offset}
use Rattle.dml_types.specs.Effect.{effect_of, is_clear, stopped_at}
use Rattle.dml_types.specs.Bytewise.{operation_direction, lowest_done, result_of, faults_at, passes, length_of, pattern_byte, pattern_bytes, moved, dualcast, filled, compared, compare_answer}
use Rattle.dml_types.specs.Step.{operation_effect}
use Rattle.dml_types.proofs.FirstLemmas.{first_le, fails_before, first_agree}
use Rattle.dml_types.proofs.MemoryLemmas.{has_within, has_all_within, present_front}
use Rattle.dml_types.proofs.MoveLemmas.{move_within}
use Rattle.dml_levels.proofs.FrameLemmas.{touched_head, touched_tail, touched_at, with_bytes, Agree, PutIn, PutsIn, bytes_at_agree, length_bytes_at_le}

-- an operation with its ranges
pub record IsFramed (op : Op) : Type 0 where
  pub agree : (memory : Memory) (bytes : List ℕ) (job : Job) → Agree (reads op job) bytes memory.bytes → operation_effect op (with_bytes memory bytes) job ≡ operation_effect op memory job
  pub puts_in : (memory : Memory) (job : Job) → IsWhole memory → PutsIn (writes op job) (length memory.bytes) (operation_effect op memory job).puts

-- a part of the range that is read first, or second
pub first_read : (memory : Memory) (bytes : List ℕ) (start len : ℕ) (rest : List Span) (from n : ℕ) → Agree (span start len ∷ rest) bytes memory.bytes → from + n ≤ len → bytes_at (with_bytes memory bytes) (start + from) n ≡ bytes_at memory (start + from) n
first_read memory bytes start len rest from n agree within =
    bytes_at_agree memory bytes (start + from) n agree.size
    (λ i below. agree.same (start + from + i) (touched_at (span start len) rest (start + from + i) (omega arith) (omega arith)))

pub second_read : (memory : Memory) (bytes : List ℕ) (range : Span) (start len : ℕ) (rest : List Span) (from n : ℕ) → Agree (range ∷ span start len ∷ rest) bytes memory.bytes → from + n ≤ len → bytes_at (with_bytes memory bytes) (start + from) n ≡ bytes_at memory (start + from) n
second_read memory bytes range start len rest from n agree within =
    bytes_at_agree memory bytes (start + from) n agree.size
    (λ i below. agree.same (start + from + i) (touched_tail range (span start len ∷ rest) (start + from + i) (touched_at (span start len) rest (start + from + i) (omega arith) (omega arith))))

-- a put into a range, of at most n of its bytes
pub put_in_first : (start len : ℕ) (rest : List Span) (from n size : ℕ) (bytes : List ℕ) → length bytes ≤ n → from + n ≤ len → (0 < n → start + from + n ≤ size) → PutIn (span start len ∷ rest) size (put_of (start + from) bytes)
put_in_first start len rest from n size bytes short within fits = record {
  fits = λ some. let room = fits (omega arith) in omega arith;
  inside = λ x low high. touched_at (span start len) rest x (omega arith) (omega arith);
}

pub put_in_second : (range : Span) (start len : ℕ) (rest : List Span) (from n size : ℕ) (bytes : List ℕ) → length bytes ≤ n → from + n ≤ len → (0 < n → start + from + n ≤ size) → PutIn (range ∷ span start len ∷ rest) size (put_of (start + from) bytes)
put_in_second range start len rest from n size bytes short within fits = record {
  fits = λ some. let room = fits (omega arith) in omega arith;
  inside = λ x low high. touched_tail range (span start len ∷ rest) x (touched_at (span start len) rest x (omega arith) (omega arith));
}

at_start : (start : ℕ) → start + 0 ≡ start
at_start start = omega arith

-- the part of a range that is done lies in it
done_within : (direction : Direction) (n k : ℕ) → k ≤ n → lowest_done direction n k + k ≤ n
done_within Forward n k within = omega arith
done_within Backward n k within = omega arith

pub no_op_framed : IsFramed NoOp
no_op_framed = record { agree = λ memory bytes job agree. refl; puts_in = λ memory job whole. tt }

fill_agree : (memory : Memory) (bytes : List ℕ) (job : Job) → filled (with_bytes memory bytes) job ≡ filled memory job
unfolding filled
fill_agree memory bytes job = refl

length_pattern : (pattern n : ℕ) → length (pattern_bytes pattern n) ≡ n
unfolding pattern_bytes
length_pattern pattern n = length-map-range_with_len (pattern_byte pattern) 0 n

fill_puts : (memory : Memory) (job : Job) → IsWhole memory → PutsIn (writes Fill job) (length memory.bytes) (filled memory job).puts
unfolding filled
fill_puts memory job whole =
    let k = present_bytes memory job.target job.size in
    let long = length_pattern job.source k in
    let put = put_in_first job.target job.size [] 0 k (length memory.bytes) (pattern_bytes job.source k) (omega (arith, long)) (omega (arith, first_le job.size (λ i. not (has memory (job.target + i)))))
    (λ some. omega (arith, has_all_within memory job.target k whole (present_front memory job.target job.size) some)) in
    (subst (λ address. PutIn (writes Fill job) (length memory.bytes) (put_of address (pattern_bytes job.source k))) (at_start job.target) put, tt)

pub fill_framed : IsFramed Fill
fill_framed = record { agree = λ memory bytes job agree. fill_agree memory bytes job; puts_in = fill_puts }

-- the compares: the offset that decides
compare_agree : (memory : Memory) (bytes : List ℕ) (job : Job) → Agree (reads Compare job) bytes memory.bytes → compared Compare (with_bytes memory bytes) job ≡ compared Compare memory job
unfolding compared
compare_agree memory bytes job agree =
    let same : length_of Compare (with_bytes memory bytes) job ≡ length_of Compare memory job =
    first_agree job.size _ _
    (λ i below.
    let left = agree.same (job.source + i) (touched_head (span job.source job.size) (span job.target job.size ∷ []) i below) in
    let right = agree.same (job.target + i) (touched_tail (span job.source job.size) (span job.target job.size ∷ []) (job.target + i) (touched_head (span job.target job.size) [] i below)) in
    ap (λ b. not (is_clear memory (faults_at Compare job i) && nat_eq b (get_or bytes (job.target + i) 0))) left
    ∙ ap (λ b. not (is_clear memory (faults_at Compare job i) && nat_eq (get_or memory.bytes (job.source + i) 0) b)) right) in
    ap (λ k. effect_of [] (compare_answer memory job k (faults_at Compare job k))) same

pub compare_framed : IsFramed Compare
unfolding compared
compare_framed = record { agree = compare_agree; puts_in = no_puts }
  where
    no_puts : (memory : Memory) (job : Job) → IsWhole memory → PutsIn (writes Compare job) (length memory.bytes) (compared Compare memory job).puts
    no_puts memory job whole = tt

pattern_agree : (memory : Memory) (bytes : List ℕ) (job : Job) → Agree (reads ComparePattern job) bytes memory.bytes → compared ComparePattern (with_bytes memory bytes) job ≡ compared ComparePattern memory job
unfolding compared
pattern_agree memory bytes job agree =
    let same : length_of ComparePattern (with_bytes memory bytes) job ≡ length_of ComparePattern memory job =
    first_agree job.size _ _
    (λ i below.
    let left = agree.same (job.source + i) (touched_head (span job.source job.size) [] i below) in
    ap (λ b. not (is_clear memory (faults_at ComparePattern job i) && nat_eq b (pattern_byte job.target i))) left) in
    ap (λ k. effect_of [] (compare_answer memory job k (faults_at ComparePattern job k))) same

pub pattern_framed : IsFramed ComparePattern
unfolding compared
pattern_framed = record { agree = pattern_agree; puts_in = no_puts }
  where
    no_puts : (memory : Memory) (job : Job) → IsWhole memory → PutsIn (writes ComparePattern job) (length memory.bytes) (compared ComparePattern memory job).puts
    no_puts memory job whole = tt

move_agree : (memory : Memory) (bytes : List ℕ) (job : Job) → Agree (reads Move job) bytes memory.bytes → moved (with_bytes memory bytes) job ≡ moved memory job
unfolding moved
move_agree memory bytes job agree =
    let direction = operation_direction Move job in
    let k = length_of Move memory job in
    let from = lowest_done direction job.size k in
    let same = first_read memory bytes job.source job.size [] from k agree (done_within direction job.size k (first_le _ _)) in
    ap (λ (copied : List ℕ). effect_of (put_of (job.target + from) copied ∷ []) (stopped_at memory job (result_of direction) k (faults_at Move job (worked_offset direction job.size k)))) same

move_puts : (memory : Memory) (job : Job) → IsWhole memory → PutsIn (writes Move job) (length memory.bytes) (moved memory job).puts
unfolding moved
move_puts memory job whole =
    let direction = operation_direction Move job in
    let k = length_of Move memory job in
    let from = lowest_done direction job.size k in (
      put_in_first job.target job.size [] from k (length memory.bytes) (bytes_at memory (job.source + from) k) (length_bytes_at_le memory (job.source + from) k)
          (done_within direction job.size k (first_le _ _)) (λ some. (move_within memory job whole some).1),
      tt,
    )

pub move_framed : IsFramed Move
move_framed = record { agree = move_agree; puts_in = move_puts }

dualcast_agree : (memory : Memory) (bytes : List ℕ) (job : Job) → Agree (reads Dualcast job) bytes memory.bytes → dualcast (with_bytes memory bytes) job ≡ dualcast memory job
unfolding dualcast
dualcast_agree memory bytes job agree =
    let k = length_of Dualcast memory job in
    let within : k ≤ job.size = first_le _ _ in
    let same = bytes_at_agree memory bytes job.source k agree.size (λ i below. agree.same (job.source + i) (touched_head (span job.source job.size) [] i (omega arith))) in
    ap (λ (copied : List ℕ). effect_of (put_of job.target copied ∷ put_of job.extra copied ∷ []) (stopped_at memory job 0 k (faults_at Dualcast job k))) same

-- both ranges of what was done lie in the image
dualcast_within : (memory : Memory) (job : Job) → IsWhole memory → 0 < length_of Dualcast memory job → (job.target + length_of Dualcast memory job ≤ length memory.bytes) × (job.extra + length_of Dualcast memory job ≤ length memory.bytes)
dualcast_within memory job whole some =
    let k = length_of Dualcast memory job in
    let clear = not-false _ (fails_before job.size (λ i. not (passes Dualcast memory job i)) (k - 1) (omega arith)) in
    let outer = and_parts _ _ clear in
    let inner = and_parts _ _ outer.1 in
    let last = and_parts _ _ inner.1 in
    let at_target = has_within memory (job.target + (k - 1)) whole inner.0 in
    let at_extra = has_within memory (job.extra + (k - 1)) whole last.0 in
    (omega arith, omega arith)

dualcast_puts : (memory : Memory) (job : Job) → IsWhole memory → PutsIn (writes Dualcast job) (length memory.bytes) (dualcast memory job).puts
unfolding dualcast
dualcast_puts memory job whole =
    let k = length_of Dualcast memory job in
    let copied = bytes_at memory job.source k in
    let short = length_bytes_at_le memory job.source k in
    let within : 0 + k ≤ job.size = omega (arith, first_le job.size (λ i. not (passes Dualcast memory job i))) in
    let one = put_in_first job.target job.size (span job.extra job.size ∷ []) 0 k (length memory.bytes) copied short within
    (λ some. omega (arith, (dualcast_within memory job whole some).0)) in
    let other = put_in_second (span job.target job.size) job.extra job.size [] 0 k (length memory.bytes) copied short within
    (λ some. omega (arith, (dualcast_within memory job whole some).1)) in (
      subst (λ address. PutIn (writes Dualcast job) (length memory.bytes) (put_of address copied)) (at_start job.target) one,
      (subst (λ address. PutIn (writes Dualcast job) (length memory.bytes) (put_of address copied)) (at_start job.extra) other, tt),
    )

pub dualcast_framed : IsFramed Dualcast
dualcast_framed = record { agree = dualcast_agree; puts_in = dualcast_puts }
