-- A move reads its source as it stood before the job, whatever it overwrites on the way.
use Rattle.std.proofs.Common.{◌≡◌, ℕ, ◌+◌, ◌-◌, ◌<◌, ◌≤◌, true, not, List, length, None, Some, sym, ◌∙◌, ap, subst, arith, inl, inr, ◌⊎◌, ⊎_elim}
use Rattle.std.proofs.lemmas.Bool.{cases_lt, not-false, and_parts}
use Rattle.dml_types.specs.Types.{Job, Record, Direction, Forward, Backward, Move}
use Rattle.dml_types.specs.Job.{op_of}
use Rattle.dml_types.specs.Memory.{Memory, IsWhole, bytes_at, worked_offset, put, puts_made}
use Rattle.dml_types.specs.Refusal.{refusal}
use Rattle.dml_types.specs.Effect.{is_clear}
use Rattle.dml_types.specs.Bytewise.{operation_direction, lowest_done, faults_at, length_of, moved}
use Rattle.dml_types.specs.Step.{step}
use Rattle.dml_types.proofs.FirstLemmas.{first_le, fails_before}
use Rattle.dml_types.proofs.MemoryLemmas.{has_within, bytes_at_none, length_bytes_at, put_nil, read_written, read_beside}
use Rattle.dml_types.proofs.StepLemmas.{step_accepted}

-- each offset that was done has both bytes
pub move_clear : (memory : Memory) (job : Job) (i : ℕ) → i < length_of Move memory job → is_clear memory (faults_at Move job (worked_offset (operation_direction Move job) job.size i)) ≡ true
move_clear memory job i below =
    not-false _ (fails_before job.size (λ j. not (is_clear memory (faults_at Move job (worked_offset (operation_direction Move job) job.size j)))) i below)

-- the last address that was done, in either direction
last_done : (direction : Direction) (n k : ℕ) → 0 < k → k ≤ n → (i : ℕ) × (i < k) × (worked_offset direction n i ≡ lowest_done direction n k + (k - 1))
last_done Forward n k some within = (k - 1, omega arith, omega arith)
last_done Backward n k some within = (0, some, omega arith)

-- both ranges that were done lie in the image
pub move_within : (memory : Memory) (job : Job) → IsWhole memory → 0 < length_of Move memory job → let from = lowest_done (operation_direction Move job) job.size (length_of Move memory job) in (job.source + from + length_of Move memory job ≤ length memory.bytes) × (job.target + from + length_of Move memory job ≤ length memory.bytes)
move_within memory job whole some =
    let k = length_of Move memory job in
    let last = last_done (operation_direction Move job) job.size k some (first_le _ _) in
    let clear = and_parts _ _ (move_clear memory job last.0 last.1) in
    let other = and_parts _ _ clear.1 in
    let at_source = has_within memory _ whole clear.0 in
    let at_target = has_within memory _ whole other.0 in
    (omega (arith, last.2), omega (arith, last.2))

-- a copy of bytes of the image stands where it was put
copied : (memory : Memory) (a b k : ℕ) → (0 < k → (a + k ≤ length memory.bytes) × (b + k ≤ length memory.bytes)) → bytes_at (put memory b (bytes_at memory a k)) b k ≡ bytes_at memory a k
copied memory a b k within =
    ⊎_elim (λ some.
    let long = length_bytes_at memory a k (within some).0 in
    let room : b + length (bytes_at memory a k) ≤ length memory.bytes = omega (arith, long, (within some).1) in
    subst (λ (n : ℕ). bytes_at (put memory b (bytes_at memory a k)) b n ≡ bytes_at memory a k) long
    (read_written memory b (bytes_at memory a k) room))
    (λ none.
    let nothing : k ≡ 0 = omega arith in
    bytes_at_none (put memory b (bytes_at memory a k)) b k nothing ∙ sym (bytes_at_none memory a k nothing))
    (cases_lt 0 k)

pub moved_reads_source : (memory : Memory) (job : Job) → IsWhole memory → let k = length_of Move memory job in let from = lowest_done (operation_direction Move job) job.size k in bytes_at (puts_made memory (moved memory job).puts) (job.target + from) k ≡ bytes_at memory (job.source + from) k
unfolding moved
moved_reads_source memory job whole =
    copied memory (job.source + lowest_done (operation_direction Move job) job.size (length_of Move memory job))
    (job.target + lowest_done (operation_direction Move job) job.size (length_of Move memory job)) (length_of Move memory job)
    (λ some. let within = move_within memory job whole some in (within.0, within.1))

-- what is not in the destination's part is as before
pub moved_beside : (memory : Memory) (job : Job) (address n : ℕ) → IsWhole memory → let k = length_of Move memory job in let from = lowest_done (operation_direction Move job) job.size k in (address + n ≤ job.target + from) ⊎ (job.target + from + k ≤ address) → bytes_at (puts_made memory (moved memory job).puts) address n ≡ bytes_at memory address n
unfolding moved
moved_beside memory job address n whole apart =
    let k = length_of Move memory job in
    let from = lowest_done (operation_direction Move job) job.size k in
    ⊎_elim (λ some.
    let within = move_within memory job whole some in
    let long = length_bytes_at memory (job.source + from) k within.0 in
    read_beside memory (job.target + from) (bytes_at memory (job.source + from) k) address n (omega (arith, long, within.1))
    (⊎_elim (λ before. inl before) (λ behind. inr (omega (arith, long))) apart))
    (λ none.
    let nothing : k ≡ 0 = omega arith in
    ap (λ (bytes : List ℕ). bytes_at (put memory (job.target + from) bytes) address n) (bytes_at_none memory (job.source + from) k nothing)
    ∙ ap (λ (m : Memory). bytes_at m address n) (put_nil memory (job.target + from)))
    (cases_lt 0 k)

-- the same of a step
pub move_reads_source : (memory : Memory) (job : Job) (staging : ℕ) → IsWhole memory → op_of job ≡ Some Move → refusal job staging ≡ None → let k = length_of Move memory job in let from = lowest_done (operation_direction Move job) job.size k in bytes_at (step memory job staging).0 (job.target + from) k ≡ bytes_at memory (job.source + from) k
move_reads_source memory job staging whole is free =
    let k = length_of Move memory job in
    let from = lowest_done (operation_direction Move job) job.size k in
    ap (λ (p : Memory × Record). bytes_at p.0 (job.target + from) k) (step_accepted memory job staging Move free is)
    ∙ moved_reads_source memory job whole

pub move_beside : (memory : Memory) (job : Job) (staging address n : ℕ) → IsWhole memory → op_of job ≡ Some Move → refusal job staging ≡ None → let k = length_of Move memory job in let from = lowest_done (operation_direction Move job) job.size k in (address + n ≤ job.target + from) ⊎ (job.target + from + k ≤ address) → bytes_at (step memory job staging).0 address n ≡ bytes_at memory address n
move_beside memory job staging address n whole is free apart =
    ap (λ (p : Memory × Record). bytes_at p.0 address n) (step_accepted memory job staging Move free is)
    ∙ moved_beside memory job address n whole apart
