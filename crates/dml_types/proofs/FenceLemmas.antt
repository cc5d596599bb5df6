-- Jobs without the fence's bit, and batches without fences.
use Rattle.std.proofs.Common.{◌≡◌, ℕ, ◌-◌, ◌*◌, ◌/◌, ◌%◌, ◌^◌, ◌<◌, false, List, [], ◌∷◌, map, refl, sym, ◌∙◌, ap, ap₂, arith}
use Rattle.std.proofs.lemmas.Bool.{or_parts}
use Rattle.std.proofs.lemmas.Bool.Decides.{nat_tests}
use Rattle.std.proofs.lemmas.Nat.{and_mask}
use Rattle.std.proofs.lemmas.Nat.Bits.{and_high_mask, and_pow}
use Rattle.std.specs.List.{list_any}
use Rattle.std.specs.Prelude.{bit_and, nat_eq}
use Rattle.dml_types.specs.Types.{Job, Op, NoOp, Move, Fill, Compare, ComparePattern, CreateDelta, ApplyDelta, Dualcast}
use Rattle.dml_types.specs.Memory.{Memory}
use Rattle.dml_types.specs.Bytewise.{compared, dualcast, faults_at, filled, length_of, moved}
use Rattle.dml_types.specs.Delta.{applied, created}
use Rattle.dml_types.specs.Step.{operation_effect}
use Rattle.dml_types.specs.Job.{is_fenced, unfenced}

low_bit : (n : ℕ) → bit_and n 1 ≡ n % 2
low_bit n = and_mask n 1

even_where_free : (n : ℕ) → nat_eq (bit_and n 1) 1 ≡ false → n % 2 ≡ 0
even_where_free n free =
    let same = low_bit n in
    grind (arith, nat_tests, same, free)

-- a word without its lowest bit, as a mask makes it
pub cleared_by_mask : (n : ℕ) → n < 2 ^ 32 → bit_and n 0xFFFFFFFE ≡ n - bit_and n 1
cleared_by_mask n small = omega (arith, and_high_mask 32 1 (omega arith) n small, low_bit n)

pub unfenced_same : (job : Job) → is_fenced job ≡ false → unfenced job ≡ job
unfenced_same job free =
    let none : job.flags - bit_and job.flags 1 ≡ job.flags =
    omega (arith, low_bit job.flags, even_where_free job.flags free) in
    ap (λ (f : ℕ). record job { flags = f }) none

-- the job that is left has no fence
pub unfenced_free : (job : Job) → is_fenced (unfenced job) ≡ false
unfenced_free job =
    let left : bit_and (job.flags - bit_and job.flags 1) 1 ≡ 0 =
    omega (arith, low_bit (job.flags - bit_and job.flags 1), low_bit job.flags) in
    ap (λ (n : ℕ). nat_eq n 1) left

pub all_unfenced_same : (jobs : List Job) → list_any is_fenced jobs ≡ false → map unfenced jobs ≡ jobs
all_unfenced_same [] none = refl
all_unfenced_same (job ∷ jobs) none =
    let parts = or_parts (is_fenced job) (list_any is_fenced jobs) none in
    ap₂ (λ (first : Job) (rest : List Job). first ∷ rest) (unfenced_same job parts.0) (all_unfenced_same jobs parts.1)

-- no operation reads the bit
abbrev check_bit : ℕ → ℕ
check_bit flags = bit_and flags 0x80

check_bit_kept : (flags : ℕ) → bit_and (flags - bit_and flags 1) 0x80 ≡ bit_and flags 0x80
check_bit_kept flags =
    let same : (flags - bit_and flags 1) / 128 ≡ flags / 128 = omega (arith, low_bit flags) in
    and_pow (flags - bit_and flags 1) 7 ∙ (ap (λ (n : ℕ). n % 2 * 128) same ∙ sym (and_pow flags 7))

compared_unfenced : (op : Op) (memory : Memory) (job : Job) → length_of op memory (unfenced job) ≡ length_of op memory job → faults_at op (unfenced job) ≡ faults_at op job → compared op memory (unfenced job) ≡ compared op memory job
unfolding compared
compared_unfenced op memory job same faults =
    let bit = check_bit_kept job.flags in
    rw (bit, same, faults) refl

created_unfenced : (memory : Memory) (job : Job) → created memory (unfenced job) ≡ created memory job
unfolding created
created_unfenced memory job =
    let bit = check_bit_kept job.flags in
    rw bit refl

moved_unfenced : (memory : Memory) (job : Job) → moved memory (unfenced job) ≡ moved memory job
unfolding moved
moved_unfenced memory job = refl

filled_unfenced : (memory : Memory) (job : Job) → filled memory (unfenced job) ≡ filled memory job
unfolding filled
filled_unfenced memory job = refl

dualcast_unfenced : (memory : Memory) (job : Job) → dualcast memory (unfenced job) ≡ dualcast memory job
unfolding dualcast
dualcast_unfenced memory job = refl

applied_unfenced : (memory : Memory) (job : Job) → applied memory (unfenced job) ≡ applied memory job
unfolding applied
applied_unfenced memory job = refl

pub effect_by_unfenced : (op : Op) (memory : Memory) (job : Job) → operation_effect op memory (unfenced job) ≡ operation_effect op memory job
effect_by_unfenced NoOp memory job = refl
effect_by_unfenced Move memory job = moved_unfenced memory job
effect_by_unfenced Fill memory job = filled_unfenced memory job
effect_by_unfenced Compare memory job = compared_unfenced Compare memory job refl refl
effect_by_unfenced ComparePattern memory job = compared_unfenced ComparePattern memory job refl refl
effect_by_unfenced CreateDelta memory job = created_unfenced memory job
effect_by_unfenced ApplyDelta memory job = applied_unfenced memory job
effect_by_unfenced Dualcast memory job = dualcast_unfenced memory job
