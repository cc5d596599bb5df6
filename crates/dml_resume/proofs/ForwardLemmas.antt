-- A job that goes forward: what is left, on the image that the fault left with the page, ends as the whole job does.
use Rattle.std.proofs.Common.{◌≡◌, ℕ, ◌+◌, Bool, true, false, not, ◌&&◌, List, [], ◌∷◌, length, refl, sym, ◌∙◌, ap, ap₂, arith}
use Rattle.std.proofs.lemmas.Bool.{and_parts}
use Rattle.dml_types.specs.declared.jobs.Job.{Job}
use Rattle.dml_types.specs.declared.operations.Direction.{Direction}
use Rattle.dml_types.specs.declared.operations.Direction.TheVariants.{Forward}
use Rattle.dml_types.specs.declared.operations.Op.{Op}
use Rattle.dml_types.specs.declared.operations.Op.TheVariants.{NoOp, Move, Fill, Compare, ComparePattern, CreateDelta, ApplyDelta, Dualcast}
use Rattle.dml_types.specs.declared.records.Record.{Record}
use Rattle.dml_types.specs.Memory.{Memory, has, has_all, present_bytes, bytes_at, worked_offset, put, Put, put_of, puts_made}
use Rattle.dml_types.specs.Effect.{effect_of, stopped_at}
use Rattle.dml_types.specs.Bytewise.{operation_direction, result_of, lowest_done, faults_at, length_of, pattern_bytes, moved, dualcast, filled, compared, compare_answer}
use Rattle.dml_types.specs.Step.{operation_effect}
use Rattle.dml_types.proofs.FirstLemmas.{first_agree}
use Rattle.dml_types.proofs.MemoryLemmas.{has_all_from}
use Rattle.dml_image.specs.Brought.{brought}
use Rattle.dml_segments.proofs.PatternLemmas.{length_pattern_bytes}
use Rattle.dml_resume.specs.Resuming.{can_go_on}
use Rattle.dml_resume.proofs.BroughtLemmas.{IsToBring, read_kept, put_then_brought}
use Rattle.dml_resume.proofs.BehindLemmas.{passes_before}
use Rattle.dml_resume.proofs.PresentLemmas.{length_present, whole_after_put}

-- what a job that goes forward puts and answers, where it comes to offset k
abbrev pub up_puts : Op → Memory → Job → ℕ → List Put
up_puts Move memory job k = put_of job.target (bytes_at memory job.source k) ∷ []
up_puts Fill memory job k = put_of job.target (pattern_bytes job.source k) ∷ []
up_puts Dualcast memory job k =
    put_of job.target (bytes_at memory job.source k) ∷ put_of job.extra (bytes_at memory job.source k) ∷ []
up_puts _ memory job k = []

abbrev pub up_answer : Op → Memory → Job → ℕ → Record
up_answer Compare memory job k = compare_answer memory job k (faults_at Compare job k)
up_answer ComparePattern memory job k = compare_answer memory job k (faults_at ComparePattern job k)
up_answer op memory job k = stopped_at memory job 0 k (faults_at op job k)

and_true : (b : Bool) → (b && true) ≡ b
and_true true = refl
and_true false = refl

pub up_effect : (op : Op) (memory : Memory) (job : Job) → can_go_on op ≡ true → operation_direction op job ≡ Forward → operation_effect op memory job ≡ effect_of (up_puts op memory job (length_of op memory job)) (up_answer op memory job (length_of op memory job))
unfolding moved dualcast filled compared
up_effect NoOp memory job can is = absurd (cc)
up_effect Move memory job can is =
    let k = length_of Move memory job in
    let target : job.target + 0 ≡ job.target = omega arith in
    let source : job.source + 0 ≡ job.source = omega arith in
    ap (λ (d : Direction). effect_of (put_of (job.target + lowest_done d job.size k) (bytes_at memory (job.source + lowest_done d job.size k) k) ∷ []) (stopped_at memory job (result_of d) k (faults_at Move job (worked_offset d job.size k)))) is
    ∙ ap₂ (λ (t s : ℕ). effect_of (put_of t (bytes_at memory s k) ∷ []) (stopped_at memory job 0 k (faults_at Move job k))) target source
up_effect Fill memory job can is =
    let same : present_bytes memory job.target job.size ≡ length_of Fill memory job =
    first_agree job.size (λ i. not (has memory (job.target + i))) (λ i. not (has memory (job.target + i) && true)) (λ i below. ap not (sym (and_true (has memory (job.target + i))))) in
    ap (λ (k : ℕ). effect_of (put_of job.target (pattern_bytes job.source k) ∷ []) (stopped_at memory job 0 k (faults_at Fill job k))) same
up_effect Compare memory job can is = refl
up_effect ComparePattern memory job can is = refl
up_effect CreateDelta memory job can is = absurd (cc)
up_effect ApplyDelta memory job can is = absurd (cc)
up_effect Dualcast memory job can is = refl

-- what was done was present
module _ (memory : Memory) (job : Job) where
  pub move_source : operation_direction Move job ≡ Forward → has_all memory job.source (length_of Move memory job) ≡ true
  move_source is = has_all_from memory job.source (length_of Move memory job) (λ i below. (and_parts _ _ (passes_before Move memory job is i below)).0)

  pub move_target : operation_direction Move job ≡ Forward → has_all memory job.target (length_of Move memory job) ≡ true
  move_target is = has_all_from memory job.target (length_of Move memory job) (λ i below. (and_parts _ _ (and_parts _ _ (passes_before Move memory job is i below)).1).0)

  pub fill_target : has_all memory job.target (length_of Fill memory job) ≡ true
  fill_target = has_all_from memory job.target (length_of Fill memory job) (λ i below. (and_parts _ _ (passes_before Fill memory job refl i below)).0)

  pub dualcast_source : has_all memory job.source (length_of Dualcast memory job) ≡ true
  dualcast_source = has_all_from memory job.source (length_of Dualcast memory job) (λ i below. (and_parts _ _ (passes_before Dualcast memory job refl i below)).0)

  pub dualcast_target : has_all memory job.target (length_of Dualcast memory job) ≡ true
  dualcast_target = has_all_from memory job.target (length_of Dualcast memory job) (λ i below. (and_parts _ _ (and_parts _ _ (passes_before Dualcast memory job refl i below)).1).0)

  pub dualcast_second : has_all memory job.extra (length_of Dualcast memory job) ≡ true
  dualcast_second = has_all_from memory job.extra (length_of Dualcast memory job) (λ i below. (and_parts _ _ (and_parts _ _ (and_parts _ _ (passes_before Dualcast memory job refl i below)).1).1).0)

-- the first part's puts and then the page are the page and then these puts
has_put : (memory : Memory) (address : ℕ) (xs : List ℕ) (n : ℕ) → length xs ≡ n → has_all memory address n ≡ true → has_all memory address (length xs) ≡ true
has_put memory address xs n long all = ap (has_all memory address) long ∙ all

pub up_brought : (op : Op) (memory : Memory) (page : ℕ) (bytes : List ℕ) → IsToBring memory page bytes → (job : Job) → can_go_on op ≡ true → operation_direction op job ≡ Forward → brought (puts_made memory (up_puts op memory job (length_of op memory job))) page bytes ≡ puts_made (brought memory page bytes) (up_puts op (brought memory page bytes) job (length_of op memory job))
up_brought NoOp memory page bytes b job can is = absurd (cc)
up_brought Move memory page bytes b job can is =
    let k = length_of Move memory job in
    let from = move_source memory job is in
    let room = has_put memory job.target (bytes_at memory job.source k) k (length_present memory job.source k b.whole from) (move_target memory job is) in
    put_then_brought memory page bytes b job.target (bytes_at memory job.source k) room
    ∙ ap (put (brought memory page bytes) job.target) (sym (read_kept memory page bytes b job.source k from))
up_brought Fill memory page bytes b job can is =
    let k = length_of Fill memory job in
    put_then_brought memory page bytes b job.target (pattern_bytes job.source k)
    (has_put memory job.target (pattern_bytes job.source k) k (length_pattern_bytes job.source k) (fill_target memory job))
up_brought Compare memory page bytes b job can is = refl
up_brought ComparePattern memory page bytes b job can is = refl
up_brought CreateDelta memory page bytes b job can is = absurd (cc)
up_brought ApplyDelta memory page bytes b job can is = absurd (cc)
up_brought Dualcast memory page bytes b job can is =
    let with = brought memory page bytes in
    let k = length_of Dualcast memory job in
    let xs = bytes_at memory job.source k in
    let from = dualcast_source memory job in
    let long = length_present memory job.source k b.whole from in
    let first = has_put memory job.target xs k long (dualcast_target memory job) in
    let second = has_put memory job.extra xs k long (dualcast_second memory job) in
    let still : IsToBring (put memory job.target xs) page bytes = record { whole = whole_after_put memory job.target xs b.whole first; is_page = b.is_page; long = b.long; gone = b.gone } in
    put_then_brought (put memory job.target xs) page bytes still job.extra xs second
    ∙ (ap (λ m. put m job.extra xs) (put_then_brought memory page bytes b job.target xs first)
    ∙ ap (λ ys. put (put with job.target ys) job.extra ys) (sym (read_kept memory page bytes b job.source k from)))
