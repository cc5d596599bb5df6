-- What is left of a job behind its first k bytes: its offset i is the job's offset k + i.
use Rattle.std.proofs.Common.{◌≡◌, ℕ, ◌+◌, ◌-◌, ◌^◌, ◌<◌, ◌≤◌, ◌⊎◌, Bool, true, false, not, cond, nat_eq, ◌&&◌, ◌==◌, List, [], ◌∷◌, Some, refl, sym, ◌∙◌, ap, ap₂, subst, arith, ⊎_elim, inl, inr}
use Rattle.std.proofs.lemmas.Bool.{and_parts, and_from, and_cases, and_left, and_right, ltb-false, le-ltb, not-false}
use Rattle.std.proofs.lemmas.Option.{same_Some}
use Rattle.dml_types.specs.declared.jobs.Job.{Job}
use Rattle.dml_types.specs.declared.operations.Direction.{Direction}
use Rattle.dml_types.specs.declared.operations.Direction.TheVariants.{Forward, Backward}
use Rattle.dml_types.specs.declared.operations.Op.{Op}
use Rattle.dml_types.specs.declared.operations.Op.TheVariants.{NoOp, Move, Fill, Compare, ComparePattern, CreateDelta, ApplyDelta, Dualcast}
use Rattle.dml_types.specs.Memory.{first, Memory, byte_at, worked_offset}
use Rattle.dml_types.specs.Effect.{Fault, read_fault, write_fault, is_clear}
use Rattle.dml_types.specs.Bytewise.{operation_direction, faults_at, length_of, passes, pattern_byte}
use Rattle.dml_types.specs.Step.{without_front}
use Rattle.dml_types.proofs.FirstLemmas.{first_le, fails_before}
use Rattle.dml_image.specs.Brought.{brought}
use Rattle.dml_resume.proofs.BroughtLemmas.{IsToBring, byte_kept, clear_kept}
use Rattle.dml_resume.proofs.SplitLemmas.{first_rest}
use Rattle.dml_resume.proofs.TurnLemmas.{turned_byte}

shift : (a k i : ℕ) → a + (k + i) ≡ a + k + i
shift a k i = omega arith

-- what holds of the job without its front holds of what is left
pub behind : (op : Op) (job left : Job) (k : ℕ) (P : Job → Type 0) (front : Job) → without_front op job k ≡ Some left → without_front op job k ≡ Some front → P front → P left
behind op job left k P front is here holds = subst P (same_Some front left (sym here ∙ is)) holds

pub faults_behind : (op : Op) (job left : Job) (k i : ℕ) → without_front op job k ≡ Some left → faults_at op job (k + i) ≡ faults_at op left i
faults_behind NoOp job left k i is = absurd (cc)
faults_behind Move job left k i is =
    behind Move job left k (λ l. faults_at Move job (k + i) ≡ faults_at Move l i) _ is refl
    (ap₂ (λ (a b : ℕ). read_fault a ∷ write_fault b ∷ []) (shift job.source k i) (shift job.target k i))
faults_behind Fill job left k i is =
    behind Fill job left k (λ l. faults_at Fill job (k + i) ≡ faults_at Fill l i) _ is refl
    (ap (λ (a : ℕ). write_fault a ∷ []) (shift job.target k i))
faults_behind Compare job left k i is =
    behind Compare job left k (λ l. faults_at Compare job (k + i) ≡ faults_at Compare l i) _ is refl
    (ap₂ (λ (a b : ℕ). read_fault a ∷ read_fault b ∷ []) (shift job.source k i) (shift job.target k i))
faults_behind ComparePattern job left k i is =
    behind ComparePattern job left k (λ l. faults_at ComparePattern job (k + i) ≡ faults_at ComparePattern l i) _ is refl
    (ap (λ (a : ℕ). read_fault a ∷ []) (shift job.source k i))
faults_behind CreateDelta job left k i is = absurd (cc)
faults_behind ApplyDelta job left k i is = absurd (cc)
faults_behind Dualcast job left k i is =
    behind Dualcast job left k (λ l. faults_at Dualcast job (k + i) ≡ faults_at Dualcast l i) _ is refl
    (ap₂ (λ (fs : List Fault) (c : ℕ). cons_last fs c) (ap₂ (λ (a b : ℕ). read_fault a ∷ write_fault b ∷ []) (shift job.source k i) (shift job.target k i)) (shift job.extra k i))
  where
    cons_last : List Fault → ℕ → List Fault
    cons_last [] c = write_fault c ∷ []
    cons_last (f ∷ fs) c = f ∷ cons_last fs c

-- the patterns of a job are numbers of 64 bits
pub record HasPatterns (job : Job) : Type 0 where
  pub source : job.source < 2 ^ 64
  pub target : job.target < 2 ^ 64

pub passes_behind : (op : Op) (memory : Memory) (job left : Job) (k i : ℕ) → HasPatterns job → without_front op job k ≡ Some left → passes op memory job (k + i) ≡ passes op memory left i
passes_behind NoOp memory job left k i p is = absurd (cc)
passes_behind Move memory job left k i p is = ap (is_clear memory) (faults_behind Move job left k i is)
passes_behind Fill memory job left k i p is = ap (is_clear memory) (faults_behind Fill job left k i is)
passes_behind Compare memory job left k i p is =
    behind Compare job left k (λ l. passes Compare memory job (k + i) ≡ passes Compare memory l i) _ is refl
    (ap₂ (λ (a b : ℕ). is_clear memory (read_fault a ∷ read_fault b ∷ []) && (byte_at memory a == byte_at memory b)) (shift job.source k i) (shift job.target k i))
passes_behind ComparePattern memory job left k i p is =
    behind ComparePattern job left k (λ l. passes ComparePattern memory job (k + i) ≡ passes ComparePattern memory l i) _ is refl
    (ap₂ (λ (a c : ℕ). is_clear memory (read_fault a ∷ []) && (byte_at memory a == c)) (shift job.source k i) (sym (turned_byte job.target k i p.target)))
passes_behind CreateDelta memory job left k i p is = absurd (cc)
passes_behind ApplyDelta memory job left k i p is = absurd (cc)
passes_behind Dualcast memory job left k i p is = ap (is_clear memory) (faults_behind Dualcast job left k i is)

pub size_behind : (op : Op) (job left : Job) (k : ℕ) → without_front op job k ≡ Some left → left.size ≡ job.size - k
size_behind NoOp job left k is = absurd (cc)
size_behind Move job left k is = behind Move job left k (λ l. l.size ≡ job.size - k) _ is refl refl
size_behind Fill job left k is = behind Fill job left k (λ l. l.size ≡ job.size - k) _ is refl refl
size_behind Compare job left k is = behind Compare job left k (λ l. l.size ≡ job.size - k) _ is refl refl
size_behind ComparePattern job left k is = behind ComparePattern job left k (λ l. l.size ≡ job.size - k) _ is refl refl
size_behind CreateDelta job left k is = absurd (cc)
size_behind ApplyDelta job left k is = absurd (cc)
size_behind Dualcast job left k is = behind Dualcast job left k (λ l. l.size ≡ job.size - k) _ is refl refl

-- a move goes forward where its destination begins at its source or before, or behind its source
way : (b : Bool) → cond b Backward Forward ≡ Forward → b ≡ false
way true h = absurd (cc)
way false h = refl

pub forward_apart : (job : Job) → operation_direction Move job ≡ Forward → (job.target ≤ job.source) ⊎ (job.source + job.size ≤ job.target)
forward_apart job is =
    ⊎_elim (λ first. inl (ltb-false job.source job.target first)) (λ second. inr (ltb-false job.target (job.source + job.size) second))
    (and_cases _ _ (way _ is))

pub forward_from : (job : Job) → (job.target ≤ job.source) ⊎ (job.source + job.size ≤ job.target) → operation_direction Move job ≡ Forward
forward_from job apart =
    ap (λ (b : Bool). cond b Backward Forward)
    (⊎_elim (λ first. and_left _ _ (le-ltb job.source job.target first)) (λ second. and_right _ _ (le-ltb job.target (job.source + job.size) second)) apart)

pub forward_behind : (op : Op) (job left : Job) (k : ℕ) → k ≤ job.size → without_front op job k ≡ Some left → operation_direction op job ≡ Forward → operation_direction op left ≡ Forward
forward_behind NoOp job left k within is forward = refl
forward_behind Move job left k within is forward =
    behind Move job left k (λ l. operation_direction Move l ≡ Forward) _ is refl
    (forward_from (record job { source = job.source + k; target = job.target + k; size = job.size - k })
    (⊎_elim (λ below. inl (omega arith)) (λ above. inr (omega arith)) (forward_apart job forward)))
forward_behind Fill job left k within is forward = refl
forward_behind Compare job left k within is forward = refl
forward_behind ComparePattern job left k within is forward = refl
forward_behind CreateDelta job left k within is forward = refl
forward_behind ApplyDelta job left k within is forward = refl
forward_behind Dualcast job left k within is forward = refl

-- an offset that passed passes with the page
pub passes_kept : (op : Op) (memory : Memory) (page : ℕ) (bytes : List ℕ) → IsToBring memory page bytes → (job : Job) (i : ℕ) → passes op memory job i ≡ true → passes op (brought memory page bytes) job i ≡ true
passes_kept NoOp memory page bytes b job i clear = refl
passes_kept Move memory page bytes b job i clear = clear_kept memory page bytes b (faults_at Move job i) clear
passes_kept Fill memory page bytes b job i clear = clear_kept memory page bytes b (faults_at Fill job i) clear
passes_kept Compare memory page bytes b job i good =
    let parts = and_parts _ _ good in
    let first = and_parts _ _ parts.0 in
    let second = and_parts _ _ first.1 in
    let same : nat_eq (byte_at (brought memory page bytes) (job.source + i)) (byte_at (brought memory page bytes) (job.target + i)) ≡ nat_eq (byte_at memory (job.source + i)) (byte_at memory (job.target + i)) =
    ap₂ nat_eq (byte_kept memory page bytes b (job.source + i) first.0) (byte_kept memory page bytes b (job.target + i) second.0) in
    and_from _ _ (clear_kept memory page bytes b (faults_at Compare job i) parts.0) (same ∙ parts.1)
passes_kept ComparePattern memory page bytes b job i good =
    let parts = and_parts _ _ good in
    let first = and_parts _ _ parts.0 in
    let same : nat_eq (byte_at (brought memory page bytes) (job.source + i)) (pattern_byte job.target i) ≡ nat_eq (byte_at memory (job.source + i)) (pattern_byte job.target i) =
    ap (λ (x : ℕ). nat_eq x (pattern_byte job.target i)) (byte_kept memory page bytes b (job.source + i) first.0) in
    and_from _ _ (clear_kept memory page bytes b (faults_at ComparePattern job i) parts.0) (same ∙ parts.1)
passes_kept CreateDelta memory page bytes b job i clear = refl
passes_kept ApplyDelta memory page bytes b job i clear = refl
passes_kept Dualcast memory page bytes b job i clear = clear_kept memory page bytes b (faults_at Dualcast job i) clear

-- the count of a job that goes forward
pub length_up : (op : Op) (memory : Memory) (job : Job) → operation_direction op job ≡ Forward → length_of op memory job ≡ first job.size (λ i. not (passes op memory job i))
length_up op memory job is = ap (λ (d : Direction). first job.size (λ i. not (passes op memory job (worked_offset d job.size i)))) is

pub passes_before : (op : Op) (memory : Memory) (job : Job) → operation_direction op job ≡ Forward → (i : ℕ) → i < length_of op memory job → passes op memory job i ≡ true
passes_before op memory job is i below =
    let inside : i < first job.size (λ j. not (passes op memory job j)) = subst (λ (n : ℕ). i < n) (length_up op memory job is) below in
    not-false _ (fails_before job.size (λ j. not (passes op memory job j)) i inside)

-- the whole job's count, with the page, is the count before the fault and that of what is left
pub count_behind : (op : Op) (memory : Memory) (page : ℕ) (bytes : List ℕ) → IsToBring memory page bytes → (job left : Job) (k : ℕ) → HasPatterns job → operation_direction op job ≡ Forward → without_front op job k ≡ Some left → k ≡ length_of op memory job → length_of op (brought memory page bytes) job ≡ k + length_of op (brought memory page bytes) left
count_behind op memory page bytes b job left k p forward is count =
    let with = brought memory page bytes in
    let within : k ≤ job.size = omega (arith, count, first_le job.size (λ i. not (passes op memory job (worked_offset (operation_direction op job) job.size i)))) in
    let size = size_behind op job left k is in
    length_up op with job forward
    ∙ (first_rest job.size k (λ i. not (passes op with job i)) (λ i. not (passes op with left i)) within
    (λ i below. ap not (passes_kept op memory page bytes b job i (passes_before op memory job forward i (omega (arith, count)))))
    (λ i below. ap not (passes_behind op with job left k i p is))
    ∙ (ap (λ (n : ℕ). k + first n (λ i. not (passes op with left i))) (sym size)
    ∙ ap (λ n. k + n) (sym (length_up op with left (forward_behind op job left k within is forward)))))
