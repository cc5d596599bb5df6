-- What a page fault and its rest say of the job: it was accepted, its record counts the bytes done, and the fault's byte is absent.
use Rattle.std.proofs.Common.{◌≡◌, ◌≢◌, ℕ, ◌+◌, ◌-◌, ◌<◌, Bool, true, false, not, cond, nat_eq, ◌&&◌, ◌||◌, ◌==◌, List, [], ◌∷◌, Option, None, Some, find, unwrap_or, refl, sym, ◌∙◌, ap, subst, arith, eq-eqb, ne_eqb, ltb-true, eqb-true, option_and_then, bit_and}
use Rattle.std.specs.List.{list_all}
use Rattle.std.proofs.lemmas.Bool.{and_parts, not-true, false≢true}
use Rattle.std.proofs.lemmas.Option.{same_Some}
use Rattle.dml_types.specs.declared.jobs.Job.{Job}
use Rattle.dml_types.specs.declared.operations.Direction.TheVariants.{Forward, Backward}
use Rattle.dml_types.specs.declared.operations.Op.{Op}
use Rattle.dml_types.specs.declared.operations.Op.TheVariants.{NoOp, Move, Fill, Compare, ComparePattern, CreateDelta, ApplyDelta, Dualcast}
use Rattle.dml_types.specs.declared.records.Record.{Record}
use Rattle.dml_types.specs.declared.statuses.Status.{Status}
use Rattle.dml_types.specs.declared.statuses.Status.TheVariants.{Success, BadOpcode, FalsePredicate}
use Rattle.dml_types.specs.Job.{op_of}
use Rattle.dml_types.specs.Memory.{Memory, has}
use Rattle.dml_types.specs.Refusal.{rules_of, first_broken, refusal, refusal_under}
use Rattle.dml_types.specs.Effect.{Effect, Fault, read_fault, write_fault, is_clear, first_fault, ended, faulted, judged, stopped_at}
use Rattle.dml_types.specs.Bytewise.{operation_direction, faults_at, length_of, passes, compare_answer}
use Rattle.dml_types.specs.Step.{operation_effect, step, rest, operation_rest, fitting_rest, without_front}
use Rattle.dml_types.proofs.FirstLemmas.{passes_at}
use Rattle.dml_types.proofs.StepLemmas.{step_refused}
use Rattle.dml_resume.specs.Resuming.{can_go_on, is_page_fault}
use Rattle.dml_resume.proofs.BehindLemmas.{length_up}
use Rattle.dml_resume.proofs.ForwardLemmas.{up_answer, up_effect}
use Rattle.dml_resume.proofs.BackwardLemmas.{down_effect, length_down}

-- no refusal is a page fault
no_fault : (rules : List (Bool × Status)) (status : Status) → list_all (λ rule. not (is_page_fault rule.1)) rules ≡ true → first_broken rules ≡ Some status → is_page_fault status ≡ false
no_fault [] status none broken = absurd (cc)
no_fault ((true, s) ∷ rules) status none broken =
    let here = not-true (is_page_fault s) (and_parts _ _ none).0 in
    subst (λ (t : Status). is_page_fault t ≡ false) (same_Some s status broken) here
no_fault ((false, s) ∷ rules) status none broken = no_fault rules status (and_parts _ _ none).1 broken

refusal_no_fault : (o : Option Op) (job : Job) (staging : ℕ) (status : Status) → refusal_under o job staging ≡ Some status → is_page_fault status ≡ false
refusal_no_fault None job staging status is = subst (λ (t : Status). is_page_fault t ≡ false) (same_Some BadOpcode status is) refl
refusal_no_fault (Some op) job staging status is = no_fault (rules_of op job staging) status refl is

pub fault_accepted : (memory : Memory) (job : Job) (staging : ℕ) → is_page_fault (step memory job staging).1.status ≡ true → refusal job staging ≡ None
fault_accepted memory job staging fault =
    elim (refusal job staging) as (λ (r : Option Status). refusal job staging ≡ r → r ≡ None) [
      | None ↦ λ free. refl
      | Some status ↦ λ broken.
          let same : (step memory job staging).1.status ≡ status = ap (λ (p : Memory × Record). p.1.status) (step_refused memory job staging status broken) in
          absurd (false≢true (sym (refusal_no_fault (op_of job) job staging status broken) ∙ (ap is_page_fault (sym same) ∙ fault)))
    ] refl

-- what a rest says of its job and record
pub record HasRest (job : Job) (answer : Record) (left : Job) : Type 0 where
  pub op : Op
  pub operation : op_of job ≡ Some op
  pub fault : is_page_fault answer.status ≡ true
  pub some : answer.completed < job.size
  pub by : operation_rest op job answer ≡ Some left

some_of : {X : Type 0} (b : Bool) (o : Option X) (x : X) → cond b o None ≡ Some x → (b ≡ true) × (o ≡ Some x)
some_of true o x is = (refl, is)
some_of false o x is = absurd (cc)

pub rest_parts : (job : Job) (answer : Record) (left : Job) → rest job answer ≡ Some left → HasRest job answer left
rest_parts job answer left is =
    let whole = some_of _ (option_and_then (λ op. operation_rest op job answer) (op_of job)) left is in
    let test = and_parts _ _ whole.0 in
    elim (op_of job) as (λ (o : Option Op). op_of job ≡ o → option_and_then (λ op. operation_rest op job answer) o ≡ Some left → HasRest job answer left) [
      | None ↦ λ e by. absurd (cc)
      | Some op ↦ λ e by. record { op = op; operation = e; fault = test.0; some = ltb-true _ _ test.1; by = by }
    ] refl whole.1

pub behind_front : (op : Op) (job : Job) (k : ℕ) (left : Job) → fitting_rest op job k ≡ Some left → without_front op job k ≡ Some left
behind_front op job k left is = (some_of _ (without_front op job k) left is).1

-- the job goes forward: what is left is the job without its front
pub forward_front : (op : Op) (job left : Job) (answer : Record) → operation_rest op job answer ≡ Some left → (op ≡ Move → answer.result ≡ 0) → without_front op job answer.completed ≡ Some left
forward_front Move job left answer is zero =
    let test : nat_eq answer.result 1 ≡ false = ap (λ n. nat_eq n 1) (zero refl) in
    behind_front Move job answer.completed left (ap (λ (b : Bool). cond b (Some (record job { size = job.size - answer.completed })) (fitting_rest Move job answer.completed)) (sym test) ∙ is)
forward_front NoOp job left answer is zero = behind_front NoOp job answer.completed left is
forward_front Fill job left answer is zero = behind_front Fill job answer.completed left is
forward_front Compare job left answer is zero = behind_front Compare job answer.completed left is
forward_front ComparePattern job left answer is zero = behind_front ComparePattern job answer.completed left is
forward_front CreateDelta job left answer is zero = behind_front CreateDelta job answer.completed left is
forward_front ApplyDelta job left answer is zero = behind_front ApplyDelta job answer.completed left is
forward_front Dualcast job left answer is zero = behind_front Dualcast job answer.completed left is

-- it went backward: what is left is its front
pub backward_front : (job left : Job) (answer : Record) → operation_rest Move job answer ≡ Some left → answer.result ≡ 1 → record job { size = job.size - answer.completed } ≡ left
backward_front job left answer is one =
    let test : nat_eq answer.result 1 ≡ true = ap (λ n. nat_eq n 1) one in
    same_Some _ _ (ap (λ (b : Bool). cond b (Some (record job { size = job.size - answer.completed })) (fitting_rest Move job answer.completed)) (sym test) ∙ is)

pub rest_can : (op : Op) (job left : Job) (answer : Record) → operation_rest op job answer ≡ Some left → can_go_on op ≡ true
rest_can NoOp job left answer is = let front = behind_front NoOp job answer.completed left is in absurd (cc)
rest_can Move job left answer is = refl
rest_can Fill job left answer is = refl
rest_can Compare job left answer is = refl
rest_can ComparePattern job left answer is = refl
rest_can CreateDelta job left answer is = let front = behind_front CreateDelta job answer.completed left is in absurd (cc)
rest_can ApplyDelta job left answer is = let front = behind_front ApplyDelta job answer.completed left is in absurd (cc)
rest_can Dualcast job left answer is = refl

-- records count the bytes done, and tell a move's direction
either_way : (b : Bool) (x y : Record) (P : Record → Type 0) → P x → P y → P (cond b x y)
either_way true x y P here there = here
either_way false x y P here there = there

stopped_count : (memory : Memory) (job : Job) (outcome k : ℕ) (faults : List Fault) → (stopped_at memory job outcome k faults).completed ≡ k
stopped_count memory job outcome k faults =
    either_way (nat_eq k job.size) (ended Success outcome k 0) (faulted (first_fault memory faults) outcome k 0) (λ r. r.completed ≡ k) refl refl

stopped_result : (memory : Memory) (job : Job) (outcome k : ℕ) (faults : List Fault) → (stopped_at memory job outcome k faults).result ≡ outcome
stopped_result memory job outcome k faults =
    either_way (nat_eq k job.size) (ended Success outcome k 0) (faulted (first_fault memory faults) outcome k 0) (λ r. r.result ≡ outcome) refl refl

compare_count : (memory : Memory) (job : Job) (k : ℕ) (faults : List Fault) → (compare_answer memory job k faults).completed ≡ k
compare_count memory job k faults =
    let found = ended (judged job (job.expected == 1)) 1 k 0 in
    let broken = faulted (first_fault memory faults) 0 k 0 in
    either_way (nat_eq k job.size) (ended (judged job (job.expected == 0)) 0 k 0) (cond (is_clear memory faults) found broken) (λ r. r.completed ≡ k) refl
    (either_way (is_clear memory faults) found broken (λ r. r.completed ≡ k) refl refl)

up_count : (op : Op) (memory : Memory) (job : Job) (k : ℕ) → (up_answer op memory job k).completed ≡ k
up_count NoOp memory job k = stopped_count memory job 0 k []
up_count Move memory job k = stopped_count memory job 0 k (faults_at Move job k)
up_count Fill memory job k = stopped_count memory job 0 k (faults_at Fill job k)
up_count Compare memory job k = compare_count memory job k (faults_at Compare job k)
up_count ComparePattern memory job k = compare_count memory job k (faults_at ComparePattern job k)
up_count CreateDelta memory job k = stopped_count memory job 0 k []
up_count ApplyDelta memory job k = stopped_count memory job 0 k []
up_count Dualcast memory job k = stopped_count memory job 0 k (faults_at Dualcast job k)

pub forward_count : (op : Op) (memory : Memory) (job : Job) → can_go_on op ≡ true → operation_direction op job ≡ Forward → (operation_effect op memory job).answer.completed ≡ length_of op memory job
forward_count op memory job can is = ap (λ (e : Effect). e.answer.completed) (up_effect op memory job can is) ∙ up_count op memory job (length_of op memory job)

pub forward_result : (op : Op) (memory : Memory) (job : Job) → operation_direction op job ≡ Forward → op ≡ Move → (operation_effect op memory job).answer.result ≡ 0
forward_result Move memory job is _ =
    let k = length_of Move memory job in
    ap (λ (e : Effect). e.answer.result) (up_effect Move memory job refl is) ∙ stopped_result memory job 0 k (faults_at Move job k)
forward_result NoOp memory job is other = absurd (cc)
forward_result Fill memory job is other = absurd (cc)
forward_result Compare memory job is other = absurd (cc)
forward_result ComparePattern memory job is other = absurd (cc)
forward_result CreateDelta memory job is other = absurd (cc)
forward_result ApplyDelta memory job is other = absurd (cc)
forward_result Dualcast memory job is other = absurd (cc)

pub backward_count : (memory : Memory) (job : Job) → operation_direction Move job ≡ Backward → (operation_effect Move memory job).answer.completed ≡ length_of Move memory job
backward_count memory job is =
    let k = length_of Move memory job in
    ap (λ (e : Effect). e.answer.completed) (down_effect memory job is) ∙ stopped_count memory job 1 k (faults_at Move job (job.size - 1 - k))

pub backward_result : (memory : Memory) (job : Job) → operation_direction Move job ≡ Backward → (operation_effect Move memory job).answer.result ≡ 1
backward_result memory job is =
    let k = length_of Move memory job in
    ap (λ (e : Effect). e.answer.result) (down_effect memory job is) ∙ stopped_result memory job 1 k (faults_at Move job (job.size - 1 - k))

-- where an offset is not clear, the first fault there is at an absent byte
first_absent : (memory : Memory) (faults : List Fault) → is_clear memory faults ≡ false → has memory (first_fault memory faults).address ≡ false
first_absent memory [] some = absurd (cc)
first_absent memory (fault ∷ faults) some =
    elim (has memory fault.address) as (λ (b : Bool). has memory fault.address ≡ b → (b && is_clear memory faults) ≡ false → has memory (unwrap_or (cond (not b) (Some fault) (find (λ f. not (has memory f.address)) faults)) (read_fault 0)).address ≡ false) [
      | true ↦ λ here later. first_absent memory faults later
      | false ↦ λ gone later. gone
    ] refl some

stopped_absent : (memory : Memory) (job : Job) (outcome k : ℕ) (faults : List Fault) → k < job.size → is_clear memory faults ≡ false → has memory (stopped_at memory job outcome k faults).fault ≡ false
stopped_absent memory job outcome k faults below some =
    let test : nat_eq k job.size ≡ false = ne_eqb k job.size (λ e. absurd (omega arith)) in
    ap (λ (b : Bool). has memory (cond b (ended Success outcome k 0) (faulted (first_fault memory faults) outcome k 0)).fault) test
    ∙ first_absent memory faults some

judged_no_fault : (job : Job) (b : Bool) → is_page_fault (judged job b) ≡ false
judged_no_fault job b = either (not (nat_eq (bit_and job.flags 0x80) 0x80) || b)
  where
    either : (c : Bool) → is_page_fault (cond c Success FalsePredicate) ≡ false
    either true = refl
    either false = refl

compare_absent : (memory : Memory) (job : Job) (k : ℕ) (faults : List Fault) → k < job.size → is_page_fault (compare_answer memory job k faults).status ≡ true → has memory (compare_answer memory job k faults).fault ≡ false
compare_absent memory job k faults below fault =
    let test : nat_eq k job.size ≡ false = ne_eqb k job.size (λ e. absurd (omega arith)) in
    let found = ended (judged job (job.expected == 1)) 1 k 0 in
    let broken = faulted (first_fault memory faults) 0 k 0 in
    let same : compare_answer memory job k faults ≡ cond (is_clear memory faults) found broken =
    ap (λ (b : Bool). cond b (ended (judged job (job.expected == 0)) 0 k 0) (cond (is_clear memory faults) found broken)) test in
    ap (λ (r : Record). has memory r.fault) same
    ∙ at (is_clear memory faults) refl (ap (λ (r : Record). is_page_fault r.status) (sym same) ∙ fault)
  where
    at : (b : Bool) → is_clear memory faults ≡ b → is_page_fault (cond b (ended (judged job (job.expected == 1)) 1 k 0) (faulted (first_fault memory faults) 0 k 0)).status ≡ true → has memory (cond b (ended (judged job (job.expected == 1)) 1 k 0) (faulted (first_fault memory faults) 0 k 0)).fault ≡ false
    at true clear is = absurd (false≢true (sym (judged_no_fault job (job.expected == 1)) ∙ is))
    at false some is = first_absent memory faults some

-- the offset where a job stopped did not pass
up_blocked : (op : Op) (memory : Memory) (job : Job) → operation_direction op job ≡ Forward → length_of op memory job < job.size → passes op memory job (length_of op memory job) ≡ false
up_blocked op memory job is =
    let test : ℕ → Bool = λ i. not (passes op memory job i) in
    subst (λ (n : ℕ). n < job.size → passes op memory job n ≡ false) (sym (length_up op memory job is)) (λ below. not-true _ (passes_at job.size test below))

up_absent : (op : Op) (memory : Memory) (job : Job) → can_go_on op ≡ true → operation_direction op job ≡ Forward → length_of op memory job < job.size → is_page_fault (up_answer op memory job (length_of op memory job)).status ≡ true → has memory (up_answer op memory job (length_of op memory job)).fault ≡ false
up_absent NoOp memory job can is below fault = absurd (cc)
up_absent Move memory job can is below fault = stopped_absent memory job 0 (length_of Move memory job) (faults_at Move job (length_of Move memory job)) below (up_blocked Move memory job is below)
up_absent Fill memory job can is below fault = stopped_absent memory job 0 (length_of Fill memory job) (faults_at Fill job (length_of Fill memory job)) below (up_blocked Fill memory job is below)
up_absent Compare memory job can is below fault = compare_absent memory job (length_of Compare memory job) (faults_at Compare job (length_of Compare memory job)) below fault
up_absent ComparePattern memory job can is below fault = compare_absent memory job (length_of ComparePattern memory job) (faults_at ComparePattern job (length_of ComparePattern memory job)) below fault
up_absent CreateDelta memory job can is below fault = absurd (cc)
up_absent ApplyDelta memory job can is below fault = absurd (cc)
up_absent Dualcast memory job can is below fault = stopped_absent memory job 0 (length_of Dualcast memory job) (faults_at Dualcast job (length_of Dualcast memory job)) below (up_blocked Dualcast memory job is below)

-- the fault's byte is absent
pub forward_absent : (op : Op) (memory : Memory) (job : Job) → can_go_on op ≡ true → operation_direction op job ≡ Forward → length_of op memory job < job.size → is_page_fault (operation_effect op memory job).answer.status ≡ true → has memory (operation_effect op memory job).answer.fault ≡ false
forward_absent op memory job can is below fault =
    let same = up_effect op memory job can is in
    ap (λ (e : Effect). has memory e.answer.fault) same ∙ up_absent op memory job can is below (ap (λ (e : Effect). is_page_fault e.answer.status) (sym same) ∙ fault)

pub backward_absent : (memory : Memory) (job : Job) → operation_direction Move job ≡ Backward → length_of Move memory job < job.size → has memory (operation_effect Move memory job).answer.fault ≡ false
backward_absent memory job is below =
    let k = length_of Move memory job in
    let test : ℕ → Bool = λ i. not (passes Move memory job (job.size - 1 - i)) in
    let blocked : passes Move memory job (job.size - 1 - k) ≡ false =
    subst (λ (n : ℕ). n < job.size → passes Move memory job (job.size - 1 - n) ≡ false) (sym (length_down memory job is)) (λ low. not-true _ (passes_at job.size test low)) below in
    ap (λ (e : Effect). has memory e.answer.fault) (down_effect memory job is)
    ∙ stopped_absent memory job 1 k (faults_at Move job (job.size - 1 - k)) below blocked

-- where a move that goes forward ends in success it came to its end
stopped_success : (memory : Memory) (job : Job) (outcome k i : ℕ) → (stopped_at memory job outcome k (faults_at Move job i)).status ≡ Success → k ≡ job.size
stopped_success memory job outcome k i is = at (nat_eq k job.size) refl is
  where
    two : (b c : Bool) → (unwrap_or (cond b (Some (read_fault (job.source + i))) (cond c (Some (write_fault (job.target + i))) None)) (read_fault 0)).status ≡ Success → k ≡ job.size
    two true c h = absurd (cc)
    two false true h = absurd (cc)
    two false false h = absurd (cc)

    at : (b : Bool) → nat_eq k job.size ≡ b → (cond b (ended Success outcome k 0) (faulted (first_fault memory (faults_at Move job i)) outcome k 0)).status ≡ Success → k ≡ job.size
    at true test h = eqb-true _ _ test
    at false test h = two (not (has memory (job.source + i))) (not (has memory (job.target + i))) h

pub success_whole : (memory : Memory) (job : Job) → operation_direction Move job ≡ Forward → (operation_effect Move memory job).answer.status ≡ Success → length_of Move memory job ≡ job.size
success_whole memory job is success =
    let k = length_of Move memory job in
    stopped_success memory job 0 k k (ap (λ (e : Effect). e.answer.status) (sym (up_effect Move memory job refl is)) ∙ success)

-- a page fault leaves bytes
stopped_early : (memory : Memory) (job : Job) (outcome k : ℕ) (faults : List Fault) → is_page_fault (stopped_at memory job outcome k faults).status ≡ true → k ≢ job.size
stopped_early memory job outcome k faults fault end =
    let whole = ap (λ (b : Bool). is_page_fault (cond b (ended Success outcome k 0) (faulted (first_fault memory faults) outcome k 0)).status) (eq-eqb k job.size end) in
    absurd (false≢true (sym whole ∙ fault))

compare_early : (memory : Memory) (job : Job) (k : ℕ) (faults : List Fault) → is_page_fault (compare_answer memory job k faults).status ≡ true → k ≢ job.size
compare_early memory job k faults fault end =
    let found = ended (judged job (job.expected == 1)) 1 k 0 in
    let broken = faulted (first_fault memory faults) 0 k 0 in
    let whole = ap (λ (b : Bool). is_page_fault (cond b (ended (judged job (job.expected == 0)) 0 k 0) (cond (is_clear memory faults) found broken)).status) (eq-eqb k job.size end) in
    absurd (false≢true (sym (judged_no_fault job (job.expected == 0)) ∙ (sym whole ∙ fault)))

up_early : (op : Op) (memory : Memory) (job : Job) (k : ℕ) → can_go_on op ≡ true → is_page_fault (up_answer op memory job k).status ≡ true → k ≢ job.size
up_early NoOp memory job k can fault = absurd (cc)
up_early Move memory job k can fault = stopped_early memory job 0 k (faults_at Move job k) fault
up_early Fill memory job k can fault = stopped_early memory job 0 k (faults_at Fill job k) fault
up_early Compare memory job k can fault = compare_early memory job k (faults_at Compare job k) fault
up_early ComparePattern memory job k can fault = compare_early memory job k (faults_at ComparePattern job k) fault
up_early CreateDelta memory job k can fault = absurd (cc)
up_early ApplyDelta memory job k can fault = absurd (cc)
up_early Dualcast memory job k can fault = stopped_early memory job 0 k (faults_at Dualcast job k) fault

pub forward_early : (op : Op) (memory : Memory) (job : Job) → can_go_on op ≡ true → operation_direction op job ≡ Forward → is_page_fault (operation_effect op memory job).answer.status ≡ true → length_of op memory job ≢ job.size
forward_early op memory job can is fault =
    up_early op memory job (length_of op memory job) can (ap (λ (e : Effect). is_page_fault e.answer.status) (sym (up_effect op memory job can is)) ∙ fault)

pub backward_early : (memory : Memory) (job : Job) → operation_direction Move job ≡ Backward → is_page_fault (operation_effect Move memory job).answer.status ≡ true → length_of Move memory job ≢ job.size
backward_early memory job is fault =
    let k = length_of Move memory job in
    stopped_early memory job 1 k (faults_at Move job (job.size - 1 - k)) (ap (λ (e : Effect). is_page_fault e.answer.status) (sym (down_effect memory job is)) ∙ fault)
