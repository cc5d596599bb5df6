-- A page fault of an operation that can go on always leaves a job.
use Rattle.std.proofs.Common.{◌≡◌, ◌≢◌, ℕ, ◌+◌, ◌-◌, ◌^◌, ◌<◌, ◌≤◌, Bool, true, false, not, cond, nat_eq, nat_lt, ◌&&◌, ◌++◌, Option, Some, None, is_some, option_and_then, refl, sym, ◌∙◌, ap, subst, arith, lt-ltb, ⊎_elim}
use Rattle.std.specs.List.{list_all}
use Rattle.std.proofs.lemmas.Bool.{and_from}
use Rattle.dml_types.specs.declared.jobs.Job.{Job}
use Rattle.dml_types.specs.declared.operations.Op.{Op}
use Rattle.dml_types.specs.declared.operations.Op.TheVariants.{NoOp, Move, Fill, Compare, ComparePattern, CreateDelta, ApplyDelta, Dualcast}
use Rattle.dml_types.specs.declared.records.Record.{Record}
use Rattle.dml_types.specs.Job.{op_of, reads, writes}
use Rattle.dml_types.specs.Memory.{Memory, worked_offset}
use Rattle.dml_types.specs.Bytewise.{operation_direction, length_of, passes}
use Rattle.dml_types.specs.Step.{operation_effect, step, rest, operation_rest, fitting_rest, without_front}
use Rattle.dml_types.proofs.FirstLemmas.{first_le}
use Rattle.dml_types.proofs.StepLemmas.{step_accepted}
use Rattle.dml_desc.specs.Checked.{Limits}
use Rattle.dml_desc.proofs.CheckedLemmas.{checked_where_accepted, limits_of}
use Rattle.dml_resume.specs.Resuming.{can_go_on, is_page_fault, FaultLeavesRest}
use Rattle.dml_resume.proofs.ResumeLemmas.{two_ways}
use Rattle.dml_resume.proofs.StopLemmas.{fault_accepted, forward_count, forward_early, backward_count, backward_early}

-- each address further on fits 64 bits
room : (op : Op) (job : Job) (k : ℕ) → can_go_on op ≡ true → Limits op job → k < job.size → list_all (λ range. nat_lt (range.start + k) (2 ^ 64)) (reads op job ++ writes op job) ≡ true
room NoOp job k can l below = absurd (cc)
room Move job k can l below = and_from _ _ (lt-ltb (job.source + k) (2 ^ 64) (omega (arith, l.source))) (and_from _ _ (lt-ltb (job.target + k) (2 ^ 64) (omega (arith, l.target))) refl)
room Fill job k can l below = and_from _ _ (lt-ltb (job.target + k) (2 ^ 64) (omega (arith, l.target))) refl
room Compare job k can l below = and_from _ _ (lt-ltb (job.source + k) (2 ^ 64) (omega (arith, l.source))) (and_from _ _ (lt-ltb (job.target + k) (2 ^ 64) (omega (arith, l.target))) refl)
room ComparePattern job k can l below = and_from _ _ (lt-ltb (job.source + k) (2 ^ 64) (omega (arith, l.source))) refl
room CreateDelta job k can l below = absurd (cc)
room ApplyDelta job k can l below = absurd (cc)
room Dualcast job k can l below =
    and_from _ _ (lt-ltb (job.source + k) (2 ^ 64) (omega (arith, l.source)))
    (and_from _ _ (lt-ltb (job.target + k) (2 ^ 64) (omega (arith, l.target))) (and_from _ _ (lt-ltb (job.extra + k) (2 ^ 64) (omega (arith, l.second))) refl))

has_front : (op : Op) (job : Job) (k : ℕ) → can_go_on op ≡ true → is_some (without_front op job k) ≡ true
has_front NoOp job k can = absurd (cc)
has_front Move job k can = refl
has_front Fill job k can = refl
has_front Compare job k can = refl
has_front ComparePattern job k can = refl
has_front CreateDelta job k can = absurd (cc)
has_front ApplyDelta job k can = absurd (cc)
has_front Dualcast job k can = refl

either : (b : Bool) (x : Job) (o : Option Job) → is_some o ≡ true → is_some (cond b (Some x) o) ≡ true
either true x o some = refl
either false x o some = some

has_rest_by : (op : Op) (job : Job) (answer : Record) → is_some (fitting_rest op job answer.completed) ≡ true → is_some (operation_rest op job answer) ≡ true
has_rest_by Move job answer some = either (nat_eq answer.result 1) (record job { size = job.size - answer.completed }) (fitting_rest Move job answer.completed) some
has_rest_by NoOp job answer some = some
has_rest_by Fill job answer some = some
has_rest_by Compare job answer some = some
has_rest_by ComparePattern job answer some = some
has_rest_by CreateDelta job answer some = some
has_rest_by ApplyDelta job answer some = some
has_rest_by Dualcast job answer some = some

has_rest : (op : Op) (job : Job) (answer : Record) → op_of job ≡ Some op → can_go_on op ≡ true → Limits op job → is_page_fault answer.status ≡ true → answer.completed < job.size → is_some (rest job answer) ≡ true
has_rest op job answer operation can l fault below =
    let test : (is_page_fault answer.status && nat_lt answer.completed job.size) ≡ true = and_from _ _ fault (lt-ltb answer.completed job.size below) in
    let behind : is_some (fitting_rest op job answer.completed) ≡ true =
    ap (λ (b : Bool). is_some (cond b (without_front op job answer.completed) None)) (room op job answer.completed can l below) ∙ has_front op job answer.completed can in
    ap (λ (b : Bool). is_some (cond b (option_and_then (λ op. operation_rest op job answer) (op_of job)) None)) test
    ∙ (ap (λ (o : Option Op). is_some (option_and_then (λ op. operation_rest op job answer) o)) operation
    ∙ has_rest_by op job answer behind)

early : (op : Op) (memory : Memory) (job : Job) → can_go_on op ≡ true → is_page_fault (operation_effect op memory job).answer.status ≡ true → (operation_effect op memory job).answer.completed < job.size
early op memory job can fault =
    let within : length_of op memory job ≤ job.size = first_le job.size (λ i. not (passes op memory job (worked_offset (operation_direction op job) job.size i))) in
    ⊎_elim (λ forward.
    let count = forward_count op memory job can forward in
    below (operation_effect op memory job).answer.completed (length_of op memory job) count within (forward_early op memory job can forward fault))
    (λ back.
    subst (λ (o : Op). is_page_fault (operation_effect o memory job).answer.status ≡ true → length_of o memory job ≤ job.size → (operation_effect o memory job).answer.completed < job.size) (sym back.0)
    (λ failed inside. below (operation_effect Move memory job).answer.completed (length_of Move memory job) (backward_count memory job back.1) inside (backward_early memory job back.1 failed)) fault within)
    (two_ways op job)
  where
    below : (a b : ℕ) → a ≡ b → b ≤ job.size → b ≢ job.size → a < job.size
    below a b same inside other = omega arith

pub fault_leaves_rest : FaultLeavesRest
fault_leaves_rest memory job staging op operation can fault =
    let accepted = fault_accepted memory job staging fault in
    let same : (step memory job staging).1 ≡ (operation_effect op memory job).answer = ap (λ (x : Memory × Record). x.1) (step_accepted memory job staging op accepted operation) in
    let failed : is_page_fault (operation_effect op memory job).answer.status ≡ true = subst (λ (r : Record). is_page_fault r.status ≡ true) same fault in
    ap (λ (r : Record). is_some (rest job r)) same
    ∙ has_rest op job (operation_effect op memory job).answer operation can (limits_of op job (checked_where_accepted job staging accepted) operation) failed (early op memory job can failed)
