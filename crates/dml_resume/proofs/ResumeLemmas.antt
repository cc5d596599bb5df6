-- The law on resuming, from effects to steps.
use Rattle.std.proofs.Common.{◌≡◌, ◌⊎◌, ℕ, ◌+◌, ◌-◌, ◌/◌, ◌<◌, Bool, true, false, List, length, get_or, set, Option, Some, None, refl, sym, ◌∙◌, ap, ap₂, subst, arith, inl, inr, ⊎_elim, unwrap_or, option_map}
use Rattle.dml_types.specs.declared.jobs.Job.{Job}
use Rattle.dml_types.specs.declared.operations.Direction.{Direction}
use Rattle.dml_types.specs.declared.operations.Direction.TheVariants.{Forward, Backward}
use Rattle.dml_types.specs.declared.operations.Op.{Op}
use Rattle.dml_types.specs.declared.operations.Op.TheVariants.{NoOp, Move, Fill, Compare, ComparePattern, CreateDelta, ApplyDelta, Dualcast}
use Rattle.dml_types.specs.declared.records.Record.{Record}
use Rattle.dml_types.specs.declared.statuses.Status.TheVariants.{Success}
use Rattle.dml_types.specs.Job.{op_of}
use Rattle.dml_types.specs.Memory.{Memory, IsWhole, has, puts_made}
use Rattle.dml_types.specs.Refusal.{refusal}
use Rattle.dml_types.specs.Bytewise.{operation_direction, length_of}
use Rattle.dml_types.specs.Step.{operation_effect, step, operation_rest}
use Rattle.dml_types.proofs.MemoryLemmas.{puts_present}
use Rattle.dml_types.proofs.StepLemmas.{step_accepted}
use Rattle.dml_desc.proofs.CheckedLemmas.{checked_where_accepted, limits_of}
use Rattle.dml_image.specs.Brought.{brought}
use Rattle.dml_resume.specs.Resuming.{IsStopped, second_part, whole_job, direction_of, EndsAsWhole, ForwardResumes, BackwardResumes, FinishedResumes, ResultAgrees, RestIsAccepted, is_page_fault}
use Rattle.dml_resume.proofs.AcceptedLemmas.{accepted_behind, accepted_front, operation_behind}
use Rattle.dml_resume.proofs.BackwardLemmas.{front_of, backward_resumes, finished_resumes}
use Rattle.dml_resume.proofs.BehindLemmas.{HasPatterns}
use Rattle.dml_resume.proofs.BroughtLemmas.{IsToBring}
use Rattle.dml_resume.proofs.OnwardLemmas.{IsLeftUp, done_and_more, done_by, forward_resumes}
use Rattle.dml_resume.proofs.StopLemmas.{fault_accepted, rest_parts, rest_can, forward_front, forward_count, forward_result, forward_absent, backward_front, backward_count, backward_result, backward_absent, success_whole}

-- what is known of a stopped job, of its operation
record IsHeld (op : Op) (memory : Memory) (job : Job) (staging page : ℕ) (bytes : List ℕ) (left : Job) : Type 0 where
  whole : IsWhole memory
  patterns : HasPatterns job
  is_page : page < length memory.present
  long : length bytes ≡ 4096
  operation : op_of job ≡ Some op
  accepted : refusal job staging ≡ None
  fault : is_page_fault (operation_effect op memory job).answer.status ≡ true
  some : (operation_effect op memory job).answer.completed < job.size
  by : operation_rest op job (operation_effect op memory job).answer ≡ Some left
  in_page : (operation_effect op memory job).answer.fault / 4096 ≡ page

stopped_by : (memory : Memory) (job : Job) (staging page : ℕ) (bytes : List ℕ) (left : Job) → (s : IsStopped memory job staging page bytes left) → IsHeld (rest_parts job (step memory job staging).1 left s.left_behind).op memory job staging page bytes left
stopped_by memory job staging page bytes left s =
    let p = rest_parts job (step memory job staging).1 left s.left_behind in
    let accepted = fault_accepted memory job staging p.fault in
    let same : (step memory job staging).1 ≡ (operation_effect p.op memory job).answer = ap (λ (x : Memory × Record). x.1) (step_accepted memory job staging p.op accepted p.operation) in
    record {
      whole = s.whole;
      patterns = record { source = s.source; target = s.target };
      is_page = s.is_page;
      long = s.page_bytes;
      operation = p.operation;
      accepted = accepted;
      fault = subst (λ (r : Record). is_page_fault r.status ≡ true) same p.fault;
      some = subst (λ (r : Record). r.completed < job.size) same p.some;
      by = subst (λ (r : Record). operation_rest p.op job r ≡ Some left) same p.by;
      in_page = subst (λ (r : Record). r.fault / 4096 ≡ page) same s.in_page;
    }

-- a job goes forward, or it is a move that goes backward
pub two_ways : (op : Op) (job : Job) → (operation_direction op job ≡ Forward) ⊎ ((op ≡ Move) × (operation_direction Move job ≡ Backward))
two_ways NoOp job = inl refl
two_ways Move job =
    elim (operation_direction Move job) as (λ (d : Direction). operation_direction Move job ≡ d → (operation_direction Move job ≡ Forward) ⊎ ((Move ≡ Move) × (operation_direction Move job ≡ Backward))) [
      | Forward ↦ λ is. inl is
      | Backward ↦ λ is. inr (refl, is)
    ] refl
two_ways Fill job = inl refl
two_ways Compare job = inl refl
two_ways ComparePattern job = inl refl
two_ways CreateDelta job = inl refl
two_ways ApplyDelta job = inl refl
two_ways Dualcast job = inl refl

direction_is : (op : Op) (job : Job) → op_of job ≡ Some op → direction_of job ≡ operation_direction op job
direction_is op job operation = ap (λ (o : Option Op). unwrap_or (option_map (λ op. operation_direction op job) o) Forward) operation

-- the page that holds an absent byte is absent
page_gone : (memory : Memory) (address page : ℕ) → address / 4096 ≡ page → has memory address ≡ false → get_or memory.present page false ≡ false
page_gone memory address page in_page absent = ap (λ place. get_or memory.present place false) (sym in_page) ∙ absent

-- both parts end as the whole, the result included
record EndsAlike (first : Record) (second all : Memory × Record) : Type 0 where
  ends : EndsAsWhole first second all
  result : second.1.result ≡ all.1.result

alike : (op : Op) (job left : Job) (k : ℕ) (after with : Memory) (first : Record) (second all : Memory × Record) → first.completed ≡ k → second ≡ done_by op after left → all ≡ done_by op with job → done_and_more op after left k ≡ done_by op with job → EndsAlike first second all
alike op job left k after with first second all count part entire same = record {
  ends = record {
    image = ap (λ (p : Memory × Record). p.0) part ∙ (ap (λ (p : Memory × Record). p.0) same ∙ sym (ap (λ (p : Memory × Record). p.0) entire));
    status = ap (λ (p : Memory × Record). p.1.status) part ∙ (ap (λ (p : Memory × Record). p.1.status) same ∙ sym (ap (λ (p : Memory × Record). p.1.status) entire));
    fault = ap (λ (p : Memory × Record). p.1.fault) part ∙ (ap (λ (p : Memory × Record). p.1.fault) same ∙ sym (ap (λ (p : Memory × Record). p.1.fault) entire));
    completed = ap₂ (λ (a b : ℕ). a + b) count (ap (λ (p : Memory × Record). p.1.completed) part)
        ∙ (ap (λ (p : Memory × Record). p.1.completed) same ∙ sym (ap (λ (p : Memory × Record). p.1.completed) entire));
  };
  result = ap (λ (p : Memory × Record). p.1.result) part ∙ (ap (λ (p : Memory × Record). p.1.result) same ∙ sym (ap (λ (p : Memory × Record). p.1.result) entire));
}

module _ (op : Op) (memory : Memory) (job : Job) (staging page : ℕ) (bytes : List ℕ) (left : Job) where
  -- the image after the first part, with the page
  abbrev after : Memory
  after = brought (puts_made memory (operation_effect op memory job).puts) page bytes

  abbrev done : ℕ
  done = (operation_effect op memory job).answer.completed

  part_is : op_of job ≡ Some op → refusal job staging ≡ None → op_of left ≡ Some op → refusal left staging ≡ None → second_part memory job staging page bytes left ≡ done_by op after left
  part_is operation accepted there allowed =
      ap (λ (p : Memory × Record). step (brought p.0 page bytes) left staging) (step_accepted memory job staging op accepted operation)
      ∙ step_accepted after left staging op allowed there

  whole_is : op_of job ≡ Some op → refusal job staging ≡ None → whole_job memory job staging page bytes ≡ done_by op (brought memory page bytes) job
  whole_is operation accepted = step_accepted (brought memory page bytes) job staging op accepted operation

  first_is : op_of job ≡ Some op → refusal job staging ≡ None → (step memory job staging).1.completed ≡ done
  first_is operation accepted = ap (λ (p : Memory × Record). p.1.completed) (step_accepted memory job staging op accepted operation)

  left_up : IsHeld op memory job staging page bytes left → operation_direction op job ≡ Forward → IsLeftUp op memory page bytes job left done
  left_up h is =
      let can = rest_can op job left (operation_effect op memory job).answer h.by in
      let count = forward_count op memory job can is in
      let below : length_of op memory job < job.size = omega (arith, count, h.some) in
      record {
        page_is = record { whole = h.whole; is_page = h.is_page; long = h.long; gone = page_gone memory (operation_effect op memory job).answer.fault page h.in_page (forward_absent op memory job can is below h.fault) };
        patterns = h.patterns;
        limits = limits_of op job (checked_where_accepted job staging h.accepted) h.operation;
        can = can;
        forward = is;
        front = forward_front op job left (operation_effect op memory job).answer h.by (forward_result op memory job is);
        count = count;
        some = h.some;
      }

  forward_ends : IsHeld op memory job staging page bytes left → operation_direction op job ≡ Forward → EndsAlike (step memory job staging).1 (second_part memory job staging page bytes left) (whole_job memory job staging page bytes)
  forward_ends h is =
      let u = left_up h is in
      let there = operation_behind op job left done h.operation u.front in
      let allowed = accepted_behind op job left staging done h.operation h.accepted u.front h.some in
      alike op job left done after (brought memory page bytes) (step memory job staging).1 (second_part memory job staging page bytes left) (whole_job memory job staging page bytes)
      (first_is h.operation h.accepted) (part_is h.operation h.accepted there allowed) (whole_is h.operation h.accepted)
      (forward_resumes op memory page bytes job left done u)

-- a move that goes backward
module _ (memory : Memory) (job : Job) (staging page : ℕ) (bytes : List ℕ) (left : Job) (h : IsHeld Move memory job staging page bytes left) (is : operation_direction Move job ≡ Backward) where
  abbrev front : Job
  front = front_of job (done Move memory job staging page bytes left)

  front_is : front ≡ left
  front_is = backward_front job left (operation_effect Move memory job).answer h.by (backward_result memory job is)

  count : done Move memory job staging page bytes left ≡ length_of Move memory job
  count = backward_count memory job is

  page_is : IsToBring memory page bytes
  page_is =
      let below : length_of Move memory job < job.size = omega (arith, count, h.some) in
      record { whole = h.whole; is_page = h.is_page; long = h.long; gone = page_gone memory (operation_effect Move memory job).answer.fault page h.in_page (backward_absent memory job is below) }

  backward_allowed : refusal left staging ≡ None
  backward_allowed = subst (λ (l : Job). refusal l staging ≡ None) front_is (accepted_front job staging (done Move memory job staging page bytes left) h.operation h.accepted)

  backward_there : op_of left ≡ Some Move
  backward_there = subst (λ (l : Job). op_of l ≡ Some Move) front_is h.operation

  backward_part : second_part memory job staging page bytes left ≡ done_by Move (after Move memory job staging page bytes left) left
  backward_part = part_is Move memory job staging page bytes left h.operation h.accepted backward_there backward_allowed

  backward_ends : operation_direction Move left ≡ Backward → EndsAlike (step memory job staging).1 (second_part memory job staging page bytes left) (whole_job memory job staging page bytes)
  backward_ends again =
      let k = done Move memory job staging page bytes left in
      let still : operation_direction Move front ≡ Backward = ap (operation_direction Move) front_is ∙ again in
      alike Move job left k (after Move memory job staging page bytes left) (brought memory page bytes) (step memory job staging).1 (second_part memory job staging page bytes left) (whole_job memory job staging page bytes)
      (first_is Move memory job staging page bytes left h.operation h.accepted) backward_part (whole_is Move memory job staging page bytes left h.operation h.accepted)
      (ap (λ (l : Job). done_and_more Move (after Move memory job staging page bytes left) l k) (sym front_is) ∙ backward_resumes memory page bytes page_is job k is count still)

  finished_ends : operation_direction Move left ≡ Forward → (second_part memory job staging page bytes left).1.status ≡ Success → EndsAsWhole (step memory job staging).1 (second_part memory job staging page bytes left) (whole_job memory job staging page bytes)
  finished_ends turns success =
      let k = done Move memory job staging page bytes left in
      let with = brought memory page bytes in
      let here = after Move memory job staging page bytes left in
      let ways : operation_direction Move front ≡ Forward = ap (operation_direction Move) front_is ∙ turns in
      let ended = ap (λ (p : Memory × Record). p.1.status) (sym backward_part) ∙ success in
      let counted : length_of Move here left ≡ left.size = success_whole here left turns ended in
      let same : length_of Move here left ≡ length_of Move with left = ap (λ (present : List Bool). length_of Move (record with { present = set present page true }) left) (puts_present memory (operation_effect Move memory job).puts) in
      let end : length_of Move with front ≡ job.size - k = ap (length_of Move with) front_is ∙ (sym same ∙ (counted ∙ ap (λ (l : Job). l.size) (sym front_is))) in
      let f = finished_resumes memory page bytes page_is job k is count ways end in
      let part : second_part memory job staging page bytes left ≡ done_by Move here front = backward_part ∙ ap (done_by Move here) (sym front_is) in
      let entire = whole_is Move memory job staging page bytes left h.operation h.accepted in
      let first = first_is Move memory job staging page bytes left h.operation h.accepted in
      let sum : k + (job.size - k) ≡ job.size = omega (arith, h.some) in
      record {
        image = ap (λ (p : Memory × Record). p.0) part ∙ (f.image ∙ sym (ap (λ (p : Memory × Record). p.0) entire));
        status = ap (λ (p : Memory × Record). p.1.status) part ∙ (ap (λ (r : Record). r.status) f.left ∙ (sym (ap (λ (r : Record). r.status) f.whole) ∙ sym (ap (λ (p : Memory × Record). p.1.status) entire)));
        fault = ap (λ (p : Memory × Record). p.1.fault) part ∙ (ap (λ (r : Record). r.fault) f.left ∙ (sym (ap (λ (r : Record). r.fault) f.whole) ∙ sym (ap (λ (p : Memory × Record). p.1.fault) entire)));
        completed = ap₂ (λ (a b : ℕ). a + b) first (ap (λ (p : Memory × Record). p.1.completed) part ∙ ap (λ (r : Record). r.completed) f.left)
            ∙ (sum ∙ (sym (ap (λ (r : Record). r.completed) f.whole) ∙ sym (ap (λ (p : Memory × Record). p.1.completed) entire)));
      }

-- the clauses of the law
module _ (memory : Memory) (job : Job) (staging page : ℕ) (bytes : List ℕ) (left : Job) (s : IsStopped memory job staging page bytes left) where
  abbrev op_is : Op
  op_is = (rest_parts job (step memory job staging).1 left s.left_behind).op

  held : IsHeld op_is memory job staging page bytes left
  held = stopped_by memory job staging page bytes left s

  in_parts : (direction_of job ≡ Forward) ⊎ (direction_of left ≡ Backward) → EndsAlike (step memory job staging).1 (second_part memory job staging page bytes left) (whole_job memory job staging page bytes)
  in_parts ways =
      ⊎_elim (λ forward. forward_ends op_is memory job staging page bytes left held forward)
      (λ back.
      let h : IsHeld Move memory job staging page bytes left = subst (λ (o : Op). IsHeld o memory job staging page bytes left) back.0 held in
      ⊎_elim (λ (forward : direction_of job ≡ Forward). let clash : Forward ≡ Backward = sym forward ∙ (direction_is Move job h.operation ∙ back.1) in absurd (cc))
      (λ (again : direction_of left ≡ Backward).
      let there = backward_there memory job staging page bytes left h back.1 in
      backward_ends memory job staging page bytes left h back.1 (sym (direction_is Move left there) ∙ again)) ways)
      (two_ways op_is job)

  finished : (second_part memory job staging page bytes left).1.status ≡ Success → EndsAsWhole (step memory job staging).1 (second_part memory job staging page bytes left) (whole_job memory job staging page bytes)
  finished success =
      ⊎_elim (λ forward. (forward_ends op_is memory job staging page bytes left held forward).ends)
      (λ back.
      let h : IsHeld Move memory job staging page bytes left = subst (λ (o : Op). IsHeld o memory job staging page bytes left) back.0 held in
      ⊎_elim (λ turns. finished_ends memory job staging page bytes left h back.1 turns success)
      (λ again. (backward_ends memory job staging page bytes left h back.1 again.1).ends) (two_ways Move left))
      (two_ways op_is job)

pub forward_law : ForwardResumes
forward_law memory job staging page bytes left s forward = (in_parts memory job staging page bytes left s (inl forward)).ends

pub backward_law : BackwardResumes
backward_law memory job staging page bytes left s backward = (in_parts memory job staging page bytes left s (inr backward)).ends

pub finished_law : FinishedResumes
finished_law memory job staging page bytes left s success = finished memory job staging page bytes left s success

pub result_law : ResultAgrees
result_law memory job staging page bytes left s ways = (in_parts memory job staging page bytes left s ways).result

-- what is left of any job that a page fault stopped is not refused
pub accepted_law : RestIsAccepted
accepted_law memory job left staging is =
    let p = rest_parts job (step memory job staging).1 left is in
    let accepted = fault_accepted memory job staging p.fault in
    let same : (step memory job staging).1 ≡ (operation_effect p.op memory job).answer = ap (λ (x : Memory × Record). x.1) (step_accepted memory job staging p.op accepted p.operation) in
    let some : (operation_effect p.op memory job).answer.completed < job.size = subst (λ (r : Record). r.completed < job.size) same p.some in
    let by : operation_rest p.op job (operation_effect p.op memory job).answer ≡ Some left = subst (λ (r : Record). operation_rest p.op job r ≡ Some left) same p.by in
    ⊎_elim (λ forward.
    let front = forward_front p.op job left (operation_effect p.op memory job).answer by (forward_result p.op memory job forward) in
    accepted_behind p.op job left staging (operation_effect p.op memory job).answer.completed p.operation accepted front some)
    (λ back.
    let there : op_of job ≡ Some Move = p.operation ∙ ap Some back.0 in
    let this = subst (λ (o : Op). operation_rest o job (operation_effect o memory job).answer ≡ Some left) back.0 by in
    let front = backward_front job left (operation_effect Move memory job).answer this (backward_result memory job back.1) in
    subst (λ (l : Job). refusal l staging ≡ None) front (accepted_front job staging (operation_effect Move memory job).answer.completed there accepted))
    (two_ways p.op job)
