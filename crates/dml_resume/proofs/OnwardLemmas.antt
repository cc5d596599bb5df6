-- A job that goes forward: what is left of it, with the page, ends as the whole job does.
use Rattle.std.proofs.Common.{◌≡◌, ℕ, ◌+◌, ◌<◌, ◌≤◌, true, not, List, Some, refl, sym, ◌∙◌, ap, ap₂, arith}
use Rattle.dml_types.specs.declared.jobs.Job.{Job}
use Rattle.dml_types.specs.declared.operations.Direction.TheVariants.{Forward}
use Rattle.dml_types.specs.declared.operations.Op.{Op}
use Rattle.dml_types.specs.declared.operations.Op.TheVariants.{NoOp, Move, Fill, Compare, ComparePattern, CreateDelta, ApplyDelta, Dualcast}
use Rattle.dml_types.specs.declared.records.Record.{Record}
use Rattle.dml_types.specs.Memory.{Memory, IsWhole, has_all, worked_offset, puts_made}
use Rattle.dml_types.specs.Effect.{Effect, effect_of}
use Rattle.dml_types.specs.Bytewise.{operation_direction, faults_at, length_of, passes}
use Rattle.dml_types.specs.Step.{operation_effect, without_front}
use Rattle.dml_types.proofs.FirstLemmas.{first_le}
use Rattle.dml_desc.specs.Checked.{Limits}
use Rattle.dml_image.specs.Brought.{brought}
use Rattle.dml_resume.specs.Resuming.{can_go_on}
use Rattle.dml_resume.proofs.BroughtLemmas.{IsToBring, whole_brought}
use Rattle.dml_resume.proofs.SplitLemmas.{and_more, stopped_parts}
use Rattle.dml_resume.proofs.BehindLemmas.{HasPatterns, behind, faults_behind, size_behind, forward_behind, count_behind}
use Rattle.dml_resume.proofs.ForwardLemmas.{up_puts, up_answer, up_effect, up_brought, move_source, move_target, fill_target, dualcast_source, dualcast_target, dualcast_second}
use Rattle.dml_resume.proofs.UpLemmas.{move_image, fill_image, dualcast_image, compare_parts}

-- a job that goes forward was stopped at offset k, and this is left
pub record IsLeftUp (op : Op) (memory : Memory) (page : ℕ) (bytes : List ℕ) (job left : Job) (k : ℕ) : Type 0 where
  pub page_is : IsToBring memory page bytes
  pub patterns : HasPatterns job
  pub limits : Limits op job
  pub can : can_go_on op ≡ true
  pub forward : operation_direction op job ≡ Forward
  pub front : without_front op job k ≡ Some left
  pub count : k ≡ length_of op memory job
  pub some : k < job.size

-- a job on an image, and k bytes more than it does
abbrev pub done_and_more : Op → Memory → Job → ℕ → Memory × Record
done_and_more op memory job k =
    let done = operation_effect op memory job in (puts_made memory done.puts, and_more k done.answer)

abbrev pub done_by : Op → Memory → Job → Memory × Record
done_by op memory job = let done = operation_effect op memory job in (puts_made memory done.puts, done.answer)

-- what is left sees the pages that the whole sees, and where it is a compare the same bytes
same_count : (op : Op) (with : Memory) (job left : Job) (k : ℕ) → can_go_on op ≡ true → length_of op (puts_made with (up_puts op with job k)) left ≡ length_of op with left
same_count NoOp with job left k can = absurd (cc)
same_count Move with job left k can = refl
same_count Fill with job left k can = refl
same_count Compare with job left k can = refl
same_count ComparePattern with job left k can = refl
same_count CreateDelta with job left k can = absurd (cc)
same_count ApplyDelta with job left k can = absurd (cc)
same_count Dualcast with job left k can = refl

-- the puts of both parts are those of the whole
same_image : (op : Op) (with : Memory) (job left : Job) (k m : ℕ) → IsWhole with → HasPatterns job → Limits op job → can_go_on op ≡ true → operation_direction op job ≡ Forward → without_front op job k ≡ Some left → k < job.size → length_of op with job ≡ k + m
    → let after = puts_made with (up_puts op with job k) in puts_made after (up_puts op after left m) ≡ puts_made with (up_puts op with job (k + m))
same_image NoOp with job left k m whole p limits can forward front some total = absurd (cc)
same_image Move with job left k m whole p limits can forward front some total =
    let within : k + m ≤ job.size = omega (arith, total, first_le job.size (λ i. not (passes Move with job (worked_offset (operation_direction Move job) job.size i)))) in
    let after = puts_made with (up_puts Move with job k) in
    behind Move job left k (λ l. puts_made after (up_puts Move after l m) ≡ puts_made with (up_puts Move with job (k + m))) _ front refl
    (move_image with job k m whole forward within (ap (has_all with job.source) (sym total) ∙ move_source with job forward) (ap (has_all with job.target) (sym total) ∙ move_target with job forward))
same_image Fill with job left k m whole p limits can forward front some total =
    let after = puts_made with (up_puts Fill with job k) in
    behind Fill job left k (λ l. puts_made after (up_puts Fill after l m) ≡ puts_made with (up_puts Fill with job (k + m))) _ front refl
    (fill_image with job k m whole p.source (ap (has_all with job.target) (sym total) ∙ fill_target with job))
same_image Compare with job left k m whole p limits can forward front some total = refl
same_image ComparePattern with job left k m whole p limits can forward front some total = refl
same_image CreateDelta with job left k m whole p limits can forward front some total = absurd (cc)
same_image ApplyDelta with job left k m whole p limits can forward front some total = absurd (cc)
same_image Dualcast with job left k m whole p limits can forward front some total =
    let within : k + m ≤ job.size = omega (arith, total, first_le job.size (λ i. not (passes Dualcast with job (worked_offset (operation_direction Dualcast job) job.size i)))) in
    let after = puts_made with (up_puts Dualcast with job k) in
    behind Dualcast job left k (λ l. puts_made after (up_puts Dualcast after l m) ≡ puts_made with (up_puts Dualcast with job (k + m))) _ front refl
    (dualcast_image with job k m whole limits (omega arith) within (ap (has_all with job.source) (sym total) ∙ dualcast_source with job) (ap (has_all with job.target) (sym total) ∙ dualcast_target with job) (ap (has_all with job.extra) (sym total) ∙ dualcast_second with job))

-- the records of both parts are that of the whole
same_answer : (op : Op) (with : Memory) (job left : Job) (k m : ℕ) → can_go_on op ≡ true → without_front op job k ≡ Some left → k < job.size
    → and_more k (up_answer op (puts_made with (up_puts op with job k)) left m) ≡ up_answer op with job (k + m)
same_answer NoOp with job left k m can front some = absurd (cc)
same_answer Move with job left k m can front some =
    stopped_parts with job left 0 k m (faults_at Move left m) (faults_at Move job (k + m)) (omega arith) (size_behind Move job left k front) (sym (faults_behind Move job left k m front))
same_answer Fill with job left k m can front some =
    stopped_parts with job left 0 k m (faults_at Fill left m) (faults_at Fill job (k + m)) (omega arith) (size_behind Fill job left k front) (sym (faults_behind Fill job left k m front))
same_answer Compare with job left k m can front some =
    compare_parts with job left k m (faults_at Compare left m) (faults_at Compare job (k + m)) (omega arith) (size_behind Compare job left k front)
    (behind Compare job left k (λ l. l.flags ≡ job.flags) _ front refl refl) (behind Compare job left k (λ l. l.expected ≡ job.expected) _ front refl refl) (sym (faults_behind Compare job left k m front))
same_answer ComparePattern with job left k m can front some =
    compare_parts with job left k m (faults_at ComparePattern left m) (faults_at ComparePattern job (k + m)) (omega arith) (size_behind ComparePattern job left k front)
    (behind ComparePattern job left k (λ l. l.flags ≡ job.flags) _ front refl refl) (behind ComparePattern job left k (λ l. l.expected ≡ job.expected) _ front refl refl) (sym (faults_behind ComparePattern job left k m front))
same_answer CreateDelta with job left k m can front some = absurd (cc)
same_answer ApplyDelta with job left k m can front some = absurd (cc)
same_answer Dualcast with job left k m can front some =
    stopped_parts with job left 0 k m (faults_at Dualcast left m) (faults_at Dualcast job (k + m)) (omega arith) (size_behind Dualcast job left k front) (sym (faults_behind Dualcast job left k m front))

pub forward_resumes : (op : Op) (memory : Memory) (page : ℕ) (bytes : List ℕ) (job left : Job) (k : ℕ) → IsLeftUp op memory page bytes job left k
    → done_and_more op (brought (puts_made memory (operation_effect op memory job).puts) page bytes) left k ≡ done_by op (brought memory page bytes) job
forward_resumes op memory page bytes job left k h =
    let with = brought memory page bytes in
    let m = length_of op with left in
    let after = puts_made with (up_puts op with job k) in
    let total = count_behind op memory page bytes h.page_is job left k h.patterns h.forward h.front h.count in
    let along = forward_behind op job left k (omega (arith, h.some)) h.front h.forward in
    let first : brought (puts_made memory (operation_effect op memory job).puts) page bytes ≡ after =
    ap (λ (e : Effect). brought (puts_made memory e.puts) page bytes) (up_effect op memory job h.can h.forward)
    ∙ (up_brought op memory page bytes h.page_is job h.can h.forward
    ∙ ap (λ (n : ℕ). puts_made with (up_puts op with job n)) (sym h.count)) in
    let second : operation_effect op after left ≡ effect_of (up_puts op after left m) (up_answer op after left m) =
    up_effect op after left h.can along
    ∙ ap (λ (n : ℕ). effect_of (up_puts op after left n) (up_answer op after left n)) (same_count op with job left k h.can) in
    let all : operation_effect op with job ≡ effect_of (up_puts op with job (k + m)) (up_answer op with job (k + m)) =
    up_effect op with job h.can h.forward
    ∙ ap (λ (n : ℕ). effect_of (up_puts op with job n) (up_answer op with job n)) total in
    let image = same_image op with job left k m (whole_brought memory page bytes h.page_is) h.patterns h.limits h.can h.forward h.front h.some total in
    let answer = same_answer op with job left k m h.can h.front h.some in
    ap (λ (n : Memory). done_and_more op n left k) first
    ∙ (ap (λ (e : Effect). (puts_made after e.puts, and_more k e.answer)) second
    ∙ (ap₂ (λ (n : Memory) (r : Record). (n, r)) image answer
    ∙ ap (λ (e : Effect). (puts_made with e.puts, e.answer)) (sym all)))
