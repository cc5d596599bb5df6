-- A move that goes backward: what is left is its front, which ends as the whole move does where it goes backward too, or ends in success.
use Rattle.std.proofs.Common.{◌≡◌, ℕ, ◌+◌, ◌-◌, ◌<◌, ◌≤◌, Bool, true, false, not, cond, List, [], ◌∷◌, length, refl, sym, ◌∙◌, ap, ap₂, subst, arith, inl, inr, eq-eqb}
use Rattle.std.proofs.lemmas.Bool.{and_parts, not-false, ltb-true}
use Rattle.dml_types.specs.declared.jobs.Job.{Job}
use Rattle.dml_types.specs.declared.operations.Direction.{Direction}
use Rattle.dml_types.specs.declared.operations.Direction.TheVariants.{Forward, Backward}
use Rattle.dml_types.specs.declared.operations.Op.TheVariants.{Move}
use Rattle.dml_types.specs.declared.records.Record.{Record}
use Rattle.dml_types.specs.declared.statuses.Status.TheVariants.{Success}
use Rattle.dml_types.specs.Memory.{first, Memory, IsWhole, has, has_all, bytes_at, worked_offset, put, Put, put_of, puts_made}
use Rattle.dml_types.specs.Effect.{Effect, effect_of, Fault, first_fault, ended, faulted, stopped_at}
use Rattle.dml_types.specs.Bytewise.{operation_direction, result_of, lowest_done, faults_at, length_of, passes, moved}
use Rattle.dml_types.specs.Step.{operation_effect}
use Rattle.dml_types.proofs.FirstLemmas.{first_le, first_none, fails_before}
use Rattle.dml_types.proofs.MemoryLemmas.{has_all_from}
use Rattle.dml_image.specs.Brought.{brought}
use Rattle.dml_image.proofs.MoveLemmas.{range_part}
use Rattle.dml_resume.proofs.BroughtLemmas.{IsToBring, read_kept, put_then_brought, whole_brought}
use Rattle.dml_resume.proofs.SplitLemmas.{first_rest, put_parts, bytes_parts, and_more, stopped_parts}
use Rattle.dml_resume.proofs.BehindLemmas.{passes_kept, passes_before}
use Rattle.dml_resume.proofs.PresentLemmas.{Apart, length_present, read_beside_put, puts_commute}
use Rattle.dml_resume.proofs.ForwardLemmas.{up_effect}
use Rattle.dml_resume.proofs.OnwardLemmas.{done_and_more, done_by}

-- the front of a move, without the k bytes at its end
abbrev pub front_of : Job → ℕ → Job
front_of job k = record job { size = job.size - k }

way : (b : Bool) → cond b Backward Forward ≡ Backward → b ≡ true
way true h = refl
way false h = absurd (cc)

pub backward_ahead : (job : Job) → operation_direction Move job ≡ Backward → (job.source < job.target) × (job.target < job.source + job.size)
backward_ahead job is =
    let parts = and_parts _ _ (way _ is) in (ltb-true _ _ parts.0, ltb-true _ _ parts.1)

-- what a move that goes backward puts and answers, where it did k bytes
abbrev down_puts : Memory → Job → ℕ → List Put
down_puts memory job k = put_of (job.target + (job.size - k)) (bytes_at memory (job.source + (job.size - k)) k) ∷ []

abbrev down_answer : Memory → Job → ℕ → Record
down_answer memory job k = stopped_at memory job 1 k (faults_at Move job (job.size - 1 - k))

pub down_effect : (memory : Memory) (job : Job) → operation_direction Move job ≡ Backward → operation_effect Move memory job ≡ effect_of (down_puts memory job (length_of Move memory job)) (down_answer memory job (length_of Move memory job))
unfolding moved
down_effect memory job is =
    let k = length_of Move memory job in
    ap (λ (d : Direction). effect_of (put_of (job.target + lowest_done d job.size k) (bytes_at memory (job.source + lowest_done d job.size k) k) ∷ []) (stopped_at memory job (result_of d) k (faults_at Move job (worked_offset d job.size k)))) is

pub length_down : (memory : Memory) (job : Job) → operation_direction Move job ≡ Backward → length_of Move memory job ≡ first job.size (λ i. not (passes Move memory job (job.size - 1 - i)))
length_down memory job is = ap (λ (d : Direction). first job.size (λ i. not (passes Move memory job (worked_offset d job.size i)))) is

pub length_within : (memory : Memory) (job : Job) → length_of Move memory job ≤ job.size
length_within memory job = first_le job.size (λ i. not (passes Move memory job (worked_offset (operation_direction Move job) job.size i)))

passes_down : (memory : Memory) (job : Job) → operation_direction Move job ≡ Backward → (i : ℕ) → i < length_of Move memory job → passes Move memory job (job.size - 1 - i) ≡ true
passes_down memory job is i below =
    let inside : i < first job.size (λ j. not (passes Move memory job (job.size - 1 - j))) = subst (λ (n : ℕ). i < n) (length_down memory job is) below in
    not-false _ (fails_before job.size (λ j. not (passes Move memory job (job.size - 1 - j))) i inside)

-- the k bytes done, from the place where they begin, were present
done_clear : (memory : Memory) (job : Job) → operation_direction Move job ≡ Backward → (i : ℕ) → i < length_of Move memory job → passes Move memory job (job.size - length_of Move memory job + i) ≡ true
done_clear memory job is i below =
    let k = length_of Move memory job in
    let within = length_within memory job in
    let at : job.size - 1 - (k - 1 - i) ≡ job.size - k + i = omega (arith, below, within) in
    ap (passes Move memory job) (sym at) ∙ passes_down memory job is (k - 1 - i) (omega (arith, below))

down_source : (memory : Memory) (job : Job) → operation_direction Move job ≡ Backward → has_all memory (job.source + (job.size - length_of Move memory job)) (length_of Move memory job) ≡ true
down_source memory job is =
    let k = length_of Move memory job in
    has_all_from memory (job.source + (job.size - k)) k (λ i below.
    let at : job.source + (job.size - k + i) ≡ job.source + (job.size - k) + i = omega arith in
    ap (has memory) (sym at) ∙ (and_parts _ _ (done_clear memory job is i below)).0)

down_target : (memory : Memory) (job : Job) → operation_direction Move job ≡ Backward → has_all memory (job.target + (job.size - length_of Move memory job)) (length_of Move memory job) ≡ true
down_target memory job is =
    let k = length_of Move memory job in
    has_all_from memory (job.target + (job.size - k)) k (λ i below.
    let at : job.target + (job.size - k + i) ≡ job.target + (job.size - k) + i = omega arith in
    ap (has memory) (sym at) ∙ (and_parts _ _ (and_parts _ _ (done_clear memory job is i below)).1).0)

-- the first part, and then the page
down_brought : (memory : Memory) (page : ℕ) (bytes : List ℕ) → IsToBring memory page bytes → (job : Job) → operation_direction Move job ≡ Backward
    → brought (puts_made memory (down_puts memory job (length_of Move memory job))) page bytes ≡ puts_made (brought memory page bytes) (down_puts (brought memory page bytes) job (length_of Move memory job))
down_brought memory page bytes b job is =
    let k = length_of Move memory job in
    let from = down_source memory job is in
    let place = job.target + (job.size - k) in
    let room = ap (has_all memory place) (length_present memory (job.source + (job.size - k)) k b.whole from) ∙ down_target memory job is in
    put_then_brought memory page bytes b place (bytes_at memory (job.source + (job.size - k)) k) room
    ∙ ap (put (brought memory page bytes) place) (sym (read_kept memory page bytes b (job.source + (job.size - k)) k from))

-- the whole's count, by what the front does: `later` tells the front's offsets, from its end
count_down : (memory : Memory) (page : ℕ) (bytes : List ℕ) → IsToBring memory page bytes → (job : Job) (k : ℕ) → operation_direction Move job ≡ Backward → k ≡ length_of Move memory job
    → length_of Move (brought memory page bytes) job ≡ k + first (job.size - k) (λ i. not (passes Move (brought memory page bytes) (front_of job k) (job.size - k - 1 - i)))
count_down memory page bytes b job k is count =
    let with = brought memory page bytes in
    let within : k ≤ job.size = omega (arith, count, length_within memory job) in
    length_down with job is
    ∙ first_rest job.size k (λ i. not (passes Move with job (job.size - 1 - i))) (λ i. not (passes Move with (front_of job k) (job.size - k - 1 - i))) within
    (λ i below. ap not (passes_kept Move memory page bytes b job (job.size - 1 - i) (passes_down memory job is i (omega (arith, count)))))
    (λ i below. let at : job.size - 1 - (k + i) ≡ job.size - k - 1 - i = omega arith in ap (λ j. not (passes Move with job j)) at)

pub count_backward : (memory : Memory) (page : ℕ) (bytes : List ℕ) → IsToBring memory page bytes → (job : Job) (k : ℕ) → operation_direction Move job ≡ Backward → k ≡ length_of Move memory job → operation_direction Move (front_of job k) ≡ Backward
    → length_of Move (brought memory page bytes) job ≡ k + length_of Move (brought memory page bytes) (front_of job k)
count_backward memory page bytes b job k is count again =
    count_down memory page bytes b job k is count ∙ ap (λ n. k + n) (sym (length_down (brought memory page bytes) (front_of job k) again))

pub count_finished : (memory : Memory) (page : ℕ) (bytes : List ℕ) → IsToBring memory page bytes → (job : Job) (k : ℕ) → operation_direction Move job ≡ Backward → k ≡ length_of Move memory job → operation_direction Move (front_of job k) ≡ Forward
    → length_of Move (brought memory page bytes) (front_of job k) ≡ job.size - k → length_of Move (brought memory page bytes) job ≡ k + (job.size - k)
count_finished memory page bytes b job k is count turns all =
    let with = brought memory page bytes in
    count_down memory page bytes b job k is count
    ∙ ap (λ n. k + n) (first_none (job.size - k) (λ i. not (passes Move with (front_of job k) (job.size - k - 1 - i)))
    (λ i below. ap not (passes_before Move with (front_of job k) turns (job.size - k - 1 - i) (omega (arith, all)))))

-- both puts are the whole's: the front's m bytes end where the first part's k begin
both_puts : (with : Memory) (job : Job) (k m : ℕ) → IsWhole with → operation_direction Move job ≡ Backward → length_of Move with job ≡ k + m
    → let from = job.size - k - m in let after = puts_made with (down_puts with job k) in
    put after (job.target + from) (bytes_at after (job.source + from) m) ≡ puts_made with (down_puts with job (k + m))
both_puts with job k m whole is total =
    let n = job.size in
    let within : k + m ≤ n = omega (arith, total, length_within with job) in
    let from = n - k - m in
    let ahead = backward_ahead job is in
    let reads : has_all with (job.source + (n - (k + m))) (k + m) ≡ true = subst (λ (c : ℕ). has_all with (job.source + (n - c)) c ≡ true) total (down_source with job is) in
    let writes : has_all with (job.target + (n - (k + m))) (k + m) ≡ true = subst (λ (c : ℕ). has_all with (job.target + (n - c)) c ≡ true) total (down_target with job is) in
    let xs = bytes_at with (job.source + (n - k)) k in
    let ys = bytes_at with (job.source + from) m in
    let long = length_present with (job.source + (n - k)) k whole (range_part with (job.source + (n - (k + m))) (k + m) (job.source + (n - k)) k reads (omega arith) (omega arith)) in
    let more = length_present with (job.source + from) m whole (range_part with (job.source + (n - (k + m))) (k + m) (job.source + from) m reads (omega arith) (omega arith)) in
    let first = range_part with (job.target + (n - (k + m))) (k + m) (job.target + (n - k)) (length xs) writes (omega arith) (omega (arith, long)) in
    let second = range_part with (job.target + (n - (k + m))) (k + m) (job.target + from) (length ys) writes (omega arith) (omega (arith, more)) in
    let both = range_part with (job.target + (n - (k + m))) (k + m) (job.target + from) (length ys + length xs) writes (omega arith) (omega (arith, long, more)) in
    let unread : Apart (job.source + from) m (job.target + (n - k)) (length xs) = inl (omega (arith, ahead.0)) in
    let apart : Apart (job.target + (n - k)) (length xs) (job.target + from) (length ys) = inr (omega (arith, more)) in
    let beside : job.target + (n - k) ≡ job.target + from + length ys = omega (arith, more) in
    let start : from ≡ n - (k + m) = omega arith in
    let next : job.source + (n - k) ≡ job.source + from + m = omega arith in
    let count : m + k ≡ k + m = omega arith in
    ap (put (put with (job.target + (n - k)) xs) (job.target + from)) (read_beside_put with (job.target + (n - k)) xs (job.source + from) m whole first unread)
    ∙ (puts_commute with (job.target + (n - k)) xs (job.target + from) ys whole first second apart
    ∙ (put_parts with (job.target + from) (job.target + (n - k)) ys xs whole beside both
    ∙ (ap (put with (job.target + from)) (sym (bytes_parts with (job.source + from) (job.source + (n - k)) m k next))
    ∙ ap₂ (λ (f c : ℕ). put with (job.target + f) (bytes_at with (job.source + f) c)) start count)))

-- the front goes backward too
pub backward_resumes : (memory : Memory) (page : ℕ) (bytes : List ℕ) → IsToBring memory page bytes → (job : Job) (k : ℕ) → operation_direction Move job ≡ Backward → k ≡ length_of Move memory job → operation_direction Move (front_of job k) ≡ Backward
    → done_and_more Move (brought (puts_made memory (operation_effect Move memory job).puts) page bytes) (front_of job k) k ≡ done_by Move (brought memory page bytes) job
backward_resumes memory page bytes b job k is count again =
    let with = brought memory page bytes in
    let left = front_of job k in
    let m = length_of Move with left in
    let after = puts_made with (down_puts with job k) in
    let within : k ≤ job.size = omega (arith, count, length_within memory job) in
    let total = count_backward memory page bytes b job k is count again in
    let at : job.size - k - 1 - m ≡ job.size - 1 - (k + m) = omega arith in
    let first : brought (puts_made memory (operation_effect Move memory job).puts) page bytes ≡ after =
    ap (λ (e : Effect). brought (puts_made memory e.puts) page bytes) (down_effect memory job is)
    ∙ (down_brought memory page bytes b job is ∙ ap (λ (n : ℕ). puts_made with (down_puts with job n)) (sym count)) in
    let second : operation_effect Move after left ≡ effect_of (down_puts after left m) (down_answer after left m) = down_effect after left again in
    let all : operation_effect Move with job ≡ effect_of (down_puts with job (k + m)) (down_answer with job (k + m)) =
    down_effect with job is ∙ ap (λ (n : ℕ). effect_of (down_puts with job n) (down_answer with job n)) total in
    let image = both_puts with job k m (whole_brought memory page bytes b) is total in
    let answer = stopped_parts with job left 1 k m (faults_at Move left (job.size - k - 1 - m)) (faults_at Move job (job.size - 1 - (k + m))) within refl (ap (faults_at Move job) at) in
    ap (λ (n : Memory). done_and_more Move n left k) first
    ∙ (ap (λ (e : Effect). (puts_made after e.puts, and_more k e.answer)) second
    ∙ (ap₂ (λ (n : Memory) (r : Record). (n, r)) image answer
    ∙ ap (λ (e : Effect). (puts_made with e.puts, e.answer)) (sym all)))

-- the front goes forward and comes to its end
pub record IsFinished (second all : Memory × Record) (size k : ℕ) : Type 0 where
  pub image : second.0 ≡ all.0
  pub left : second.1 ≡ ended Success 0 (size - k) 0
  pub whole : all.1 ≡ ended Success 1 size 0

ended_at : (memory : Memory) (job : Job) (outcome k : ℕ) (faults : List Fault) → k ≡ job.size → stopped_at memory job outcome k faults ≡ ended Success outcome k 0
ended_at memory job outcome k faults end =
    ap (λ (b : Bool). cond b (ended Success outcome k 0) (faulted (first_fault memory faults) outcome k 0)) (eq-eqb k job.size end)

pub finished_resumes : (memory : Memory) (page : ℕ) (bytes : List ℕ) → IsToBring memory page bytes → (job : Job) (k : ℕ) → operation_direction Move job ≡ Backward → k ≡ length_of Move memory job → operation_direction Move (front_of job k) ≡ Forward
    → length_of Move (brought memory page bytes) (front_of job k) ≡ job.size - k
    → IsFinished (done_by Move (brought (puts_made memory (operation_effect Move memory job).puts) page bytes) (front_of job k)) (done_by Move (brought memory page bytes) job) job.size k
finished_resumes memory page bytes b job k is count turns end =
    let with = brought memory page bytes in
    let left = front_of job k in
    let m = job.size - k in
    let after = puts_made with (down_puts with job k) in
    let within : k ≤ job.size = omega (arith, count, length_within memory job) in
    let total = count_finished memory page bytes b job k is count turns end in
    let sum : k + m ≡ job.size = omega arith in
    let start : job.size - k - m ≡ 0 = omega arith in
    let target : job.target + 0 ≡ job.target = omega arith in
    let source : job.source + 0 ≡ job.source = omega arith in
    let first : brought (puts_made memory (operation_effect Move memory job).puts) page bytes ≡ after =
    ap (λ (e : Effect). brought (puts_made memory e.puts) page bytes) (down_effect memory job is)
    ∙ (down_brought memory page bytes b job is ∙ ap (λ (n : ℕ). puts_made with (down_puts with job n)) (sym count)) in
    let second : operation_effect Move after left ≡ effect_of (put_of job.target (bytes_at after job.source m) ∷ []) (stopped_at after left 0 m (faults_at Move left m)) =
    up_effect Move after left refl turns
    ∙ ap (λ (n : ℕ). effect_of (put_of job.target (bytes_at after job.source n) ∷ []) (stopped_at after left 0 n (faults_at Move left n))) end in
    let all : operation_effect Move with job ≡ effect_of (down_puts with job (k + m)) (down_answer with job (k + m)) =
    down_effect with job is ∙ ap (λ (n : ℕ). effect_of (down_puts with job n) (down_answer with job n)) total in
    let image : put after job.target (bytes_at after job.source m) ≡ puts_made with (down_puts with job (k + m)) =
    sym (ap₂ (λ (t s : ℕ). put after t (bytes_at after s m)) (ap (λ f. job.target + f) start ∙ target) (ap (λ f. job.source + f) start ∙ source))
    ∙ both_puts with job k m (whole_brought memory page bytes b) is total in
    record {
      image = ap (λ (n : Memory). puts_made n (operation_effect Move n left).puts) first
          ∙ (ap (λ (e : Effect). puts_made after e.puts) second ∙ (image ∙ ap (λ (e : Effect). puts_made with e.puts) (sym all)));
      left = ap (λ (n : Memory). (operation_effect Move n left).answer) first
          ∙ (ap (λ (e : Effect). e.answer) second ∙ ended_at after left 0 m (faults_at Move left m) refl);
      whole = ap (λ (e : Effect). e.answer) all
          ∙ (ended_at with job 1 (k + m) (faults_at Move job (job.size - 1 - (k + m))) sum ∙ ap (λ (n : ℕ). ended Success 1 n 0) sum);
    }
