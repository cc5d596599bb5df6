-- The scan of a whole job is its operation's equation.
use Rattle.std.proofs.Common.{◌≡◌, ℕ, ◌+◌, ◌-◌, ◌<◌, ◌≤◌, Bool, true, false, not, ◌&&◌, List, [], ◌∷◌, length, Option, Some, None, refl, sym, ◌∙◌, ap, ap₂, subst, arith, ⊎_elim, cond, eqb, unwrap_or}
use Rattle.std.specs.Prelude.{⊤, find, option_map, ◌==◌}
use Rattle.std.proofs.lemmas.Bool.{cases_lt, eq-eqb, not-false, and_parts}
use Rattle.dml_types.specs.declared.findings.Found.{Found}
use Rattle.dml_types.specs.declared.findings.Found.TheVariants.{All, Differs, Fault as Stopped}
use Rattle.dml_types.specs.declared.jobs.Job.{Job}
use Rattle.dml_types.specs.declared.records.Record.{Record}
use Rattle.dml_types.specs.declared.operations.Direction.{Direction}
use Rattle.dml_types.specs.declared.operations.Direction.TheVariants.{Forward, Backward}
use Rattle.dml_types.specs.declared.operations.Op.{Op}
use Rattle.dml_types.specs.declared.operations.Op.TheVariants.{NoOp, Move, Fill, Compare, ComparePattern, CreateDelta, ApplyDelta, Dualcast}
use Rattle.dml_types.specs.declared.statuses.Status.TheVariants.{Success}
use Rattle.dml_types.specs.Memory.{first, Memory, IsWhole, Put, has, has_all, bytes_at, worked_offset, present_bytes, put_of, puts_made}
use Rattle.dml_types.specs.Job.{op_of, unfenced}
use Rattle.dml_types.specs.Effect.{code_of, Fault, is_clear, first_fault, read_fault, stopped_at, faulted, ended, judged}
use Rattle.dml_types.specs.Bytewise.{pattern_bytes, operation_direction, lowest_done, result_of, faults_at, length_of, moved, dualcast, filled, compare_answer, compared, passes}
use Rattle.dml_types.specs.Chunk.{fault_found, scan_done, scan_found, scan_staged, scan_offset}
use Rattle.dml_types.specs.Refusal.{need, operation_need, refusal}
use Rattle.dml_types.specs.Step.{effect, operation_effect}
use Rattle.dml_types.proofs.FirstLemmas.{first_le, first_agree, fails_before}
use Rattle.dml_types.proofs.MemoryLemmas.{bytes_at_none, has_all_from, has_all_within, length_bytes_at, present_front}
use Rattle.dml_types.proofs.MoveLemmas.{move_clear, move_within}
use Rattle.dml_desc.specs.Checked.{checked_effect, checked_step, IsChecked, KeepsRules}
use Rattle.dml_desc.proofs.CheckedLemmas.{checked_by_rules, checked_where_accepted, checked_where_accepted_free, need_within, need_within_free, checked_effect_is, checked_step_is, effect_with, unfenced_where_accepted}
use Rattle.dml_segments.proofs.PatternLemmas.{length_pattern_bytes, pattern_bytes_none}
use Rattle.dml_scan.specs.Found.{done_count}
use Rattle.dml_scan.proofs.ReachLemmas.{found_all, blocked_at, done_found, scan_done_within}
use Rattle.dml_effect.specs.Chunks.{GoesByOffsets, scan_size}
use Rattle.dml_effect.specs.Effects.{are_present, some_puts}
use Rattle.dml_effect.specs.Straight.{IsDelta, TakesStaging}
use Rattle.dml_effect.specs.Joined.{fault_by, copied_record, compared_record, scanned_record, scanned_puts, puts_when_done}
use Rattle.dml_effect.proofs.ChunkLemmas.{found_is, ends_at, stop_at}
use Rattle.dml_effect.proofs.PutLemmas.{puts_made_some, some_put, no_put}

-- a found fault tells the fault
abbrev IsTold : Fault → Type 0
IsTold fault = fault_by (code_of fault.status == 0x83) fault.address ≡ fault

abbrev AreTold : List Fault → Type 0
AreTold [] = ⊤
AreTold (fault ∷ faults) = IsTold fault × AreTold faults

first_told : (memory : Memory) (faults : List Fault) → AreTold faults → IsTold (first_fault memory faults)
first_told memory [] told = refl
first_told memory (fault ∷ faults) told =
    elim (not (has memory fault.address)) as (λ (b : Bool). IsTold (unwrap_or (cond b (Some fault) (find (λ f. not (has memory f.address)) faults)) (read_fault 0))) [
      | true ↦ told.0
      | false ↦ first_told memory faults told.1
    ]

told_faults : (op : Op) (job : Job) (i : ℕ) → AreTold (faults_at op job i)
told_faults NoOp job i = tt
told_faults Move job i = (refl, (refl, tt))
told_faults Fill job i = (refl, tt)
told_faults Compare job i = (refl, (refl, tt))
told_faults ComparePattern job i = (refl, tt)
told_faults CreateDelta job i = tt
told_faults ApplyDelta job i = tt
told_faults Dualcast job i = (refl, (refl, (refl, tt)))

-- the whole job: its offsets, how many are done, and the faults where it stops
whole_offset : (direction : Direction) (n i : ℕ) → 0 + worked_offset direction (n - 0) i ≡ worked_offset direction n i
whole_offset Forward n i = omega arith
whole_offset Backward n i = omega arith

whole_from : (direction : Direction) (n k : ℕ) → 0 + lowest_done direction (n - 0) k ≡ lowest_done direction n k
whole_from Forward n k = omega arith
whole_from Backward n k = omega arith

module _ (op : Op) (memory : Memory) (job : Job) where
  abbrev place : ℕ → ℕ
  place i = worked_offset (operation_direction op job) job.size i

  whole_done : scan_done op memory job 0 job.size ≡ first job.size (λ i. not (passes op memory job (place i)))
  whole_done =
      first_agree (job.size - 0) (λ i. not (passes op memory job (scan_offset op job 0 job.size i))) (λ i. not (passes op memory job (place i)))
      (λ i below. ap (λ (o : ℕ). not (passes op memory job o)) (whole_offset (operation_direction op job) job.size i))
      ∙ ap (λ (n : ℕ). first n (λ i. not (passes op memory job (place i)))) (omega arith)

  -- how it ended: at the end of the range, or at the offset that comes next
  whole_all : scan_done op memory job 0 job.size ≡ job.size → scan_found op memory job 0 job.size ≡ All
  whole_all is = sym (found_all op memory job 0 job.size (is ∙ omega arith))

  whole_stop : (k : ℕ) → scan_done op memory job 0 job.size ≡ k → k < job.size → scan_found op memory job 0 job.size ≡ stop_at op memory job k (place k)
  whole_stop k is short =
      found_is op memory job 0 job.size
      ∙ (ends_at op memory job (job.size - 0) (scan_offset op job 0 job.size) k is (omega arith)
      ∙ ap (stop_at op memory job k) (whole_offset (operation_direction op job) job.size k))

  whole_within : (k : ℕ) → scan_done op memory job 0 job.size ≡ k → job.size ≤ k → k ≡ job.size
  whole_within k is past = omega (arith, scan_done_within op memory job 0 job.size)

  apart : (a b : ℕ) → a < b → eqb a b ≡ false
  apart a b h = grind arith

  -- the record of a copy or a fill whose scan ended so is that of the equation
  whole_copied : (k outcome : ℕ) → ((i : ℕ) → passes op memory job i ≡ is_clear memory (faults_at op job i)) → scan_done op memory job 0 job.size ≡ k → copied_record job.size outcome (scan_found op memory job 0 job.size) ≡ stopped_at memory job outcome k (faults_at op job (place k))
  whole_copied k outcome passed is =
      let faults = faults_at op job (place k) in
      ⊎_elim (λ short.
      let blocked : is_clear memory faults ≡ false =
      ap (λ (i : ℕ). is_clear memory (faults_at op job i)) (sym (whole_offset (operation_direction op job) job.size k))
      ∙ (sym (passed (scan_offset op job 0 job.size k)) ∙ blocked_at op memory job 0 job.size k is (omega arith)) in
      ap (copied_record job.size outcome) (whole_stop k is short)
      ∙ (ap (λ (b : Bool). copied_record job.size outcome (cond b (Differs k) (fault_found k (first_fault memory faults)))) blocked
      ∙ (ap (λ (f : Fault). faulted f outcome k 0) (first_told memory faults (told_faults op job (place k)))
      ∙ ap (λ (b : Bool). cond b (ended Success outcome k 0) (faulted (first_fault memory faults) outcome k 0)) (sym (apart k job.size short)))))
      (λ past.
      let all = whole_within k is past in
      ap (copied_record job.size outcome) (whole_all (is ∙ all))
      ∙ (ap (λ (n : ℕ). ended Success outcome n 0) (sym all)
      ∙ ap (λ (b : Bool). cond b (ended Success outcome k 0) (faulted (first_fault memory faults) outcome k 0)) (sym (eq-eqb k job.size all))))
      (cases_lt k job.size)

  -- and that of a compare
  whole_compared : (k : ℕ) → scan_done op memory job 0 job.size ≡ k → compared_record job (scan_found op memory job 0 job.size) ≡ compare_answer memory job k (faults_at op job (place k))
  whole_compared k is =
      let faults = faults_at op job (place k) in
      let equal = ended (judged job (job.expected == 0)) 0 k 0 in
      let other = cond (is_clear memory faults) (ended (judged job (job.expected == 1)) 1 k 0) (faulted (first_fault memory faults) 0 k 0) in
      ⊎_elim (λ short.
      ap (compared_record job) (whole_stop k is short)
      ∙ (told k faults (first_told memory faults (told_faults op job (place k))) (is_clear memory faults)
      ∙ ap (λ (b : Bool). cond b equal other) (sym (apart k job.size short))))
      (λ past.
      let all = whole_within k is past in
      ap (compared_record job) (whole_all (is ∙ all))
      ∙ (ap (λ (n : ℕ). ended (judged job (job.expected == 0)) 0 n 0) (sym all)
      ∙ ap (λ (b : Bool). cond b equal other) (sym (eq-eqb k job.size all))))
      (cases_lt k job.size)
    where
      told : (k : ℕ) (faults : List Fault) → IsTold (first_fault memory faults) → (b : Bool)
          → compared_record job (cond b (Differs k) (fault_found k (first_fault memory faults))) ≡ cond b (ended (judged job (job.expected == 1)) 1 k 0) (faulted (first_fault memory faults) 0 k 0)
      told k faults is true = refl
      told k faults is false = ap (λ (f : Fault). faulted f 0 k 0) is

-- the equations' own counts
pub whole_move : (memory : Memory) (job : Job) → scan_done Move memory job 0 job.size ≡ length_of Move memory job
whole_move memory job = whole_done Move memory job

pub whole_dualcast : (memory : Memory) (job : Job) → scan_done Dualcast memory job 0 job.size ≡ length_of Dualcast memory job
whole_dualcast memory job = whole_done Dualcast memory job

whole_fill : (memory : Memory) (job : Job) → scan_done Fill memory job 0 job.size ≡ present_bytes memory job.target job.size
whole_fill memory job =
    whole_done Fill memory job
    ∙ first_agree job.size (λ i. not (has memory (job.target + i) && true)) (λ i. not (has memory (job.target + i)))
    (λ i below. ap not (true_right (has memory (job.target + i))))
  where
    true_right : (b : Bool) → (b && true) ≡ b
    true_right true = refl
    true_right false = refl

-- the record
abbrev AnswersSo : Memory → Job → Op → Type 0
AnswersSo memory job op =
    scanned_record op job (operation_direction op job) (scan_found op memory job 0 (scan_size op job)) ≡ (operation_effect op memory job).answer

pub answer_of_move : (memory : Memory) (job : Job) → AnswersSo memory job Move
unfolding moved
answer_of_move memory job = whole_copied Move memory job (length_of Move memory job) (result_of (operation_direction Move job)) (λ i. refl) (whole_move memory job)

answer_of_fill : (memory : Memory) (job : Job) → AnswersSo memory job Fill
unfolding filled
answer_of_fill memory job = whole_copied Fill memory job (present_bytes memory job.target job.size) 0 (λ i. refl) (whole_fill memory job)

pub answer_of_dualcast : (memory : Memory) (job : Job) → AnswersSo memory job Dualcast
unfolding dualcast
answer_of_dualcast memory job = whole_copied Dualcast memory job (length_of Dualcast memory job) 0 (λ i. refl) (whole_done Dualcast memory job)

answer_of_compare : (memory : Memory) (job : Job) → AnswersSo memory job Compare
unfolding compared
answer_of_compare memory job = whole_compared Compare memory job (length_of Compare memory job) (whole_done Compare memory job)

answer_of_pattern : (memory : Memory) (job : Job) → AnswersSo memory job ComparePattern
unfolding compared
answer_of_pattern memory job = whole_compared ComparePattern memory job (length_of ComparePattern memory job) (whole_done ComparePattern memory job)

pub scan_size_within : (op : Op) (job : Job) → scan_size op job ≤ job.size
scan_size_within op job =
    elim op as (λ (o : Op). scan_size o job ≤ job.size) [
      | NoOp ↦ omega arith
      | Move ↦ omega arith
      | Fill ↦ omega arith
      | Compare ↦ omega arith
      | ComparePattern ↦ omega arith
      | CreateDelta ↦ omega arith
      | ApplyDelta ↦ omega arith
      | Dualcast ↦ omega arith
    ]

-- the bytes done are those that the record counts
pub copied_count : (n outcome : ℕ) (found : Found) → (copied_record n outcome found).completed ≡ done_count n found
copied_count n outcome All = refl
copied_count n outcome (Differs done) = refl
copied_count n outcome (Stopped done place write) = refl

compared_count : (job : Job) (found : Found) → (compared_record job found).completed ≡ done_count job.size found
compared_count job All = refl
compared_count job (Differs done) = refl
compared_count job (Stopped done place write) = refl

pub scanned_count : (op : Op) (memory : Memory) (job : Job) (direction : Direction) → (scanned_record op job direction (scan_found op memory job 0 (scan_size op job))).completed ≡ scan_done op memory job 0 (scan_size op job)
scanned_count op memory job direction =
    elim op as (λ (o : Op). (scanned_record o job direction (scan_found o memory job 0 (scan_size o job))).completed ≡ scan_done o memory job 0 (scan_size o job)) [
      | NoOp ↦ omega (arith, scan_done_within NoOp memory job 0 0)
      | Move ↦ copied Move
      | Fill ↦ copied Fill
      | Compare ↦ compared_count job (scan_found Compare memory job 0 job.size) ∙ counted Compare
      | ComparePattern ↦ compared_count job (scan_found ComparePattern memory job 0 job.size) ∙ counted ComparePattern
      | CreateDelta ↦ copied CreateDelta
      | ApplyDelta ↦ copied ApplyDelta
      | Dualcast ↦ copied Dualcast
    ]
  where
    counted : (o : Op) → done_count job.size (scan_found o memory job 0 job.size) ≡ scan_done o memory job 0 job.size
    counted o = let long : job.size ≡ job.size - 0 = omega arith in ap (λ (n : ℕ). done_count n (scan_found o memory job 0 job.size)) long ∙ done_found o memory job 0 job.size

    copied : (o : Op) → (copied_record job.size (result_of direction) (scan_found o memory job 0 job.size)).completed ≡ scan_done o memory job 0 job.size
    copied o = copied_count job.size (result_of direction) (scan_found o memory job 0 job.size) ∙ counted o

-- the puts: none where nothing is done
pub puts_none : (op : Op) (job : Job) (direction : Direction) (k : ℕ) (bytes : List ℕ) → k ≡ 0 → scanned_puts op job direction k bytes ≡ []
puts_none op job direction k bytes none = ap (λ (b : Bool). cond b [] (puts_when_done op job direction k bytes)) (eq-eqb k 0 none)

pub puts_some : (op : Op) (job : Job) (direction : Direction) (k : ℕ) (bytes : List ℕ) → 0 < k → scanned_puts op job direction k bytes ≡ puts_when_done op job direction k bytes
puts_some op job direction k bytes some = ap (λ (b : Bool). cond b [] (puts_when_done op job direction k bytes)) (apart k some)
  where
    apart : (a : ℕ) → 0 < a → eqb a 0 ≡ false
    apart a h = grind arith

staged_of_move : (memory : Memory) (job : Job) → scan_staged Move memory job 0 job.size ≡ bytes_at memory (job.source + lowest_done (operation_direction Move job) job.size (length_of Move memory job)) (length_of Move memory job)
unfolding scan_staged
staged_of_move memory job =
    ap (λ (k : ℕ). bytes_at memory (job.source + (0 + lowest_done (operation_direction Move job) (job.size - 0) k)) k) (whole_move memory job)
    ∙ ap (λ (o : ℕ). bytes_at memory (job.source + o) (length_of Move memory job)) (whole_from (operation_direction Move job) job.size (length_of Move memory job))

staged_of_dualcast : (memory : Memory) (job : Job) → scan_staged Dualcast memory job 0 job.size ≡ bytes_at memory job.source (length_of Dualcast memory job)
unfolding scan_staged
staged_of_dualcast memory job = ap₂ (bytes_at memory) (omega arith) (whole_dualcast memory job)

-- they are those of the equation, and their bytes are present
pub record IsDone (memory : Memory) (puts : List Put) (other : List Put) : Type 0 where
  pub same : puts ≡ some_puts other
  pub present : are_present memory puts ≡ true

-- each byte of both ranges of a move that was done is present
move_clear_at : (memory : Memory) (job : Job) (j : ℕ) → j < length_of Move memory job → is_clear memory (faults_at Move job (lowest_done (operation_direction Move job) job.size (length_of Move memory job) + j)) ≡ true
move_clear_at memory job j below = there (operation_direction Move job) refl
  where
    k : ℕ
    k = length_of Move memory job

    there : (direction : Direction) → operation_direction Move job ≡ direction → is_clear memory (faults_at Move job (lowest_done (operation_direction Move job) job.size k + j)) ≡ true
    there Forward is =
        let first_offset : lowest_done (operation_direction Move job) job.size k ≡ 0 = ap (λ (d : Direction). lowest_done d job.size k) is in
        let offset : worked_offset (operation_direction Move job) job.size j ≡ j = ap (λ (d : Direction). worked_offset d job.size j) is in
        let place : lowest_done (operation_direction Move job) job.size k + j ≡ worked_offset (operation_direction Move job) job.size j = omega (arith, first_offset, offset) in
        ap (λ (o : ℕ). is_clear memory (faults_at Move job o)) place ∙ move_clear memory job j below
    there Backward is =
        let first_offset : lowest_done (operation_direction Move job) job.size k ≡ job.size - k = ap (λ (d : Direction). lowest_done d job.size k) is in
        let offset : worked_offset (operation_direction Move job) job.size (k - 1 - j) ≡ job.size - 1 - (k - 1 - j) = ap (λ (d : Direction). worked_offset d job.size (k - 1 - j)) is in
        let long : k ≤ job.size = first_le job.size (λ n. not (is_clear memory (faults_at Move job (worked_offset (operation_direction Move job) job.size n)))) in
        let place : lowest_done (operation_direction Move job) job.size k + j ≡ worked_offset (operation_direction Move job) job.size (k - 1 - j) = omega (arith, first_offset, offset, below, long) in
        ap (λ (o : ℕ). is_clear memory (faults_at Move job o)) place ∙ move_clear memory job (k - 1 - j) (omega (arith, below))

module _ (memory : Memory) (job : Job) where
  abbrev moved_from : ℕ
  moved_from = lowest_done (operation_direction Move job) job.size (length_of Move memory job)

  pub move_source : has_all memory (job.source + moved_from) (length_of Move memory job) ≡ true
  move_source =
      has_all_from memory (job.source + moved_from) (length_of Move memory job)
      (λ j below.
      let place : job.source + moved_from + j ≡ job.source + (moved_from + j) = omega arith in
      ap (has memory) place ∙ (and_parts _ _ (move_clear_at memory job j below)).0)

  pub move_target : has_all memory (job.target + moved_from) (length_of Move memory job) ≡ true
  move_target =
      has_all_from memory (job.target + moved_from) (length_of Move memory job)
      (λ j below.
      let place : job.target + moved_from + j ≡ job.target + (moved_from + j) = omega arith in
      ap (has memory) place ∙ (and_parts _ _ (and_parts _ _ (move_clear_at memory job j below)).1).0)

move_done_whole : (memory : Memory) (job : Job) → IsWhole memory → IsDone memory (scanned_puts Move job (operation_direction Move job) (length_of Move memory job) (scan_staged Move memory job 0 job.size)) (moved memory job).puts
unfolding moved
move_done_whole memory job whole =
    let k = length_of Move memory job in
    let from = lowest_done (operation_direction Move job) job.size k in
    let bytes = bytes_at memory (job.source + from) k in
    let puts = λ (xs : List ℕ). scanned_puts Move job (operation_direction Move job) k xs in
    let aim = put_of (job.target + from) bytes ∷ [] in
    subst (λ (xs : List ℕ). IsDone memory (puts xs) aim) (sym (staged_of_move memory job))
    (⊎_elim (λ some.
    let within = move_within memory job whole some in
    let long : length bytes ≡ k = length_bytes_at memory (job.source + from) k within.0 in
    let here : has_all memory (job.target + from) k ≡ true = move_target memory job in
    subst (λ (ps : List Put). IsDone memory ps aim) (sym (puts_some Move job (operation_direction Move job) k bytes some))
    (record { same = sym (some_put (job.target + from) bytes [] (omega (arith, long))); present = ap (λ (n : ℕ). has_all memory (job.target + from) n && true) long ∙ ap (λ (b : Bool). b && true) here }))
    (λ none.
    let nothing : k ≡ 0 = omega arith in
    subst (λ (ps : List Put). IsDone memory ps aim) (sym (puts_none Move job (operation_direction Move job) k bytes nothing))
    (record { same = sym (no_put (job.target + from) bytes [] (bytes_at_none memory (job.source + from) k nothing)); present = refl }))
    (cases_lt 0 k))

-- and of the three of a dualcast
module _ (memory : Memory) (job : Job) where
  dualcast_clear : (j : ℕ) → j < length_of Dualcast memory job → (has memory (job.source + j) ≡ true) × ((has memory (job.target + j) && (has memory (job.extra + j) && true)) ≡ true)
  dualcast_clear j below = and_parts _ _ (not-false (is_clear memory (faults_at Dualcast job j)) (fails_before job.size (λ i. not (is_clear memory (faults_at Dualcast job i))) j below))

  pub dualcast_source : has_all memory job.source (length_of Dualcast memory job) ≡ true
  dualcast_source = has_all_from memory job.source (length_of Dualcast memory job) (λ j below. (dualcast_clear j below).0)

  pub dualcast_target : has_all memory job.target (length_of Dualcast memory job) ≡ true
  dualcast_target = has_all_from memory job.target (length_of Dualcast memory job) (λ j below. (and_parts _ _ (dualcast_clear j below).1).0)

  pub dualcast_second : has_all memory job.extra (length_of Dualcast memory job) ≡ true
  dualcast_second = has_all_from memory job.extra (length_of Dualcast memory job) (λ j below. (and_parts _ _ (and_parts _ _ (dualcast_clear j below).1).1).0)

dualcast_done_whole : (memory : Memory) (job : Job) → IsWhole memory → IsDone memory (scanned_puts Dualcast job Forward (length_of Dualcast memory job) (scan_staged Dualcast memory job 0 job.size)) (dualcast memory job).puts
unfolding dualcast
dualcast_done_whole memory job whole =
    let k = length_of Dualcast memory job in
    let bytes = bytes_at memory job.source k in
    let puts = λ (xs : List ℕ). scanned_puts Dualcast job Forward k xs in
    let aim = put_of job.target bytes ∷ put_of job.extra bytes ∷ [] in
    subst (λ (xs : List ℕ). IsDone memory (puts xs) aim) (sym (staged_of_dualcast memory job))
    (⊎_elim (λ some.
    let source : has_all memory job.source k ≡ true = dualcast_source memory job in
    let first_here : has_all memory job.target k ≡ true = dualcast_target memory job in
    let second_here : has_all memory job.extra k ≡ true = dualcast_second memory job in
    let long : length bytes ≡ k = length_bytes_at memory job.source k (has_all_within memory job.source k whole source some) in
    let filled : 0 < length bytes = omega (arith, long) in
    subst (λ (ps : List Put). IsDone memory ps aim) (sym (puts_some Dualcast job Forward k bytes some))
    (record { same = sym (some_put job.target bytes (put_of job.extra bytes ∷ []) filled ∙ ap (λ (ps : List Put). put_of job.target bytes ∷ ps) (some_put job.extra bytes [] filled)); present = ap (λ (n : ℕ). has_all memory job.target n && (has_all memory job.extra n && true)) long ∙ ap₂ (λ (a b : Bool). a && (b && true)) first_here second_here }))
    (λ none.
    let nothing : k ≡ 0 = omega arith in
    let empty = bytes_at_none memory job.source k nothing in
    subst (λ (ps : List Put). IsDone memory ps aim) (sym (puts_none Dualcast job Forward k bytes nothing))
    (record { same = sym (no_put job.target bytes (put_of job.extra bytes ∷ []) empty ∙ no_put job.extra bytes [] empty); present = refl }))
    (cases_lt 0 k))

fill_done_whole : (memory : Memory) (job : Job) (bytes : List ℕ) → IsDone memory (scanned_puts Fill job Forward (present_bytes memory job.target job.size) bytes) (filled memory job).puts
unfolding filled
fill_done_whole memory job bytes =
    let k = present_bytes memory job.target job.size in
    let aim = put_of job.target (pattern_bytes job.source k) ∷ [] in
    ⊎_elim (λ some.
    let long : length (pattern_bytes job.source k) ≡ k = length_pattern_bytes job.source k in
    subst (λ (ps : List Put). IsDone memory ps aim) (sym (puts_some Fill job Forward k bytes some))
    (record { same = sym (some_put job.target (pattern_bytes job.source k) [] (omega (arith, long))); present = ap (λ (n : ℕ). has_all memory job.target n && true) long ∙ ap (λ (b : Bool). b && true) (present_front memory job.target job.size) }))
    (λ none.
    let nothing : k ≡ 0 = omega arith in
    subst (λ (ps : List Put). IsDone memory ps aim) (sym (puts_none Fill job Forward k bytes nothing))
    (record { same = sym (no_put job.target (pattern_bytes job.source k) [] (ap (pattern_bytes job.source) nothing ∙ sym (pattern_bytes_none job.source))); present = refl }))
    (cases_lt 0 k)

-- an operation without puts
idle_done_whole : (memory : Memory) (op : Op) (job : Job) (direction : Direction) (k : ℕ) (bytes : List ℕ) (other : List Put) → puts_when_done op job direction k bytes ≡ [] → other ≡ [] → IsDone memory (scanned_puts op job direction k bytes) other
idle_done_whole memory op job direction k bytes other none nothing =
    let empty : scanned_puts op job direction k bytes ≡ [] = either (eqb k 0) in
    record { same = empty ∙ sym (ap some_puts nothing); present = ap (are_present memory) empty }
  where
    either : (b : Bool) → cond b [] (puts_when_done op job direction k bytes) ≡ []
    either true = refl
    either false = none

pub puts_compared : (op : Op) (memory : Memory) (job : Job) → (compared op memory job).puts ≡ []
unfolding compared
puts_compared op memory job = refl

abbrev DoesItsPuts : Memory → Job → Op → Type 0
DoesItsPuts memory job op =
    IsDone memory (scanned_puts op job (operation_direction op job) (scan_done op memory job 0 (scan_size op job)) (scan_staged op memory job 0 (scan_size op job))) (operation_effect op memory job).puts

-- a checked job that is scanned, and what it does
module _ (memory : Memory) (job : Job) (op : Op) (operation : op_of job ≡ Some op) (scanned : GoesByOffsets job) where
  answer_of_effect : AnswersSo memory job op
  answer_of_effect =
      elim op as (λ (o : Op). op_of job ≡ Some o → AnswersSo memory job o) [
        | NoOp ↦ λ _. refl
        | Move ↦ λ _. answer_of_move memory job
        | Fill ↦ λ _. answer_of_fill memory job
        | Compare ↦ λ _. answer_of_compare memory job
        | ComparePattern ↦ λ _. answer_of_pattern memory job
        | CreateDelta ↦ λ is. absurd (scanned.0 is)
        | ApplyDelta ↦ λ is. absurd (scanned.1 is)
        | Dualcast ↦ λ _. answer_of_dualcast memory job
      ] operation

  pub record_of_step : IsChecked job → scanned_record op job (operation_direction op job) (scan_found op memory job 0 (scan_size op job)) ≡ (checked_step memory job).1
  record_of_step checked = answer_of_effect ∙ ap (λ (p : Memory × Record). p.1) (sym (checked_step_is memory job op checked operation))

  pub puts_of_effect : IsWhole memory → DoesItsPuts memory job op
  puts_of_effect whole =
      elim op as (λ (o : Op). op_of job ≡ Some o → DoesItsPuts memory job o) [
        | NoOp ↦ λ _. idle_done_whole memory NoOp job Forward _ (scan_staged NoOp memory job 0 0) _ refl refl
        | Move ↦ λ _. subst (λ (k : ℕ). IsDone memory (scanned_puts Move job (operation_direction Move job) k (scan_staged Move memory job 0 job.size)) (moved memory job).puts) (sym (whole_move memory job)) (move_done_whole memory job whole)
        | Fill ↦ λ _. subst (λ (k : ℕ). IsDone memory (scanned_puts Fill job Forward k (scan_staged Fill memory job 0 job.size)) (filled memory job).puts) (sym (whole_fill memory job)) (fill_done_whole memory job (scan_staged Fill memory job 0 job.size))
        | Compare ↦ λ _. idle_done_whole memory Compare job Forward _ (scan_staged Compare memory job 0 job.size) _ refl (puts_compared Compare memory job)
        | ComparePattern ↦ λ _. idle_done_whole memory ComparePattern job Forward _ (scan_staged ComparePattern memory job 0 job.size) _ refl (puts_compared ComparePattern memory job)
        | CreateDelta ↦ λ is. absurd (scanned.0 is)
        | ApplyDelta ↦ λ is. absurd (scanned.1 is)
        | Dualcast ↦ λ _. subst (λ (k : ℕ). IsDone memory (scanned_puts Dualcast job Forward k (scan_staged Dualcast memory job 0 job.size)) (dualcast memory job).puts) (sym (whole_dualcast memory job)) (dualcast_done_whole memory job whole)
      ] operation

-- a checked job's effect is its operation's, and the image after some of its puts, all but empty ones, is the step's
pub effect_of_checked : (memory : Memory) (job : Job) (op : Op) → op_of job ≡ Some op → IsChecked job → operation_effect op memory job ≡ checked_effect memory job
effect_of_checked memory job op operation checked = sym (checked_effect_is memory job op checked operation)

pub image_of_puts : (memory : Memory) (job : Job) (puts : List Put) → puts ≡ some_puts (checked_effect memory job).puts → puts_made memory puts ≡ (checked_step memory job).0
image_of_puts memory job puts is = ap (puts_made memory) is ∙ puts_made_some memory (checked_effect memory job).puts

-- a checked no-op changes nothing
pub no_op_step : (memory : Memory) (job : Job) → KeepsRules NoOp job → checked_step memory job ≡ (memory, ended Success 0 0 0)
no_op_step memory job kept = checked_step_is memory job NoOp (checked_by_rules NoOp job kept) kept.operation

-- a job that is accepted has no fence, and does the same at its own need
pub effect_at_need : (memory : Memory) (job : Job) (staging : ℕ) → refusal job staging ≡ None → effect memory job staging ≡ checked_effect memory job
effect_at_need memory job staging accepted =
    ap (λ (j : Job). effect memory j staging) (sym (unfenced_where_accepted job staging accepted))
    ∙ effect_with memory job staging (checked_where_accepted job staging accepted) (need_within job staging accepted)

pub need_under : (job : Job) (staging size : ℕ) → refusal job staging ≡ None → staging ≤ size → need job ≤ size
need_under job staging size accepted enough = omega (arith, need_within job staging accepted)

-- and a job of a batch does what it does without its fence
pub effect_of_fenced : (memory : Memory) (job : Job) (staging : ℕ) → refusal (unfenced job) staging ≡ None → effect memory (unfenced job) staging ≡ checked_effect memory job
effect_of_fenced memory job staging accepted =
    effect_with memory job staging (checked_where_accepted_free job staging accepted) (need_within_free job staging accepted)

-- the staging that a job needs is not read off its flags
need_unfenced : (job : Job) → need (unfenced job) ≡ need job
need_unfenced job =
    elim (op_of job) as (λ (o : Option Op). unwrap_or (option_map (λ op. operation_need op (unfenced job)) o) 0 ≡ unwrap_or (option_map (λ op. operation_need op job) o) 0) [
      | None ↦ refl
      | Some op ↦ same op
    ]
  where
    same : (op : Op) → operation_need op (unfenced job) ≡ operation_need op job
    same NoOp = refl
    same Move = refl
    same Fill = refl
    same Compare = refl
    same ComparePattern = refl
    same CreateDelta = refl
    same ApplyDelta = refl
    same Dualcast = refl

-- room for it without its fence is room for it
pub room_in_batch : (job : Job) (staging size : ℕ) → refusal (unfenced job) staging ≡ None → (TakesStaging (unfenced job) staging → need (unfenced job) ≤ size) → IsDelta job → need job ≤ size
room_in_batch job staging size accepted room delta =
    let free = need_unfenced job in
    let within : need (unfenced job) ≤ staging = subst (λ (n : ℕ). n ≤ staging) (sym free) (need_within_free job staging accepted) in
    ⊎_elim (λ some. subst (λ (n : ℕ). n ≤ size) free (room (delta, accepted, subst (λ (n : ℕ). 0 < n) (sym free) some, within)))
    (λ none. omega (arith, none))
    (cases_lt 0 (need job))
