-- What is known of a job that passed the checks: rule by rule, and as limits of its sizes and addresses.
use Rattle.std.proofs.Common.{◌≡◌, ◌≢◌, ℕ, ◌+◌, ◌<◌, ◌≤◌, ◌⊎◌, Bool, false, not, [], ◌∷◌, List, drop, Option, None, Some, nat_eq, nat_lt, refl, sym, ap, subst, ◌∙◌, arith}
use Rattle.std.specs.Prelude.{bit_and, option_map, unwrap_or}
use Rattle.std.specs.List.{list_any}
use Rattle.std.proofs.lemmas.Bool.{le-ltb, ltb-false, or_from, or_parts}
use Rattle.std.proofs.lemmas.Bool.Decides.{nat_tests}
use Rattle.std.proofs.lemmas.Nat.{and_assoc}
use Rattle.std.specs.Int.Bits.{and_zero_r}
use Rattle.dml_types.specs.declared.jobs.Job.{Job}
use Rattle.dml_types.specs.declared.spans.Span.{Span}
use Rattle.dml_types.specs.declared.operations.Op.{Op}
use Rattle.dml_types.specs.declared.operations.Op.TheVariants.{NoOp, Move, Fill, Compare, ComparePattern, CreateDelta, ApplyDelta, Dualcast}
use Rattle.dml_types.specs.declared.statuses.Status.{Status}
use Rattle.dml_types.specs.declared.statuses.Status.TheVariants.{BadFlags, BadSize, BadDeltaSize, Misaligned, DualcastBits, Overlap, RangePast, StagingRefused}
use Rattle.dml_desc.specs.Checked.{CheckedWithinLimits, checked_effect, checked_step, IsChecked, KeepsRules, Limits, PairLimits}
use Rattle.dml_types.specs.Job.{op_of, span, shares, is_past, unfenced}
use Rattle.dml_types.specs.Refusal.{first_broken, has_bad_flags, refusal, refusal_under, rules_of, need, operation_need}
use Rattle.dml_types.specs.Memory.{Memory, puts_made}
use Rattle.dml_types.specs.Effect.{Effect}
use Rattle.dml_types.specs.Step.{effect, operation_effect}
use Rattle.dml_types.proofs.FenceLemmas.{effect_by_unfenced, unfenced_free, unfenced_same}
use Rattle.dml_types.proofs.StepLemmas.{effect_accepted}
use Rattle.dml_desc.specs.RefusalLaws.{BreaksNone, IsKept}
use Rattle.dml_desc.proofs.RefusalLemmas.{accepted_where_none_broken}

-- the staging that an operation, if there is one, needs for a job
abbrev staging_under : Option Op → Job → ℕ
staging_under o job = unwrap_or (option_map (λ op. operation_need op job) o) 0

-- without the fence all rules but that of the flags are the same
abbrev free_rules : Op → Job → ℕ → List (Bool × Status)
free_rules op job staging = (has_bad_flags (unfenced job), BadFlags) ∷ drop 1 (rules_of op job staging)

rules_unfenced : (op : Op) (job : Job) (staging : ℕ) → rules_of op (unfenced job) staging ≡ free_rules op job staging
rules_unfenced NoOp job staging = refl
rules_unfenced Move job staging = refl
rules_unfenced Fill job staging = refl
rules_unfenced Compare job staging = refl
rules_unfenced ComparePattern job staging = refl
rules_unfenced CreateDelta job staging = refl
rules_unfenced ApplyDelta job staging = refl
rules_unfenced Dualcast job staging = refl

-- what it means that a job breaks no rule, its fence apart, rule by rule
rules_of_accepted : (job : Job) (staging : ℕ) (op : Op) → op_of job ≡ Some op → BreaksNone (unfenced job) staging → KeepsRules op job × (operation_need op job ≤ staging)
rules_of_accepted job staging op operation none =
    let same : none.op ≡ op = cc (sym none.operation ∙ operation) in
    let all : (place : ℕ) → IsKept (free_rules none.op job staging) place =
    λ place. subst (λ (rules : List (Bool × Status)). IsKept rules place) (rules_unfenced none.op job staging) (none.kept place) in
    let kept : KeepsRules none.op job = record {
      operation = none.operation;
      flags = all 0;
      size = all 1;
      delta_size = all 2;
      alignment = all 3;
      dualcast_bits = all 4;
      overlap = all 5;
      ranges = all 6;
    } in
    let staged : nat_lt staging (operation_need none.op job) ≡ false = all 7 in
    let enough : operation_need none.op job ≤ staging = grind (arith, nat_tests) in
    (subst (λ (o : Op). KeepsRules o job) same kept, subst (λ (o : Op). operation_need o job ≤ staging) same enough)

-- flags that are accepted have no fence; cleared twice, it is cleared
pub unfenced_where_flags : (job : Job) → has_bad_flags job ≡ false → unfenced job ≡ job
unfenced_where_flags job flags =
    let own : bit_and job.flags 0x18E ≡ job.flags = grind (arith, nat_tests, flags) in
    let none : bit_and job.flags 1 ≡ 0 =
    ap (λ (f : ℕ). bit_and f 1) (sym own) ∙ (and_assoc 1 job.flags 0x18E ∙ and_zero_r job.flags) in
    unfenced_same job (ap (λ (n : ℕ). nat_eq n 1) none)

pub unfenced_twice : (job : Job) → unfenced (unfenced job) ≡ unfenced job
unfenced_twice job = unfenced_same (unfenced job) (unfenced_free job)

pub unfenced_where_accepted : (job : Job) (staging : ℕ) → refusal job staging ≡ None → unfenced job ≡ job
unfenced_where_accepted job staging accepted =
    let none = (accepted_where_none_broken job staging).0 accepted in unfenced_where_flags job (none.kept 0)

-- a job that is accepted at some staging size, its fence apart
pub rules_kept_at : (job : Job) (staging : ℕ) (op : Op) → op_of job ≡ Some op → refusal (unfenced job) staging ≡ None → KeepsRules op job
rules_kept_at job staging op operation accepted =
    (rules_of_accepted job staging op operation ((accepted_where_none_broken (unfenced job) staging).0 accepted)).0

pub need_within_free : (job : Job) (staging : ℕ) → refusal (unfenced job) staging ≡ None → need job ≤ staging
need_within_free job staging accepted =
    let none = (accepted_where_none_broken (unfenced job) staging).0 accepted in
    let within = (rules_of_accepted job staging none.op none.operation none).1 in
    subst (λ (o : Option Op). staging_under o job ≤ staging) (sym none.operation) within

accepted_free : (job : Job) (staging : ℕ) → refusal job staging ≡ None → refusal (unfenced job) staging ≡ None
accepted_free job staging accepted =
    ap (λ (j : Job). refusal j staging) (unfenced_where_accepted job staging accepted) ∙ accepted

pub need_within : (job : Job) (staging : ℕ) → refusal job staging ≡ None → need job ≤ staging
need_within job staging accepted = need_within_free job staging (accepted_free job staging accepted)

none_of : (flags size delta_size alignment bits overlap ranges staging : Bool)
    → flags ≡ false → size ≡ false → delta_size ≡ false → alignment ≡ false → bits ≡ false → overlap ≡ false → ranges ≡ false → staging ≡ false
    → first_broken ((flags, BadFlags) ∷ (size, BadSize) ∷ (delta_size, BadDeltaSize) ∷ (alignment, Misaligned) ∷ (bits, DualcastBits)
    ∷ (overlap, Overlap) ∷ (ranges, RangePast) ∷ (staging, StagingRefused) ∷ []) ≡ None
none_of flags size delta_size alignment bits overlap ranges staging a b c d e f g h = rw (a, b, c, d, e, f, g, h) refl

-- with as much staging as a job needs, the rules that it keeps are all
pub accepted_by_rules : (op : Op) (job : Job) (staging : ℕ) → KeepsRules op job → operation_need op job ≤ staging → refusal (unfenced job) staging ≡ None
accepted_by_rules op job staging kept enough =
    let staged : nat_lt staging (operation_need op job) ≡ false = grind (arith, nat_tests) in
    let none = none_of _ _ _ _ _ _ _ _ kept.flags kept.size kept.delta_size kept.alignment kept.dualcast_bits kept.overlap kept.ranges staged in
    ap (λ o. refusal_under o (unfenced job) staging) kept.operation ∙ (ap first_broken (rules_unfenced op job staging) ∙ none)

pub checked_by_rules : (op : Op) (job : Job) → KeepsRules op job → IsChecked job
checked_by_rules op job kept =
    let enough : operation_need op job ≤ need job = subst (λ (o : Option Op). operation_need op job ≤ staging_under o job) (sym kept.operation) (omega arith) in
    record { accepted = accepted_by_rules op job (need job) kept enough }

pub checked_where_accepted_free : (job : Job) (staging : ℕ) → refusal (unfenced job) staging ≡ None → IsChecked job
checked_where_accepted_free job staging accepted =
    let none = (accepted_where_none_broken (unfenced job) staging).0 accepted in
    checked_by_rules none.op job (rules_kept_at job staging none.op none.operation accepted)

pub checked_where_accepted : (job : Job) (staging : ℕ) → refusal job staging ≡ None → IsChecked job
checked_where_accepted job staging accepted = checked_where_accepted_free job staging (accepted_free job staging accepted)

-- a checked job
pub has_operation : (job : Job) → IsChecked job → (op : Op) × (op_of job ≡ Some op)
has_operation job checked =
    let none = (accepted_where_none_broken (unfenced job) (need job)).0 checked.accepted in (none.op, none.operation)

pub rules_kept : (op : Op) (job : Job) → IsChecked job → op_of job ≡ Some op → KeepsRules op job
rules_kept op job checked operation = rules_kept_at job (need job) op operation checked.accepted

pub accepted_with : (job : Job) (staging : ℕ) → IsChecked job → need job ≤ staging → refusal (unfenced job) staging ≡ None
accepted_with job staging checked enough =
    let h = has_operation job checked in
    let same : need job ≡ operation_need h.0 job = ap (λ o. staging_under o job) h.1 in
    accepted_by_rules h.0 job staging (rules_kept h.0 job checked h.1) (omega arith)

-- it does what its operation does
pub checked_effect_is : (memory : Memory) (job : Job) (op : Op) → IsChecked job → op_of job ≡ Some op → checked_effect memory job ≡ operation_effect op memory job
checked_effect_is memory job op checked operation =
    effect_accepted memory (unfenced job) (need job) op checked.accepted operation ∙ effect_by_unfenced op memory job

pub checked_step_is : (memory : Memory) (job : Job) (op : Op) → IsChecked job → op_of job ≡ Some op → checked_step memory job ≡ (puts_made memory (operation_effect op memory job).puts, (operation_effect op memory job).answer)
checked_step_is memory job op checked operation =
    ap (λ (done : Effect). (puts_made memory done.puts, done.answer)) (checked_effect_is memory job op checked operation)

-- at any staging that is enough
pub effect_with : (memory : Memory) (job : Job) (staging : ℕ) → IsChecked job → need job ≤ staging → effect memory (unfenced job) staging ≡ checked_effect memory job
effect_with memory job staging checked enough =
    let h = has_operation job checked in
    effect_accepted memory (unfenced job) staging h.0 (accepted_with job staging checked enough) h.1
    ∙ sym (effect_accepted memory (unfenced job) (need job) h.0 checked.accepted h.1)

-- the rules that a job without its fence keeps
pub fenced_rules : (op : Op) (job : Job) → KeepsRules op (unfenced job) → KeepsRules op job
fenced_rules op job kept =
    let enough : operation_need op (unfenced job) ≤ operation_need op (unfenced job) = omega arith in
    let accepted = accepted_by_rules op (unfenced job) (operation_need op (unfenced job)) kept enough in
    rules_kept_at job (operation_need op (unfenced job)) op kept.operation
    (ap (λ (j : Job). refusal j (operation_need op (unfenced job))) (sym (unfenced_twice job)) ∙ accepted)

-- the limits of its sizes and addresses
is_whole : (n : ℕ) → not (nat_eq n 0) ≡ false → n ≡ 0
is_whole n h = grind (arith, nat_tests)

pub limits_kept : (op : Op) (job : Job) → KeepsRules op job → Limits op job
limits_kept NoOp job k = tt
limits_kept Move job k = grind (arith, nat_tests)
limits_kept Fill job k = grind (arith, nat_tests)
limits_kept Compare job k = grind (arith, nat_tests)
limits_kept ComparePattern job k = grind (arith, nat_tests)
limits_kept CreateDelta job k =
    let size = or_parts _ _ k.size in
    let delta_size = or_parts _ _ k.delta_size in
    let bounds = or_parts _ _ delta_size.0 in
    let aligned = or_parts _ _ k.alignment in
    let apart = or_parts _ _ (or_parts _ _ k.overlap).0 in
    let ranges = or_parts _ _ k.ranges in
    let later = or_parts _ _ ranges.1 in
    record {
      size = ltb-false _ _ size.0;
      whole_blocks = is_whole _ size.1;
      least_record = ltb-false _ _ bounds.0;
      most_record = ltb-false _ _ bounds.1;
      whole_entries = is_whole _ delta_size.1;
      aligned_source = is_whole _ aligned.0;
      aligned_target = is_whole _ aligned.1;
      source_apart = apart.0;
      target_apart = (or_parts _ _ apart.1).0;
      source = ltb-false _ _ ranges.0;
      target = ltb-false _ _ later.0;
      delta = ltb-false _ _ (or_parts _ _ later.1).0;
    }
limits_kept ApplyDelta job k =
    let size = or_parts _ _ k.size in
    let delta_size = or_parts _ _ k.delta_size in
    let ranges = or_parts _ _ k.ranges in
    record {
      size = ltb-false _ _ size.0;
      whole_blocks = is_whole _ size.1;
      most_record = ltb-false _ _ delta_size.0;
      whole_entries = is_whole _ delta_size.1;
      aligned_target = is_whole _ k.alignment;
      apart = (or_parts _ _ (or_parts _ _ k.overlap).0).0;
      delta = ltb-false _ _ ranges.0;
      target = ltb-false _ _ (or_parts _ _ ranges.1).0;
    }
limits_kept Dualcast job k =
    let overlap = or_parts _ _ k.overlap in
    let either = or_parts _ _ overlap.0 in
    let ranges = or_parts _ _ k.ranges in
    let later = or_parts _ _ ranges.1 in
    record {
      size = ltb-false _ _ k.size;
      same_low_bits = grind (arith, nat_tests, k.dualcast_bits);
      target_apart = (or_parts _ _ either.0).0;
      second_apart = (or_parts _ _ (or_parts _ _ either.1).0).0;
      destinations_apart = overlap.1;
      source = ltb-false _ _ ranges.0;
      target = ltb-false _ _ later.0;
      second = ltb-false _ _ (or_parts _ _ later.1).0;
    }

-- and back: a job within its limits keeps the rules
whole : (n : ℕ) → n ≡ 0 → not (nat_eq n 0) ≡ false
whole n h = rw h refl

same_bits : (a b : ℕ) → a ≡ b → not (nat_eq a b) ≡ false
same_bits a b h = grind (arith, nat_tests)

pairs_within : (job : Job) → PairLimits job → list_any is_past (span job.source job.size ∷ span job.target job.size ∷ []) ≡ false
pairs_within job l = or_from _ _ (le-ltb _ _ l.source) (or_from _ _ (le-ltb _ _ l.target) refl)

rules_from_limits : (op : Op) (job : Job) → op_of job ≡ Some op → has_bad_flags (unfenced job) ≡ false → Limits op job → KeepsRules op job
rules_from_limits NoOp job operation flags l =
    record { operation = operation; flags = flags; size = refl; delta_size = refl; alignment = refl; dualcast_bits = refl; overlap = refl; ranges = refl }
rules_from_limits Move job operation flags l =
    record { operation = operation; flags = flags; size = le-ltb _ _ l.size; delta_size = refl; alignment = refl; dualcast_bits = refl; overlap = refl; ranges = pairs_within job l }
rules_from_limits Fill job operation flags l =
    record { operation = operation; flags = flags; size = le-ltb _ _ l.size; delta_size = refl; alignment = refl; dualcast_bits = refl; overlap = refl; ranges = or_from _ _ (le-ltb _ _ l.target) refl }
rules_from_limits Compare job operation flags l =
    record { operation = operation; flags = flags; size = le-ltb _ _ l.size; delta_size = refl; alignment = refl; dualcast_bits = refl; overlap = refl; ranges = pairs_within job l }
rules_from_limits ComparePattern job operation flags l =
    record { operation = operation; flags = flags; size = le-ltb _ _ l.size; delta_size = refl; alignment = refl; dualcast_bits = refl; overlap = refl; ranges = or_from _ _ (le-ltb _ _ l.source) refl }
rules_from_limits CreateDelta job operation flags l = record {
  operation = operation;
  flags = flags;
  size = or_from _ _ (le-ltb _ _ l.size) (whole _ l.whole_blocks);
  delta_size = or_from _ _ (or_from _ _ (le-ltb _ _ l.least_record) (le-ltb _ _ l.most_record)) (whole _ l.whole_entries);
  alignment = or_from _ _ (whole _ l.aligned_source) (whole _ l.aligned_target);
  dualcast_bits = refl;
  overlap = or_from _ _ (or_from _ _ l.source_apart (or_from _ _ l.target_apart refl)) refl;
  ranges = or_from _ _ (le-ltb _ _ l.source) (or_from _ _ (le-ltb _ _ l.target) (or_from _ _ (le-ltb _ _ l.delta) refl));
}
rules_from_limits ApplyDelta job operation flags l = record {
  operation = operation;
  flags = flags;
  size = or_from _ _ (le-ltb _ _ l.size) (whole _ l.whole_blocks);
  delta_size = or_from _ _ (le-ltb _ _ l.most_record) (whole _ l.whole_entries);
  alignment = whole _ l.aligned_target;
  dualcast_bits = refl;
  overlap = or_from _ _ (or_from _ _ l.apart refl) refl;
  ranges = or_from _ _ (le-ltb _ _ l.delta) (or_from _ _ (le-ltb _ _ l.target) refl);
}
rules_from_limits Dualcast job operation flags l = record {
  operation = operation;
  flags = flags;
  size = le-ltb _ _ l.size;
  delta_size = refl;
  alignment = refl;
  dualcast_bits = same_bits _ _ l.same_low_bits;
  overlap = or_from _ _ (or_from _ _ (or_from _ _ l.target_apart refl) (or_from _ _ (or_from _ _ l.second_apart refl) refl)) l.destinations_apart;
  ranges = or_from _ _ (le-ltb _ _ l.source) (or_from _ _ (le-ltb _ _ l.target) (or_from _ _ (le-ltb _ _ l.second) refl));
}

pub checked_within_limits : CheckedWithinLimits
checked_within_limits op job operation = (
  λ checked. let kept = rules_kept op job checked operation in (kept.flags, limits_kept op job kept),
  λ h. checked_by_rules op job (rules_from_limits op job operation h.0 h.1),
)

-- the limits of a checked job
pub limits_of : (op : Op) (job : Job) → IsChecked job → op_of job ≡ Some op → Limits op job
limits_of op job checked operation = limits_kept op job (rules_kept op job checked operation)

-- ranges that share no byte: one ends before the other starts, and no address lies in both
pub apart_ends : (a b : Span) → shares a b ≡ false → 0 < a.len → 0 < b.len → (a.start + a.len ≤ b.start) ⊎ (b.start + b.len ≤ a.start)
apart_ends a b h = grind (arith, nat_tests)

pub apart_bytes : (a b : Span) → shares a b ≡ false → (i j : ℕ) → i < a.len → j < b.len → a.start + i ≢ b.start + j
apart_bytes a b h i j within_a within_b = grind (arith, nat_tests)
