-- What is left of an accepted job is accepted.
use Rattle.std.proofs.Common.{◌≡◌, ℕ, ◌+◌, ◌-◌, ◌%◌, ◌<◌, ◌≤◌, max, min, Bool, true, false, not, nat_eq, nat_lt, [], ◌∷◌, Option, Some, None, refl, sym, ap, ◌∙◌, subst, arith, le-ltb, ltb-false, eq-eqb}
use Rattle.std.proofs.lemmas.Bool.{or_from}
use Rattle.dml_types.specs.declared.jobs.Job.{Job}
use Rattle.dml_types.specs.declared.operations.Op.{Op}
use Rattle.dml_types.specs.declared.operations.Op.TheVariants.{NoOp, Move, Fill, Compare, ComparePattern, CreateDelta, ApplyDelta, Dualcast}
use Rattle.dml_types.specs.declared.statuses.Status.TheVariants.{BadFlags, BadSize, BadDeltaSize, Misaligned, DualcastBits, Overlap, RangePast, StagingRefused}
use Rattle.dml_types.specs.Job.{op_of, span, shares}
use Rattle.dml_types.specs.Refusal.{first_broken, has_bad_flags, has_bad_size, has_bad_delta_size, is_misaligned, has_dualcast_bits, has_overlap, has_range_past, refusal, refusal_under, rules_of, operation_need}
use Rattle.dml_types.specs.Step.{without_front}
use Rattle.dml_desc.specs.Checked.{Limits}
use Rattle.dml_desc.specs.RefusalLaws.{IsKept}
use Rattle.dml_desc.proofs.CheckedLemmas.{checked_where_accepted, limits_of}
use Rattle.dml_desc.proofs.RefusalLemmas.{accepted_where_none_broken}
use Rattle.dml_resume.specs.Resuming.{can_go_on}
use Rattle.dml_resume.proofs.BehindLemmas.{behind}
use Rattle.dml_resume.proofs.BackwardLemmas.{front_of}

shares_behind : (a b n k : ℕ) → k < n → shares (span a n) (span b n) ≡ false → shares (span (a + k) (n - k)) (span (b + k) (n - k)) ≡ false
shares_behind a b n k below apart =
    let ends = ltb-false (max a b) (min (a + n) (b + n)) apart in
    le-ltb (max (a + k) (b + k)) (min (a + k + (n - k)) (b + k + (n - k))) (omega (arith, ends))

limits_behind : (op : Op) (job left : Job) (k : ℕ) → without_front op job k ≡ Some left → k < job.size → Limits op job → Limits op left
limits_behind NoOp job left k is below l = absurd (cc)
limits_behind Move job left k is below l =
    behind Move job left k (Limits Move) _ is refl (record { size = omega (arith, l.size); source = omega (arith, l.source, l.size); target = omega (arith, l.target, l.size) })
limits_behind Fill job left k is below l =
    behind Fill job left k (Limits Fill) _ is refl (record { size = omega (arith, l.size); target = omega (arith, l.target, l.size) })
limits_behind Compare job left k is below l =
    behind Compare job left k (Limits Compare) _ is refl (record { size = omega (arith, l.size); source = omega (arith, l.source, l.size); target = omega (arith, l.target, l.size) })
limits_behind ComparePattern job left k is below l =
    behind ComparePattern job left k (Limits ComparePattern) _ is refl (record { size = omega (arith, l.size); source = omega (arith, l.source, l.size) })
limits_behind CreateDelta job left k is below l = absurd (cc)
limits_behind ApplyDelta job left k is below l = absurd (cc)
limits_behind Dualcast job left k is below l =
    behind Dualcast job left k (Limits Dualcast) _ is refl (record {
      size = omega (arith, l.size);
      same_low_bits = bits job.target job.extra l.same_low_bits;
      target_apart = shares_behind job.target job.source job.size k below l.target_apart;
      second_apart = shares_behind job.extra job.source job.size k below l.second_apart;
      destinations_apart = shares_behind job.target job.extra job.size k below l.destinations_apart;
      source = omega (arith, l.source, l.size);
      target = omega (arith, l.target, l.size);
      second = omega (arith, l.second, l.size);
    })
  where
    bits : (a b : ℕ) → a % 4096 ≡ b % 4096 → (a + k) % 4096 ≡ (b + k) % 4096
    bits a b same = omega arith

-- the same operation and flags, and no more staging
kept_behind : (op : Op) (job left : Job) (k : ℕ) → without_front op job k ≡ Some left → (op_of left ≡ op_of job) × (has_bad_flags left ≡ has_bad_flags job) × (operation_need op left ≤ operation_need op job)
kept_behind NoOp job left k is = absurd (cc)
kept_behind Move job left k is = behind Move job left k (λ l. (op_of l ≡ op_of job) × (has_bad_flags l ≡ has_bad_flags job) × (operation_need Move l ≤ operation_need Move job)) _ is refl (refl, refl, omega arith)
kept_behind Fill job left k is = behind Fill job left k (λ l. (op_of l ≡ op_of job) × (has_bad_flags l ≡ has_bad_flags job) × (operation_need Fill l ≤ operation_need Fill job)) _ is refl (refl, refl, omega arith)
kept_behind Compare job left k is = behind Compare job left k (λ l. (op_of l ≡ op_of job) × (has_bad_flags l ≡ has_bad_flags job) × (operation_need Compare l ≤ operation_need Compare job)) _ is refl (refl, refl, omega arith)
kept_behind ComparePattern job left k is = behind ComparePattern job left k (λ l. (op_of l ≡ op_of job) × (has_bad_flags l ≡ has_bad_flags job) × (operation_need ComparePattern l ≤ operation_need ComparePattern job)) _ is refl (refl, refl, omega arith)
kept_behind CreateDelta job left k is = absurd (cc)
kept_behind ApplyDelta job left k is = absurd (cc)
kept_behind Dualcast job left k is = behind Dualcast job left k (λ l. (op_of l ≡ op_of job) × (has_bad_flags l ≡ has_bad_flags job) × (operation_need Dualcast l ≤ operation_need Dualcast job)) _ is refl (refl, refl, omega arith)

-- within the limits of an operation that can go on no rule of sizes and addresses is broken
record KeepsPlaces (op : Op) (job : Job) : Type 0 where
  size : has_bad_size op job ≡ false
  delta_size : has_bad_delta_size op job ≡ false
  alignment : is_misaligned op job ≡ false
  dualcast_bits : has_dualcast_bits op job ≡ false
  overlap : has_overlap op job ≡ false
  ranges : has_range_past op job ≡ false

same_bits : (a b : ℕ) → a ≡ b → not (nat_eq a b) ≡ false
same_bits a b h = ap not (eq-eqb a b h)

places_kept : (op : Op) (job : Job) → can_go_on op ≡ true → Limits op job → KeepsPlaces op job
places_kept NoOp job can l = absurd (cc)
places_kept Move job can l =
    record { size = le-ltb _ _ l.size; delta_size = refl; alignment = refl; dualcast_bits = refl; overlap = refl; ranges = or_from _ _ (le-ltb _ _ l.source) (or_from _ _ (le-ltb _ _ l.target) refl) }
places_kept Fill job can l =
    record { size = le-ltb _ _ l.size; delta_size = refl; alignment = refl; dualcast_bits = refl; overlap = refl; ranges = or_from _ _ (le-ltb _ _ l.target) refl }
places_kept Compare job can l =
    record { size = le-ltb _ _ l.size; delta_size = refl; alignment = refl; dualcast_bits = refl; overlap = refl; ranges = or_from _ _ (le-ltb _ _ l.source) (or_from _ _ (le-ltb _ _ l.target) refl) }
places_kept ComparePattern job can l =
    record { size = le-ltb _ _ l.size; delta_size = refl; alignment = refl; dualcast_bits = refl; overlap = refl; ranges = or_from _ _ (le-ltb _ _ l.source) refl }
places_kept CreateDelta job can l = absurd (cc)
places_kept ApplyDelta job can l = absurd (cc)
places_kept Dualcast job can l = record {
  size = le-ltb _ _ l.size;
  delta_size = refl;
  alignment = refl;
  dualcast_bits = same_bits _ _ l.same_low_bits;
  overlap = or_from _ _ (or_from _ _ (or_from _ _ l.target_apart refl) (or_from _ _ (or_from _ _ l.second_apart refl) refl)) l.destinations_apart;
  ranges = or_from _ _ (le-ltb _ _ l.source) (or_from _ _ (le-ltb _ _ l.target) (or_from _ _ (le-ltb _ _ l.second) refl));
}

none_broken : (flags size delta_size alignment bits overlap ranges staging : Bool)
    → flags ≡ false → size ≡ false → delta_size ≡ false → alignment ≡ false → bits ≡ false → overlap ≡ false → ranges ≡ false → staging ≡ false
    → first_broken ((flags, BadFlags) ∷ (size, BadSize) ∷ (delta_size, BadDeltaSize) ∷ (alignment, Misaligned) ∷ (bits, DualcastBits)
    ∷ (overlap, Overlap) ∷ (ranges, RangePast) ∷ (staging, StagingRefused) ∷ []) ≡ None
none_broken flags size delta_size alignment bits overlap ranges staging a b c d e f g h = rw (a, b, c, d, e, f, g, h) refl

-- a job that is like an accepted one, within its limits
accepted_like : (op : Op) (job left : Job) (staging : ℕ) → can_go_on op ≡ true → op_of job ≡ Some op → refusal job staging ≡ None → op_of left ≡ op_of job → has_bad_flags left ≡ has_bad_flags job → operation_need op left ≤ operation_need op job → Limits op left → refusal left staging ≡ None
accepted_like op job left staging can operation accepted same flags less limits =
    let none = (accepted_where_none_broken job staging).0 accepted in
    let this : none.op ≡ op = cc (sym none.operation ∙ operation) in
    let kept = subst (λ (o : Op). (place : ℕ) → IsKept (rules_of o job staging) place) this none.kept in
    let free : has_bad_flags job ≡ false = kept 0 in
    let staged : nat_lt staging (operation_need op job) ≡ false = kept 7 in
    let enough : nat_lt staging (operation_need op left) ≡ false = le-ltb _ _ (omega (arith, less, ltb-false _ _ staged)) in
    let p = places_kept op left can limits in
    ap (λ (o : Option Op). refusal_under o left staging) (same ∙ operation)
    ∙ none_broken _ _ _ _ _ _ _ _ (flags ∙ free) p.size p.delta_size p.alignment p.dualcast_bits p.overlap p.ranges enough

front_can : (op : Op) (job left : Job) (k : ℕ) → without_front op job k ≡ Some left → can_go_on op ≡ true
front_can NoOp job left k is = absurd (cc)
front_can Move job left k is = refl
front_can Fill job left k is = refl
front_can Compare job left k is = refl
front_can ComparePattern job left k is = refl
front_can CreateDelta job left k is = absurd (cc)
front_can ApplyDelta job left k is = absurd (cc)
front_can Dualcast job left k is = refl

pub accepted_behind : (op : Op) (job left : Job) (staging k : ℕ) → op_of job ≡ Some op → refusal job staging ≡ None → without_front op job k ≡ Some left → k < job.size → refusal left staging ≡ None
accepted_behind op job left staging k operation accepted is below =
    let kept = kept_behind op job left k is in
    accepted_like op job left staging (front_can op job left k is) operation accepted kept.0 kept.1 kept.2
    (limits_behind op job left k is below (limits_of op job (checked_where_accepted job staging accepted) operation))

pub operation_behind : (op : Op) (job left : Job) (k : ℕ) → op_of job ≡ Some op → without_front op job k ≡ Some left → op_of left ≡ Some op
operation_behind op job left k operation is = (kept_behind op job left k is).0 ∙ operation

pub accepted_front : (job : Job) (staging k : ℕ) → op_of job ≡ Some Move → refusal job staging ≡ None → refusal (front_of job k) staging ≡ None
accepted_front job staging k operation accepted =
    let l = limits_of Move job (checked_where_accepted job staging accepted) operation in
    accepted_like Move job (front_of job k) staging refl operation accepted refl refl (omega arith)
    (record { size = omega (arith, l.size); source = omega (arith, l.source); target = omega (arith, l.target) })
