-- A job that goes forward, in two parts: the puts of both are those of the whole, and so are the records.
use Rattle.std.proofs.Common.{◌≡◌, ℕ, ◌+◌, ◌-◌, ◌^◌, ◌<◌, ◌≤◌, Bool, true, false, cond, nat_eq, ◌==◌, List, ◌++◌, length, length-append, refl, sym, ◌∙◌, ap, ap₂, arith, ⊎_elim, inl, inr}
use Rattle.dml_types.specs.declared.jobs.Job.{Job}
use Rattle.dml_types.specs.declared.operations.Direction.TheVariants.{Forward}
use Rattle.dml_types.specs.declared.operations.Op.TheVariants.{Move}
use Rattle.dml_types.specs.declared.statuses.Status.{Status}
use Rattle.dml_types.specs.Job.{span}
use Rattle.dml_types.specs.Memory.{Memory, IsWhole, has_all, bytes_at, put}
use Rattle.dml_types.specs.Effect.{Fault, is_clear, first_fault, ended, faulted, judged}
use Rattle.dml_types.specs.Bytewise.{operation_direction, pattern_bytes, compare_answer}
use Rattle.dml_types.specs.Step.{turned}
use Rattle.dml_desc.specs.Checked.{DualcastLimits}
use Rattle.dml_desc.proofs.CheckedLemmas.{apart_ends}
use Rattle.dml_segments.proofs.PatternLemmas.{length_pattern_bytes}
use Rattle.dml_image.proofs.MoveLemmas.{range_part}
use Rattle.dml_resume.proofs.SplitLemmas.{put_parts, bytes_parts, pattern_parts, and_more, same_end}
use Rattle.dml_resume.proofs.BehindLemmas.{forward_apart}
use Rattle.dml_resume.proofs.PresentLemmas.{Apart, length_present, read_beside_put, puts_commute, whole_after_put}

-- the image after both parts, by operation: k bytes in the first and m in the second
module _ (with : Memory) (job : Job) (k m : ℕ) (whole : IsWhole with) where
  pub move_image : operation_direction Move job ≡ Forward → k + m ≤ job.size → has_all with job.source (k + m) ≡ true → has_all with job.target (k + m) ≡ true
      → let after = put with job.target (bytes_at with job.source k) in
      put after (job.target + k) (bytes_at after (job.source + k) m) ≡ put with job.target (bytes_at with job.source (k + m))
  move_image forward within reads writes =
      let xs = bytes_at with job.source k in
      let ys = bytes_at with (job.source + k) m in
      let long = length_present with job.source k whole (range_part with job.source (k + m) job.source k reads (omega arith) (omega arith)) in
      let more = length_present with (job.source + k) m whole (range_part with job.source (k + m) (job.source + k) m reads (omega arith) (omega arith)) in
      let first = range_part with job.target (k + m) job.target (length xs) writes (omega arith) (omega (arith, long)) in
      let both : has_all with job.target (length xs + length ys) ≡ true = ap₂ (λ (a b : ℕ). has_all with job.target (a + b)) long more ∙ writes in
      let apart : Apart (job.source + k) m job.target (length xs) = ⊎_elim (λ low. inr (omega (arith, long))) (λ high. inl (omega arith)) (forward_apart job forward) in
      let beside : job.target + k ≡ job.target + length xs = omega (arith, long) in
      ap (put (put with job.target xs) (job.target + k)) (read_beside_put with job.target xs (job.source + k) m whole first apart)
      ∙ (put_parts with job.target (job.target + k) xs ys whole beside both
      ∙ ap (put with job.target) (sym (bytes_parts with job.source (job.source + k) k m refl)))

  pub fill_image : job.source < 2 ^ 64 → has_all with job.target (k + m) ≡ true
      → put (put with job.target (pattern_bytes job.source k)) (job.target + k) (pattern_bytes (turned job.source k) m) ≡ put with job.target (pattern_bytes job.source (k + m))
  fill_image below writes =
      let long = length_pattern_bytes job.source k in
      let more = length_pattern_bytes (turned job.source k) m in
      let both : has_all with job.target (length (pattern_bytes job.source k) + length (pattern_bytes (turned job.source k) m)) ≡ true = ap₂ (λ (a b : ℕ). has_all with job.target (a + b)) long more ∙ writes in
      let beside : job.target + k ≡ job.target + length (pattern_bytes job.source k) = omega (arith, long) in
      put_parts with job.target (job.target + k) (pattern_bytes job.source k) (pattern_bytes (turned job.source k) m) whole beside both
      ∙ ap (put with job.target) (sym (pattern_parts job.source k m below))

  pub dualcast_image : DualcastLimits job → 0 < job.size → k + m ≤ job.size → has_all with job.source (k + m) ≡ true → has_all with job.target (k + m) ≡ true → has_all with job.extra (k + m) ≡ true
      → let after = put (put with job.target (bytes_at with job.source k)) job.extra (bytes_at with job.source k) in
      let more = bytes_at after (job.source + k) m in
      put (put after (job.target + k) more) (job.extra + k) more
      ≡ put (put with job.target (bytes_at with job.source (k + m))) job.extra (bytes_at with job.source (k + m))
  dualcast_image limits some within reads writes seconds =
      let xs = bytes_at with job.source k in
      let ys = bytes_at with (job.source + k) m in
      let s = span job.source job.size in
      let t = span job.target job.size in
      let e = span job.extra job.size in
      let from_target = apart_ends t s limits.target_apart some some in
      let from_second = apart_ends e s limits.second_apart some some in
      let between = apart_ends t e limits.destinations_apart some some in
      let long = length_present with job.source k whole (range_part with job.source (k + m) job.source k reads (omega arith) (omega arith)) in
      let more = length_present with (job.source + k) m whole (range_part with job.source (k + m) (job.source + k) m reads (omega arith) (omega arith)) in
      let at_target = range_part with job.target (k + m) job.target (length xs) writes (omega arith) (omega (arith, long)) in
      let at_second = range_part with job.extra (k + m) job.extra (length xs) seconds (omega arith) (omega (arith, long)) in
      let later = range_part with job.target (k + m) (job.target + k) (length ys) writes (omega arith) (omega (arith, more)) in
      let both : has_all with job.target (length xs + length ys) ≡ true = ap₂ (λ (a b : ℕ). has_all with job.target (a + b)) long more ∙ writes in
      let both_second : has_all with job.extra (length xs + length ys) ≡ true = ap₂ (λ (a b : ℕ). has_all with job.extra (a + b)) long more ∙ seconds in
      let one = put with job.target xs in
      let two = put one job.extra xs in
      let whole_one = whole_after_put with job.target xs whole at_target in
      let all = put with job.target (xs ++ ys) in
      let whole_all = whole_after_put with job.target (xs ++ ys) whole (ap (has_all with job.target) (length-append xs ys) ∙ both) in
      let read : bytes_at two (job.source + k) m ≡ ys =
      read_beside_put one job.extra xs (job.source + k) m whole_one at_second (⊎_elim (λ low. inr (omega (arith, long))) (λ high. inl (omega arith)) from_second)
      ∙ read_beside_put with job.target xs (job.source + k) m whole at_target (⊎_elim (λ low. inr (omega (arith, long))) (λ high. inl (omega arith)) from_target) in
      let target : job.target + k ≡ job.target + length xs = omega (arith, long) in
      let second : job.extra + k ≡ job.extra + length xs = omega (arith, long) in
      let apart : Apart job.extra (length xs) (job.target + k) (length ys) = ⊎_elim (λ low. inr (omega (arith, more))) (λ high. inl (omega (arith, long))) between in
      ap (λ (zs : List ℕ). put (put two (job.target + k) zs) (job.extra + k) zs) read
      ∙ (ap (λ (n : Memory). put n (job.extra + k) ys) (puts_commute one job.extra xs (job.target + k) ys whole_one at_second later apart)
      ∙ (ap (λ (n : Memory). put (put n job.extra xs) (job.extra + k) ys) (put_parts with job.target (job.target + k) xs ys whole target both)
      ∙ (put_parts all job.extra (job.extra + k) xs ys whole_all second both_second
      ∙ ap (λ (zs : List ℕ). put (put with job.target zs) job.extra zs) (sym (bytes_parts with job.source (job.source + k) k m refl)))))

-- the record of a compare in two parts
pub compare_parts : (memory : Memory) (job left : Job) (k m : ℕ) (faults others : List Fault) → k ≤ job.size → left.size ≡ job.size - k → left.flags ≡ job.flags → left.expected ≡ job.expected → faults ≡ others → and_more k (compare_answer memory left m faults) ≡ compare_answer memory job (k + m) others
compare_parts memory job left k m faults others within size flags expected same =
    let test : nat_eq m left.size ≡ nat_eq (k + m) job.size = ap (nat_eq m) size ∙ same_end job.size k m within in
    ap₂ (λ (b : Bool) (fs : List Fault). and_more k (cond b (ended (judged left (left.expected == 0)) 0 m 0) (cond (is_clear memory fs) (ended (judged left (left.expected == 1)) 1 m 0) (faulted (first_fault memory fs) 0 m 0)))) test same
    ∙ (ap₂ (λ (f e : ℕ). and_more k (cond end (ended (status f (e == 0)) 0 m 0) (cond clear (ended (status f (e == 1)) 1 m 0) (faulted (first_fault memory others) 0 m 0)))) flags expected
    ∙ either end clear (status job.flags (job.expected == 0)) (status job.flags (job.expected == 1)))
  where
    end : Bool
    end = nat_eq (k + m) job.size

    clear : Bool
    clear = is_clear memory others

    status : ℕ → Bool → Status
    status f b = judged (record job { flags = f }) b

    either : (b c : Bool) (x y : Status) → and_more k (cond b (ended x 0 m 0) (cond c (ended y 1 m 0) (faulted (first_fault memory others) 0 m 0))) ≡ cond b (ended x 0 (k + m) 0) (cond c (ended y 1 (k + m) 0) (faulted (first_fault memory others) 0 (k + m) 0))
    either true c x y = refl
    either false true x y = refl
    either false false x y = refl
