-- A fence parts the waves of a list.
use Rattle.std.proofs.Common.{◌≡◌, ℕ, ◌+◌, ◌-◌, ◌<◌, ◌≤◌, Bool, true, List, [], ◌∷◌, ◌++◌, length, map, take, drop, Option, None, Some, refl, sym, ◌∙◌, ap, ap₂, subst, arith, ⊎_elim}
use Rattle.std.proofs.lemmas.Bool.{cases_Bool, cases_lt, eqb-true, false≢true, le-ltb, lt-ltb, or_cases}
use Rattle.std.proofs.lemmas.List.{drop-drop, drop-take, get_or-drop, get_or-map, get_or-take, length-drop, length-map, length-take, take-take}
use Rattle.std.proofs.lemmas.List.Folds.{list_any-append}
use Rattle.std.specs.List.{list_any}
use Rattle.std.specs.Prelude.{nat_eq, nat_lt, option_map, slice_range, unwrap_or, ◌||◌}
use Rattle.dml_types.specs.declared.jobs.Job.{Job}
use Rattle.dml_types.specs.declared.operations.Op.{Op}
use Rattle.dml_types.specs.declared.operations.Op.TheVariants.{NoOp, Move, Fill, Compare, ComparePattern, CreateDelta, ApplyDelta, Dualcast}
use Rattle.dml_types.specs.declared.spans.Span.{Span}
use Rattle.dml_types.specs.Job.{any_shares, is_fenced, no_op_job, op_of, reads, unfenced, writes}
use Rattle.dml_types.specs.Conflict.{conflict, fenced_clash, fenced_levels, clash_levels, ranges_of}
use Rattle.dml_order.specs.Order.{is_in, IsOrder}
use Rattle.dml_order.specs.Waves.{depth, further, joined, waves_of}
use Rattle.dml_order.proofs.LevelLemmas.{length_levels_of}
use Rattle.dml_order.proofs.PartLemmas.{waves_both}
use Rattle.dml_order.proofs.WaveLemmas.{joined_append, waves_order}
use Rattle.dml_levels.specs.Waves.{job_at}
use Rattle.dml_levels.specs.Fences.{BatchesHoldConflicts, FencesPartWaves, IsFence}
use Rattle.dml_levels.proofs.FenceLaws.{fences_only_add, front_is_fold}
use Rattle.dml_levels.proofs.FenceLemmas.{fence_clashes, levels_raised}
use Rattle.dml_levels.proofs.LawLemmas.{own_clashes_hold}

-- places that clash alike have the same levels
pub levels_alike : (clash own : ℕ → ℕ → Bool) (n : ℕ) → ((j k : ℕ) → j < k → k < n → clash j k ≡ own j k) → clash_levels clash n ≡ clash_levels own n
levels_alike clash own n same =
    let start : (k : ℕ) → 0 + k ≡ k = λ k. omega arith in
    ap (clash_levels clash) (sym (start n))
    ∙ (levels_raised clash own 0 n (λ i k low. absurd (omega (arith, low))) (λ j k low below. ap₂ clash (start j) (start k) ∙ same j k low below) n (omega arith)
    ∙ not_raised (clash_levels own n))
  where
    not_raised : (xs : List ℕ) → map (λ level. 0 + level) xs ≡ xs
    not_raised [] = refl
    not_raised (x ∷ xs) = ap₂ (λ (first : ℕ) (rest : List ℕ). first ∷ rest) (let e : 0 + x ≡ x = omega arith in e) (not_raised xs)

-- the clashes of the first jobs, and of the last
clash_before : (jobs : List Job) (count i k : ℕ) → i < k → k < count → fenced_clash jobs i k ≡ fenced_clash (take count jobs) i k
clash_before jobs count i k low below =
    let at : (j : ℕ) → j < count → job_at (take count jobs) j ≡ job_at jobs j = λ j inside. get_or-take count jobs j no_op_job inside in
    let rest = count - (i + 1) in
    let all : i + 1 + rest ≡ count = omega (arith, low, below) in
    let part : slice_range (take count jobs) (i + 1) (k + 1) ≡ slice_range jobs (i + 1) (k + 1) =
    ap (λ (xs : List Job). take (k + 1 - (i + 1)) xs) (ap (λ n. drop (i + 1) (take n jobs)) (sym all) ∙ drop-take (i + 1) rest jobs)
    ∙ take-take (k + 1 - (i + 1)) rest (drop (i + 1) jobs) (omega (arith, low, below)) in
    sym (ap₂ (λ a b. a || b) (ap₂ conflict (at i (omega (arith, low, below))) (at k below)) (ap (list_any is_fenced) part))

clash_behind : (jobs : List Job) (from j k : ℕ) → j < k → fenced_clash jobs (from + j) (from + k) ≡ fenced_clash (drop from jobs) j k
clash_behind jobs from j k low =
    let at : (i : ℕ) → job_at (drop from jobs) i ≡ job_at jobs (from + i) = λ i. get_or-drop from jobs i no_op_job in
    let part : slice_range (drop from jobs) (j + 1) (k + 1) ≡ slice_range jobs (from + j + 1) (from + k + 1) =
    ap (take (k + 1 - (j + 1))) (drop-drop (j + 1) from jobs)
    ∙ ap₂ (λ n m. take n (drop m jobs)) (let e : k + 1 - (j + 1) ≡ from + k + 1 - (from + j + 1) = omega (arith, low) in e) (let e : from + (j + 1) ≡ from + j + 1 = omega arith in e) in
    sym (ap₂ (λ a b. a || b) (ap₂ conflict (at j) (at k)) (ap (list_any is_fenced) part))

levels_parted : (jobs : List Job) (fence : ℕ) → IsFence jobs fence → fenced_levels jobs ≡ fenced_levels (take fence jobs) ++ map (λ level. depth (fenced_levels (take fence jobs)) + level) (fenced_levels (drop fence jobs))
levels_parted jobs fence is =
    let clash = fenced_clash jobs in
    let count = length jobs - fence in
    let all : fence + count ≡ length jobs = omega (arith, is.below) in
    let first : clash_levels clash fence ≡ fenced_levels (take fence jobs) =
    levels_alike clash (fenced_clash (take fence jobs)) fence (clash_before jobs fence)
    ∙ ap (clash_levels (fenced_clash (take fence jobs))) (let e : fence ≡ length (take fence jobs) = omega (arith, length-take fence jobs, is.below) in e) in
    let rest : clash_levels (fenced_clash (drop fence jobs)) count ≡ fenced_levels (drop fence jobs) =
    ap (clash_levels (fenced_clash (drop fence jobs))) (sym (length-drop fence jobs)) in
    ap (clash_levels clash) (sym all)
    ∙ (levels_raised clash (fenced_clash (drop fence jobs)) fence count (λ i k low high below. fence_clashes jobs fence i k is.fenced low high (omega (arith, below, all))) (λ j k low below. clash_behind jobs fence j k low) count (omega arith)
    ∙ ap₂ (λ (xs ys : List ℕ). xs ++ map (λ level. depth xs + level) ys) first rest)

in_moved : (base i : ℕ) (places : List ℕ) → is_in i (map (λ k. base + k) places) ≡ true → base ≤ i
in_moved base i [] found = absurd (false≢true found)
in_moved base i (k ∷ places) found =
    ⊎_elim (λ here. omega (arith, eqb-true i (base + k) here)) (λ later. in_moved base i places later) (or_cases (nat_eq i (base + k)) (is_in i (map (λ k. base + k) places)) found)

in_further : (base i : ℕ) (waves : List (List ℕ)) → is_in i (joined (further base waves)) ≡ true → base ≤ i
in_further base i [] found = absurd (false≢true found)
in_further base i (wave ∷ waves) found =
    ⊎_elim (λ here. in_moved base i wave here) (λ later. in_further base i waves later)
    (or_cases (is_in i (map (λ k. base + k) wave)) (is_in i (joined (further base waves))) (sym (list_any-append (nat_eq i) (map (λ k. base + k) wave) (joined (further base waves))) ∙ found))

-- all waves of a list hold its places
in_waves : (fits : List ℕ → Bool) (clash : ℕ → ℕ → Bool) (n i : ℕ) → is_in i (joined (waves_of fits (clash_levels clash n))) ≡ nat_lt i n
in_waves fits clash n i =
    let order = waves_order fits clash n in
    ⊎_elim (λ low. order.all i low ∙ sym (lt-ltb i n low))
    (λ high. ⊎_elim (λ found. absurd (omega (arith, high, order.below i found))) (λ gone. gone ∙ sym (le-ltb i n high)) (cases_Bool (is_in i (joined (waves_of fits (clash_levels clash n))))))
    (cases_lt i n)

pub fences_part_waves : FencesPartWaves
fences_part_waves jobs fits fence is =
    let front = fenced_levels (take fence jobs) in
    let back = fenced_levels (drop fence jobs) in
    let short : length (take fence jobs) ≡ fence = omega (arith, length-take fence jobs, is.below) in
    let long : length front ≡ fence = length_levels_of (fenced_clash (take fence jobs)) (length (take fence jobs)) ∙ short in
    let behind = further fence (waves_of (λ places. fits (map (λ i. fence + i) places)) back) in
    let all : waves_of fits (fenced_levels jobs) ≡ waves_of fits front ++ behind =
    ap (waves_of fits) (levels_parted jobs fence is)
    ∙ (waves_both fits front back
    ∙ ap (λ n. waves_of fits front ++ further n (waves_of (λ places. fits (map (λ i. n + i) places)) back)) long) in
    let held : (i : ℕ) → is_in i (joined (waves_of fits front)) ≡ nat_lt i fence =
    λ i. in_waves fits (fenced_clash (take fence jobs)) (length (take fence jobs)) i ∙ ap (nat_lt i) short in
    let order : IsOrder (fenced_clash jobs) (length jobs) (joined (waves_of fits front) ++ joined behind) =
    subst (IsOrder (fenced_clash jobs) (length jobs)) (ap joined all ∙ joined_append (waves_of fits front) behind) (waves_order fits (fenced_clash jobs) (length jobs)) in
    record {
      all = all;
      in_front = held;
      in_behind = λ i found. in_further fence i (waves_of (λ places. fits (map (λ i. fence + i) places)) back) found;
      fold = λ memory these staging blank whole same size holds.
          front_is_fold memory these staging blank (fenced_clash jobs) (joined (waves_of fits front)) (joined behind) fence whole (size ∙ sym same) holds
          (subst (λ n. IsOrder (fenced_clash jobs) n (joined (waves_of fits front) ++ joined behind)) (sym same) order) (omega (arith, is.below, same)) held;
    }

-- no range is read off the flags
ranges_unfenced : (table : Op → Job → List Span) (job : Job) → ((op : Op) → table op (unfenced job) ≡ table op job) → ranges_of table (unfenced job) ≡ ranges_of table job
ranges_unfenced table job same =
    elim (op_of job) as (λ (o : Option Op). unwrap_or (option_map (λ op. table op (unfenced job)) o) [] ≡ unwrap_or (option_map (λ op. table op job) o) []) [
      | None ↦ refl
      | Some op ↦ same op
    ]

reads_unfenced : (job : Job) (op : Op) → reads op (unfenced job) ≡ reads op job
reads_unfenced job NoOp = refl
reads_unfenced job Move = refl
reads_unfenced job Fill = refl
reads_unfenced job Compare = refl
reads_unfenced job ComparePattern = refl
reads_unfenced job CreateDelta = refl
reads_unfenced job ApplyDelta = refl
reads_unfenced job Dualcast = refl

writes_unfenced : (job : Job) (op : Op) → writes op (unfenced job) ≡ writes op job
writes_unfenced job NoOp = refl
writes_unfenced job Move = refl
writes_unfenced job Fill = refl
writes_unfenced job Compare = refl
writes_unfenced job ComparePattern = refl
writes_unfenced job CreateDelta = refl
writes_unfenced job ApplyDelta = refl
writes_unfenced job Dualcast = refl

pub conflict_unfenced : (a b : Job) → conflict (unfenced a) (unfenced b) ≡ conflict a b
conflict_unfenced a b =
    let read : (job : Job) → ranges_of reads (unfenced job) ≡ ranges_of reads job = λ job. ranges_unfenced reads job (reads_unfenced job) in
    let written : (job : Job) → ranges_of writes (unfenced job) ≡ ranges_of writes job = λ job. ranges_unfenced writes job (writes_unfenced job) in
    ap₂ (λ front last. front || last)
    (ap₂ (λ first second. first || second) (ap₂ any_shares (written a) (read b)) (ap₂ any_shares (written a) (written b)))
    (ap₂ any_shares (read a) (written b))

pub batches_hold_conflicts : BatchesHoldConflicts
batches_hold_conflicts jobs staging =
    let free = map unfenced jobs in
    let long : length free ≡ length jobs = length-map jobs unfenced in
    let at : (i : ℕ) → i < length jobs → job_at free i ≡ unfenced (job_at jobs i) = λ i below. get_or-map unfenced jobs i no_op_job no_op_job below in
    fences_only_add free jobs staging
    (λ i k low below apart.
    let high : k < length jobs = omega (arith, below, long) in
    own_clashes_hold free staging i k low below
    (ap₂ conflict (at i (omega (arith, low, high))) (at k high) ∙ (conflict_unfenced (job_at jobs i) (job_at jobs k) ∙ apart)))
