-- Levels behind a fence: those of the jobs from the fence on by themselves, above all levels before it.
use Rattle.std.proofs.Common.{◌≡◌, ℕ, ◌+◌, ◌-◌, ◌^◌, ◌<◌, ◌≤◌, zero, suc, max, Bool, true, false, cond, List, [], ◌∷◌, ◌++◌, length, map, fold, get_or, take, drop, refl, sym, ◌∙◌, ap, ap₂, arith, All, append_assoc}
use Rattle.std.proofs.lemmas.Bool.{or_right, or_from}
use Rattle.std.proofs.lemmas.List.{append-nil, get_or-append-add, get_or_append_left, get_or-drop, get_or-map, get_or-take, length-drop, length-take, map-append, get_or_default, take_all, take_more}
use Rattle.std.proofs.lemmas.List.Folds.{list_any_at}
use Rattle.std.proofs.lemmas.List.Sums.{fold-append}
use Rattle.std.specs.List.{list_any}
use Rattle.std.specs.Prelude.{slice_index, slice_range, ◌||◌}
use Rattle.dml_types.specs.declared.jobs.Job.{Job}
use Rattle.dml_types.specs.Job.{is_fenced, no_op_job}
use Rattle.dml_types.specs.Conflict.{clash_of, conflict, fenced_clash, level_over, levels, clash_levels}
use Rattle.dml_order.specs.Waves.{depth}
use Rattle.dml_order.proofs.LevelLemmas.{length_levels_of, level_among, level_le, level_more, levels_of_more}
use Rattle.dml_levels.specs.Waves.{job_at}

-- one level more, seen from the depth
depth_more : (xs : List ℕ) (n : ℕ) → n < length xs → depth (take (n + 1) xs) ≡ max (depth (take n xs)) (slice_index xs n + 1)
depth_more xs n below =
    ap depth (take_more xs n 0 below)
    ∙ (ap (fold max 0) (map-append (λ level. level + 1) (take n xs) (slice_index xs n ∷ []))
    ∙ fold-append max 0 (map (λ level. level + 1) (take n xs)) ((slice_index xs n + 1) ∷ []))

depth_within : (clash : ℕ → ℕ → Bool) (m n : ℕ) → n ≤ m → depth (take n (clash_levels clash m)) ≤ n
depth_within clash m zero within = omega arith
depth_within clash m (suc n) within =
    let xs = clash_levels clash m in
    let step : depth (take (suc n) xs) ≡ max (depth (take n xs)) (slice_index xs n + 1) =
    ap (λ k. depth (take k xs)) (let e : suc n ≡ n + 1 = omega arith in e) ∙ depth_more xs n (omega (arith, length_levels_of clash m)) in
    omega (arith, step, depth_within clash m n (omega arith), level_le clash m n (omega arith))

-- there are at most as many levels as places
pub depth_le : (clash : ℕ → ℕ → Bool) (n : ℕ) → depth (clash_levels clash n) ≤ n
depth_le clash n =
    omega (arith, depth_within clash n n (omega arith), ap depth (take_all n (clash_levels clash n) (omega (arith, length_levels_of clash n))))

-- a place with which all places before `from` clash, and those from there on as by themselves
module _ (clash own : ℕ → ℕ → Bool) (from count : ℕ) (before : (i k : ℕ) → i < from → from ≤ k → k < from + count → clash i k ≡ true) (inside : (j k : ℕ) → j < k → k < count → clash (from + j) (from + k) ≡ own j k) where
  abbrev front : List ℕ
  front = clash_levels clash from

  abbrev raised : List ℕ → List ℕ
  raised piece = map (λ level. depth front + level) piece

  module _ (m : ℕ) (below : m < count) (levels piece : List ℕ) (size : length piece ≡ m) (are : levels ≡ front ++ raised piece) where
    in_front : (n : ℕ) → n ≤ from → level_among clash levels (from + m) n ≡ depth (take n front)
    in_front zero within = refl
    in_front (suc n) within =
        let next : suc n ≡ n + 1 = omega arith in
        let here : clash n (from + m) ≡ true = before n (from + m) (omega arith) (omega arith) (omega arith) in
        let same : slice_index levels n ≡ slice_index front n =
        ap (λ (xs : List ℕ). slice_index xs n) are ∙ get_or_append_left front (raised piece) 0 n (omega (arith, length_levels_of clash from)) in
        ap (level_among clash levels (from + m)) next
        ∙ (level_more clash levels (from + m) n
        ∙ (ap (λ b. cond b (max (level_among clash levels (from + m) n) (slice_index levels n + 1)) (level_among clash levels (from + m) n)) here
        ∙ (ap (λ (x : ℕ). max (level_among clash levels (from + m) n) (x + 1)) same
        ∙ (ap (λ (x : ℕ). max x (slice_index front n + 1)) (in_front n (omega arith))
        ∙ (sym (depth_more front n (omega (arith, length_levels_of clash from))) ∙ ap (λ k. depth (take k front)) (sym next))))))

    all_front : level_among clash levels (from + m) from ≡ depth front
    all_front = in_front from (omega arith) ∙ ap depth (take_all from front (omega (arith, length_levels_of clash from)))

    raised_at : (k : ℕ) → k < m → slice_index levels (from + k) ≡ depth front + slice_index piece k
    raised_at k low =
        ap (λ (xs : List ℕ). slice_index xs (from + k)) are
        ∙ (ap (λ n. slice_index (front ++ raised piece) (n + k)) (sym (length_levels_of clash from))
        ∙ (get_or-append-add front (raised piece) k 0 ∙ get_or-map (λ level. depth front + level) piece k 0 0 (omega (arith, size))))

    in_piece : (k : ℕ) → k ≤ m → level_among clash levels (from + m) (from + k) ≡ depth front + level_among own piece m k
    in_piece zero within = ap (level_among clash levels (from + m)) (let e : from + 0 ≡ from = omega arith in e) ∙ (all_front ∙ omega arith)
    in_piece (suc k) within =
        let low : k < m = omega arith in
        let next : from + suc k ≡ from + k + 1 = omega arith in
        let own_next : suc k ≡ k + 1 = omega arith in
        let so_far = in_piece k (omega arith) in
        let at = raised_at k low in
        let same : clash (from + k) (from + m) ≡ own k m = inside k m low below in
        let step : level_among clash levels (from + m) (from + suc k) ≡ cond (own k m) (max (level_among clash levels (from + m) (from + k)) (slice_index levels (from + k) + 1)) (level_among clash levels (from + m) (from + k)) =
        ap (level_among clash levels (from + m)) next
        ∙ (level_more clash levels (from + m) (from + k)
        ∙ ap (λ b. cond b (max (level_among clash levels (from + m) (from + k)) (slice_index levels (from + k) + 1)) (level_among clash levels (from + m) (from + k))) same) in
        let own_step : level_among own piece m (suc k) ≡ cond (own k m) (max (level_among own piece m k) (slice_index piece k + 1)) (level_among own piece m k) =
        ap (level_among own piece m) own_next ∙ level_more own piece m k in
        step ∙ (added (own k m) (level_among clash levels (from + m) (from + k)) (slice_index levels (from + k)) (level_among own piece m k) (slice_index piece k) so_far at
        ∙ ap (λ (x : ℕ). depth front + x) (sym own_step))
      where
        added : (b : Bool) (all at mine own_at : ℕ) → all ≡ depth front + mine → at ≡ depth front + own_at → cond b (max all (at + 1)) all ≡ depth front + cond b (max mine (own_at + 1)) mine
        added true all at mine own_at one two = omega (arith, one, two)
        added false all at mine own_at one two = one

    pub level_raised : level_over clash levels (from + m) ≡ depth front + level_over own piece m
    level_raised = in_piece m (omega arith)

  pub levels_raised : (m : ℕ) → m ≤ count → clash_levels clash (from + m) ≡ front ++ raised (clash_levels own m)
  levels_raised zero within =
      ap (clash_levels clash) (let e : from + 0 ≡ from = omega arith in e) ∙ sym (append-nil front)
  levels_raised (suc m) within =
      let so_far = levels_raised m (omega arith) in
      let piece = clash_levels own m in
      let all = clash_levels clash (from + m) in
      let next : from + suc m ≡ from + m + 1 = omega arith in
      let level = level_raised m (omega arith) all piece (length_levels_of own m) so_far in
      let last : List ℕ = level_over own piece m ∷ [] in
      ap (clash_levels clash) next
      ∙ (levels_of_more clash (from + m)
      ∙ (ap (λ (x : ℕ). all ++ x ∷ []) level
      ∙ (ap (λ (xs : List ℕ). xs ++ raised last) so_far
      ∙ (append_assoc front (raised piece) (raised last)
      ∙ (ap (λ (xs : List ℕ). front ++ xs) (sym (map-append (λ x. depth front + x) piece last))
      ∙ ap (λ (xs : List ℕ). front ++ raised xs) (sym (levels_of_more own m) ∙ ap (clash_levels own) (let e : m + 1 ≡ suc m = omega arith in e)))))))

-- what a fence makes clash
at_range : (jobs : List Job) (from to i : ℕ) → from + i < to → job_at (slice_range jobs from to) i ≡ job_at jobs (from + i)
at_range jobs from to i below =
    get_or-take (to - from) (drop from jobs) i no_op_job (omega (arith, below)) ∙ get_or-drop from jobs i no_op_job

pub size_of_range : (jobs : List Job) (from to : ℕ) → to ≤ length jobs → length (slice_range jobs from to) ≡ to - from
size_of_range jobs from to within =
    omega (arith, length-take (to - from) (drop from jobs), length-drop from jobs, within)

pub fence_clashes : (jobs : List Job) (fence i k : ℕ) → is_fenced (job_at jobs fence) ≡ true → i < fence → fence ≤ k → k < length jobs → fenced_clash jobs i k ≡ true
fence_clashes jobs fence i k fenced low high below =
    let at : i + 1 + (fence - (i + 1)) ≡ fence = omega (arith, low) in
    let same : job_at (slice_range jobs (i + 1) (k + 1)) (fence - (i + 1)) ≡ job_at jobs fence =
    at_range jobs (i + 1) (k + 1) (fence - (i + 1)) (omega (arith, low, high)) ∙ ap (job_at jobs) at in
    or_right (clash_of jobs i k) (list_any is_fenced (slice_range jobs (i + 1) (k + 1)))
    (list_any_at is_fenced (slice_range jobs (i + 1) (k + 1)) (fence - (i + 1)) no_op_job (omega (arith, size_of_range jobs (i + 1) (k + 1) (omega (arith, below)), low, high)) (ap is_fenced same ∙ fenced))

no_fence_between : (jobs : List Job) (i k : ℕ) → k < length jobs → ((j : ℕ) → i < j → j ≤ k → is_fenced (job_at jobs j) ≡ false) → list_any is_fenced (slice_range jobs (i + 1) (k + 1)) ≡ false
no_fence_between jobs i k below none =
    let size = size_of_range jobs (i + 1) (k + 1) (omega (arith, below)) in
    any_none (slice_range jobs (i + 1) (k + 1)) (λ j inside.
    let low : i + 1 + j < k + 1 = omega (arith, size, inside) in
    ap is_fenced (at_range jobs (i + 1) (k + 1) j low) ∙ none (i + 1 + j) (omega arith) (omega (arith, low)))
  where
    any_none : (xs : List Job) → ((j : ℕ) → j < length xs → is_fenced (job_at xs j) ≡ false) → list_any is_fenced xs ≡ false
    any_none [] none = refl
    any_none (x ∷ xs) none = or_from (is_fenced x) (list_any is_fenced xs) (none 0 (omega arith)) (any_none xs (λ j inside. none (suc j) (omega (arith, inside))))

pub clash_without_fence : (jobs : List Job) (i k : ℕ) → k < length jobs → ((j : ℕ) → i < j → j ≤ k → is_fenced (job_at jobs j) ≡ false) → fenced_clash jobs i k ≡ clash_of jobs i k
clash_without_fence jobs i k below none =
    ap (λ b. clash_of jobs i k || b) (no_fence_between jobs i k below none) ∙ or_false (clash_of jobs i k)
  where
    or_false : (b : Bool) → (b || false) ≡ b
    or_false true = refl
    or_false false = refl

-- a piece of a list: its first job may be fenced, no other is
pub piece_levels : (jobs : List Job) (from to : ℕ) → from ≤ to → to ≤ length jobs → ((i : ℕ) → i < from → is_fenced (job_at jobs from) ≡ true) → ((j : ℕ) → from < j → j < to → is_fenced (job_at jobs j) ≡ false)
    → clash_levels (fenced_clash jobs) to ≡ clash_levels (fenced_clash jobs) from ++ map (λ level. depth (clash_levels (fenced_clash jobs) from) + level) (levels (slice_range jobs from to))
piece_levels jobs from to order within fence none =
    let piece = slice_range jobs from to in
    let count = to - from in
    let size = size_of_range jobs from to within in
    let all : from + count ≡ to = omega arith in
    let clash_inside : (j k : ℕ) → j < k → k < count → fenced_clash jobs (from + j) (from + k) ≡ clash_of piece j k =
    λ j k low high.
    clash_without_fence jobs (from + j) (from + k) (omega (arith, high)) (λ at above under. none at (omega (arith, above)) (omega (arith, under, high)))
    ∙ sym (ap (λ (a : Job). conflict a (job_at piece k)) (at_range jobs from to j (omega (arith, low, high)))
    ∙ ap (conflict (job_at jobs (from + j))) (at_range jobs from to k (omega (arith, high)))) in
    let clash_before : (i k : ℕ) → i < from → from ≤ k → k < from + count → fenced_clash jobs i k ≡ true =
    λ i k low high below. fence_clashes jobs from i k (fence i low) low high (omega (arith, below)) in
    ap (clash_levels (fenced_clash jobs)) (sym all)
    ∙ (levels_raised (fenced_clash jobs) (clash_of piece) from count clash_before clash_inside count (omega arith)
    ∙ ap (λ n. clash_levels (fenced_clash jobs) from ++ map (λ level. depth (clash_levels (fenced_clash jobs) from) + level) (clash_levels (clash_of piece) n)) (sym size))

-- the first piece has no levels below it
pub first_levels : (jobs : List Job) (to : ℕ) → to ≤ length jobs → ((j : ℕ) → 0 < j → j < to → is_fenced (job_at jobs j) ≡ false) → levels (slice_range jobs 0 to) ≡ clash_levels (fenced_clash jobs) to
first_levels jobs to within none =
    sym (piece_levels jobs 0 to (omega arith) within (λ i low. absurd (omega (arith, low))) none ∙ not_raised (levels (slice_range jobs 0 to)))
  where
    not_raised : (xs : List ℕ) → map (λ level. 0 + level) xs ≡ xs
    not_raised [] = refl
    not_raised (x ∷ xs) = ap₂ (λ (first : ℕ) (rest : List ℕ). first ∷ rest) (let e : 0 + x ≡ x = omega arith in e) (not_raised xs)

-- the levels of a piece fit where there are so few places
pub raised_fit : (jobs : List Job) (from : ℕ) (piece : List Job) → from + length piece ≤ 2 ^ 32 → All (λ level. depth (clash_levels (fenced_clash jobs) from) + level < 2 ^ 32) (levels piece)
raised_fit jobs from piece few at d below =
    let inside : at < length piece = omega (arith, below, length_levels_of (clash_of piece) (length piece)) in
    let same : get_or (levels piece) at d ≡ slice_index (levels piece) at = get_or_default (levels piece) at d 0 below in
    omega (arith, same, level_le (clash_of piece) (length piece) at inside, depth_le (fenced_clash jobs) from, few, inside)
