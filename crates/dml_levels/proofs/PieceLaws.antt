-- The waves of a batch as one list are those of its pieces.
use Rattle.std.proofs.Common.{◌≡◌, ℕ, ◌+◌, ◌-◌, ◌<◌, ◌≤◌, zero, suc, Bool, true, false, cond, List, [], ◌∷◌, ◌++◌, length, map, flat_map, fold, take, drop, Option, None, Some, refl, sym, ◌∙◌, ap, ap₂, subst, arith, All}
use Rattle.std.proofs.lemmas.List.{drop-map, drop-take, get_or-drop, get_or-map, get_or-take, length-drop, length-map, length-take, take-map, take-take}
use Rattle.std.proofs.lemmas.List.Elements.{All-cons, All-filter, All-head, All-nil, All-push, All-tail}
use Rattle.std.proofs.lemmas.Nat.{and_mask}
use Rattle.std.specs.List.{range_with_len, sum_by}
use Rattle.std.specs.Prelude.{bit_and, is_some, nat_eq, nat_le, option_map, slice_index, slice_range, unwrap_or, ◌&&◌, ◌||◌}
use Rattle.dml_types.specs.declared.jobs.Job.{Job}
use Rattle.dml_types.specs.declared.operations.Op.{Op}
use Rattle.dml_types.specs.declared.operations.Op.TheVariants.{NoOp, Move, Fill, Compare, ComparePattern, CreateDelta, ApplyDelta, Dualcast}
use Rattle.dml_types.specs.Job.{is_fenced, no_op_job, op_of, unfenced}
use Rattle.dml_types.specs.Conflict.{conflict, fenced_clash, fenced_levels, clash_levels}
use Rattle.dml_types.specs.Refusal.{need, operation_need, refusal}
use Rattle.dml_types.proofs.FenceLemmas.{unfenced_free}
use Rattle.dml_order.specs.Waves.{cut_behind, depth, further, is_nil, level_places, level_waves, waves_of}
use Rattle.dml_order.proofs.LevelLemmas.{length_levels_of}
use Rattle.dml_levels.specs.Laws.{unless_refused}
use Rattle.dml_levels.specs.Pieces.{IsPiece, PiecesAreWaves, fenced_unless_refused, one_list, piece_of, waves_by_levels}
use Rattle.dml_levels.specs.Tasks.{task_count, task_count_by}
use Rattle.dml_levels.specs.Waves.{fits_wave, job_at, most_tasks, needs_of, tasks_of}
use Rattle.dml_levels.proofs.FenceLemmas.{clash_without_fence}
use Rattle.dml_levels.proofs.PartLaws.{conflict_unfenced, fences_part_waves, levels_alike}

abbrev Below : ℕ → List ℕ → Type 0
Below n places = All (λ i. i < n) places

-- what fits alike is cut alike
cut_alike : (fits own : List ℕ → Bool) (n : ℕ) → ((these : List ℕ) → Below n these → fits these ≡ own these) → (places wave : List ℕ) → Below n places → Below n wave → cut_behind fits wave places ≡ cut_behind own wave places
cut_alike fits own n same [] wave below kept = refl
cut_alike fits own n same (i ∷ places) wave below kept =
    let here = All-head (λ k. k < n) i places below in
    let rest = All-tail (λ k. k < n) i places below in
    let more = All-push (λ k. k < n) wave i kept here in
    ap (λ b. cond (is_nil wave || b) (cut_behind fits (wave ++ i ∷ []) places) (wave ∷ cut_behind fits (i ∷ []) places)) (same (wave ++ i ∷ []) more)
    ∙ ap₂ (λ (front behind : List (List ℕ)). cond (is_nil wave || own (wave ++ i ∷ [])) front (wave ∷ behind)) (cut_alike fits own n same places (wave ++ i ∷ []) rest more)
    (cut_alike fits own n same places (i ∷ []) rest (All-cons (λ k. k < n) i [] here (All-nil (λ k. k < n))))

range_below : (n from count : ℕ) → from + count ≤ n → Below n (range_with_len from count)
range_below n from zero within = All-nil (λ k. k < n)
range_below n from (suc count) within =
    All-cons (λ k. k < n) from (range_with_len (from + 1) count) (omega (arith, within)) (range_below n (from + 1) count (omega (arith, within)))

flat_alike : (f g : ℕ → List (List ℕ)) → ((x : ℕ) → f x ≡ g x) → (xs : List ℕ) → flat_map f xs ≡ flat_map g xs
flat_alike f g same [] = refl
flat_alike f g same (x ∷ xs) = ap₂ (λ (first rest : List (List ℕ)). first ++ rest) (same x) (flat_alike f g same xs)

waves_alike : (fits own : List ℕ → Bool) (levels : List ℕ) → ((these : List ℕ) → Below (length levels) these → fits these ≡ own these) → waves_of fits levels ≡ waves_of own levels
waves_alike fits own levels same =
    let n = length levels in
    flat_alike (level_waves fits levels) (level_waves own levels)
    (λ level.
    let at : ℕ → Bool = λ i. nat_eq (slice_index levels i) level in
    cut_alike fits own n same (level_places levels level) [] (All-filter at (λ k. k < n) (range_with_len 0 n) (range_below n 0 n (omega arith))) (All-nil (λ k. k < n)))
    (range_with_len 0 (depth levels))

-- sums of what is alike
sum_alike : (f g : ℕ → ℕ) (n : ℕ) → ((i : ℕ) → i < n → f i ≡ g i) → (xs : List ℕ) → Below n xs → sum_by f xs ≡ sum_by g xs
sum_alike f g n same xs below = from_sum 0 xs below
  where
    from_sum : (sum : ℕ) (xs : List ℕ) → Below n xs → fold (λ a x. a + f x) sum xs ≡ fold (λ a x. a + g x) sum xs
    from_sum sum [] below = refl
    from_sum sum (x ∷ xs) below =
        ap (λ (k : ℕ). fold (λ a y. a + f y) (sum + k) xs) (same x (All-head (λ k. k < n) x xs below))
        ∙ from_sum (sum + g x) xs (All-tail (λ k. k < n) x xs below)

sum_moved : (f move : ℕ → ℕ) (xs : List ℕ) → sum_by f (map move xs) ≡ sum_by (λ i. f (move i)) xs
sum_moved f move xs = from_sum 0 xs
  where
    from_sum : (sum : ℕ) (xs : List ℕ) → fold (λ a x. a + f x) sum (map move xs) ≡ fold (λ a x. a + f (move x)) sum xs
    from_sum sum [] = refl
    from_sum sum (x ∷ xs) = from_sum (sum + f (move x)) xs

-- neither the staging nor the chunks of a job are read off its flags
need_unfenced : (job : Job) → need (unfenced job) ≡ need job
need_unfenced job =
    elim (op_of job) as (λ (o : Option Op). unwrap_or (option_map (λ op. operation_need op (unfenced job)) o) 0 ≡ unwrap_or (option_map (λ op. operation_need op job) o) 0) [
      | None ↦ refl
      | Some op ↦ same op
    ]
  where
    same : (op : Op) → operation_need op (unfenced job) ≡ operation_need op job
    same NoOp = refl
    same Move = refl
    same Fill = refl
    same Compare = refl
    same ComparePattern = refl
    same CreateDelta = refl
    same ApplyDelta = refl
    same Dualcast = refl

tasks_unfenced : (job : Job) (chunk : ℕ) → task_count (unfenced job) chunk ≡ task_count job chunk
tasks_unfenced job chunk =
    elim (op_of job) as (λ (o : Option Op). unwrap_or (option_map (λ op. task_count_by op (unfenced job) chunk) o) 0 ≡ unwrap_or (option_map (λ op. task_count_by op job chunk) o) 0) [
      | None ↦ refl
      | Some op ↦ same op
    ]
  where
    same : (op : Op) → task_count_by op (unfenced job) chunk ≡ task_count_by op job chunk
    same NoOp = refl
    same Move = refl
    same Fill = refl
    same Compare = refl
    same ComparePattern = refl
    same CreateDelta = refl
    same ApplyDelta = refl
    same Dualcast = refl

-- places of one list fit as those of another where their jobs need as much
fits_alike : (jobs own : List Job) (move : ℕ → ℕ) (staging chunk n : ℕ) → ((i : ℕ) → i < n → job_at own i ≡ unfenced (job_at jobs (move i))) → (places : List ℕ) → Below n places → fits_wave jobs staging chunk (map move places) ≡ fits_wave own staging chunk places
fits_alike jobs own move staging chunk n at places below =
    let needs : needs_of jobs (map move places) ≡ needs_of own places =
    sum_moved (λ i. need (job_at jobs i)) move places
    ∙ sum_alike (λ i. need (job_at jobs (move i))) (λ i. need (job_at own i)) n (λ i low. sym (ap need (at i low) ∙ need_unfenced (job_at jobs (move i)))) places below in
    let tasks : tasks_of jobs chunk (map move places) ≡ tasks_of own chunk places =
    sum_moved (λ i. task_count (job_at jobs i) chunk) move places
    ∙ sum_alike (λ i. task_count (job_at jobs (move i)) chunk) (λ i. task_count (job_at own i) chunk) n
    (λ i low. sym (ap (λ (j : Job). task_count j chunk) (at i low) ∙ tasks_unfenced (job_at jobs (move i)) chunk)) places below in
    ap₂ (λ a b. nat_le a staging && nat_le b most_tasks) needs tasks

fits_before : (jobs : List Job) (count to staging chunk : ℕ) → count ≤ to → (places : List ℕ) → Below count places → fits_wave (take to jobs) staging chunk places ≡ fits_wave (take count jobs) staging chunk places
fits_before jobs count to staging chunk order places below =
    let at : (i : ℕ) → i < count → job_at (take to jobs) i ≡ job_at (take count jobs) i =
    λ i low. get_or-take to jobs i no_op_job (omega (arith, low, order)) ∙ sym (get_or-take count jobs i no_op_job low) in
    ap₂ (λ a b. nat_le a staging && nat_le b most_tasks)
    (sum_alike (λ i. need (job_at (take to jobs) i)) (λ i. need (job_at (take count jobs) i)) count (λ i low. ap need (at i low)) places below)
    (sum_alike (λ i. task_count (job_at (take to jobs) i) chunk) (λ i. task_count (job_at (take count jobs) i) chunk) count (λ i low. ap (λ (j : Job). task_count j chunk) (at i low)) places below)

-- a list of which at most the first job is fenced has the levels of the same list without fences
free_levels : (jobs : List Job) → ((j : ℕ) → 0 < j → j < length jobs → is_fenced (job_at jobs j) ≡ false) → fenced_levels jobs ≡ fenced_levels (map unfenced jobs)
free_levels jobs none =
    let free = map unfenced jobs in
    let long : length free ≡ length jobs = length-map jobs unfenced in
    let at : (i : ℕ) → i < length jobs → job_at free i ≡ unfenced (job_at jobs i) = λ i below. get_or-map unfenced jobs i no_op_job no_op_job below in
    levels_alike (fenced_clash jobs) (fenced_clash free) (length jobs)
    (λ j k low below.
    clash_without_fence jobs j k below (λ i above under. none i (omega (arith, above)) (omega (arith, under, below)))
    ∙ (sym (conflict_unfenced (job_at jobs j) (job_at jobs k))
    ∙ (sym (ap₂ conflict (at j (omega (arith, low, below))) (at k below))
    ∙ sym (clash_without_fence free j k (omega (arith, below, long)) (λ i above under. ap is_fenced (at i (omega (arith, under, below))) ∙ unfenced_free (job_at jobs i))))))
    ∙ ap (clash_levels (fenced_clash free)) (sym long)

-- a job in the one list, with its fence and without
bit_kept : (flags : ℕ) → bit_and (bit_and flags 1) 1 ≡ bit_and flags 1
bit_kept flags = omega (arith, and_mask (bit_and flags 1) 1, and_mask flags 1)

pub fence_kept : (staging : ℕ) (job : Job) → is_fenced (fenced_unless_refused staging job) ≡ is_fenced job
fence_kept staging job =
    elim (is_some (refusal (unfenced job) staging)) as (λ b. is_fenced (cond b (record no_op_job { flags = bit_and job.flags 1 }) job) ≡ is_fenced job) [
      | true ↦ ap (λ n. nat_eq n 1) (bit_kept job.flags)
      | false ↦ refl
    ]

pub free_kept : (staging : ℕ) (job : Job) → unfenced (fenced_unless_refused staging job) ≡ unless_refused staging (unfenced job)
free_kept staging job =
    elim (is_some (refusal (unfenced job) staging)) as (λ b. unfenced (cond b (record no_op_job { flags = bit_and job.flags 1 }) job) ≡ cond b no_op_job (unfenced job)) [
      | true ↦ ap (λ (f : ℕ). record no_op_job { flags = f }) (let e : bit_and job.flags 1 - bit_and (bit_and job.flags 1) 1 ≡ 0 = omega (arith, bit_kept job.flags) in e)
      | false ↦ refl
    ]

pub all_free_kept : (staging : ℕ) (jobs : List Job) → map unfenced (one_list staging jobs) ≡ map (unless_refused staging) (map unfenced jobs)
all_free_kept staging [] = refl
all_free_kept staging (job ∷ jobs) = ap₂ (λ (first : Job) (rest : List Job). first ∷ rest) (free_kept staging job) (all_free_kept staging jobs)

-- a piece of the one list without its fence
piece_free : (staging : ℕ) (jobs : List Job) (from to : ℕ) → map unfenced (slice_range (one_list staging jobs) from to) ≡ piece_of staging jobs from to
piece_free staging jobs from to =
    let n = to - from in
    let g = fenced_unless_refused staging in
    ap (λ (l : List Job). map unfenced (take n l)) (drop-map g from jobs)
    ∙ (ap (map unfenced) (take-map g n (drop from jobs))
    ∙ (all_free_kept staging (take n (drop from jobs))
    ∙ ap (map (unless_refused staging)) (sym (ap (take n) (drop-map unfenced from jobs) ∙ take-map unfenced n (drop from jobs)))))

-- a list begins with nothing, or at a fence
not_moved : (xs : List ℕ) → map (λ i. 0 + i) xs ≡ xs
not_moved [] = refl
not_moved (x ∷ xs) = ap₂ (λ (first : ℕ) (rest : List ℕ). first ∷ rest) (let e : 0 + x ≡ x = omega arith in e) (not_moved xs)

not_further : (waves : List (List ℕ)) → further 0 waves ≡ waves
not_further [] = refl
not_further (wave ∷ waves) = ap₂ (λ (first : List ℕ) (rest : List (List ℕ)). first ∷ rest) (not_moved wave) (not_further waves)

parted : (list : List Job) (fits : List ℕ → Bool) (from : ℕ) → from < length list → (0 < from → is_fenced (job_at list from) ≡ true)
    → waves_of fits (fenced_levels list) ≡ waves_of fits (fenced_levels (take from list)) ++ further from (waves_of (λ places. fits (map (λ i. from + i) places)) (fenced_levels (drop from list)))
parted list fits zero below fence =
    waves_alike fits (λ places. fits (map (λ i. 0 + i) places)) (fenced_levels list) (λ these low. ap fits (sym (not_moved these)))
    ∙ sym (not_further (waves_of (λ places. fits (map (λ i. 0 + i) places)) (fenced_levels list)))
parted list fits (suc n) below fence =
    (fences_part_waves list fits (suc n) (record { below = below; fenced = fence (omega arith) })).all

module _ (jobs : List Job) (staging chunk from to : ℕ) (is : IsPiece jobs from to) where
  abbrev list : List Job
  list = one_list staging jobs

  abbrev whole : List Job
  whole = take to list

  abbrev piece : List Job
  piece = slice_range list from to

  long : length list ≡ length jobs
  long = length-map jobs (fenced_unless_refused staging)

  long_whole : length whole ≡ to
  long_whole = omega (arith, length-take to list, long, is.within)

  long_piece : length piece ≡ to - from
  long_piece = omega (arith, length-take (to - from) (drop from list), length-drop from list, long, is.within)

  fence_at : (i : ℕ) → i < length jobs → is_fenced (job_at list i) ≡ is_fenced (job_at jobs i)
  fence_at i below =
      ap is_fenced (get_or-map (fenced_unless_refused staging) jobs i no_op_job no_op_job below) ∙ fence_kept staging (job_at jobs i)

  at_piece : (i : ℕ) → i < to - from → job_at piece i ≡ job_at list (from + i)
  at_piece i low = get_or-take (to - from) (drop from list) i no_op_job low ∙ get_or-drop from list i no_op_job

  behind_is : drop from whole ≡ piece
  behind_is =
      ap (λ n. drop from (take n list)) (let e : to ≡ from + (to - from) = omega (arith, is.order) in e) ∙ drop-take from (to - from) list

  own_free : (j : ℕ) → 0 < j → j < length piece → is_fenced (job_at piece j) ≡ false
  own_free j above below =
      let low : j < to - from = omega (arith, below, long_piece) in
      ap is_fenced (at_piece j low)
      ∙ (fence_at (from + j) (omega (arith, low, is.within)) ∙ is.free (from + j) (omega (arith, above)) (omega (arith, low)))

  own_levels : fenced_levels (drop from whole) ≡ fenced_levels (piece_of staging jobs from to)
  own_levels =
      ap fenced_levels behind_is ∙ (free_levels piece own_free ∙ ap fenced_levels (piece_free staging jobs from to))

  size_of_levels : (these : List Job) → length (fenced_levels these) ≡ length these
  size_of_levels these = length_levels_of (fenced_clash these) (length these)

  front_fits : (these : List ℕ) → Below (length (fenced_levels (take from list))) these → fits_wave whole staging chunk these ≡ fits_wave (take from list) staging chunk these
  front_fits these below =
      let size : length (fenced_levels (take from list)) ≡ from = omega (arith, size_of_levels (take from list), length-take from list, long, is.within, is.order) in
      fits_before list from to staging chunk (omega (arith, is.order)) these (subst (λ n. Below n these) size below)

  own_fits : (these : List ℕ) → Below (length (fenced_levels (piece_of staging jobs from to))) these → fits_wave whole staging chunk (map (λ i. from + i) these) ≡ fits_wave (piece_of staging jobs from to) staging chunk these
  own_fits these below =
      let own = piece_of staging jobs from to in
      let count : length own ≡ to - from = sym (ap length (piece_free staging jobs from to)) ∙ (length-map piece unfenced ∙ long_piece) in
      let at : (i : ℕ) → i < to - from → job_at own i ≡ unfenced (job_at whole (from + i)) =
      λ i low.
      ap (λ (l : List Job). job_at l i) (sym (piece_free staging jobs from to))
      ∙ (get_or-map unfenced piece i no_op_job no_op_job (omega (arith, low, long_piece))
      ∙ ap unfenced (at_piece i low ∙ sym (get_or-take to list (from + i) no_op_job (omega (arith, low))))) in
      fits_alike whole own (λ i. from + i) staging chunk (to - from) at these (subst (λ n. Below n these) (size_of_levels own ∙ count) below)

  piece_is_waves : waves_by_levels staging chunk whole ≡ waves_by_levels staging chunk (take from list) ++ further from (waves_by_levels staging chunk (piece_of staging jobs from to))
  piece_is_waves =
      let fits = fits_wave whole staging chunk in
      let moved : List ℕ → Bool = λ places. fits (map (λ i. from + i) places) in
      let fence : 0 < from → is_fenced (job_at whole from) ≡ true =
      λ some. ap is_fenced (get_or-take to list from no_op_job is.order) ∙ (fence_at from (omega (arith, is.order, is.within)) ∙ is.begins some) in
      parted whole fits from (omega (arith, is.order, long_whole)) fence
      ∙ ap₂ (λ (front behind : List (List ℕ)). front ++ further from behind)
      (ap (λ (l : List Job). waves_of fits (fenced_levels l)) (take-take from to list (omega (arith, is.order)))
      ∙ waves_alike fits (fits_wave (take from list) staging chunk) (fenced_levels (take from list)) front_fits)
      (ap (waves_of moved) own_levels
      ∙ waves_alike moved (fits_wave (piece_of staging jobs from to) staging chunk) (fenced_levels (piece_of staging jobs from to)) own_fits)

pub pieces_are_waves : PiecesAreWaves
pieces_are_waves jobs staging chunk from to is = piece_is_waves jobs staging chunk from to is
