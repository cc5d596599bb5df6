-- The law of order with fences.
use Rattle.std.proofs.Common.{◌≡◌, ℕ, ◌+◌, ◌-◌, ◌<◌, ◌≤◌, ◌⊎◌, zero, suc, Bool, true, false, List, [], ◌∷◌, ◌++◌, length, filter, get_or, set, take, drop, refl, sym, ◌∙◌, ap, subst, arith, ⊎_elim, append_assoc, All}
use Rattle.std.proofs.lemmas.Bool.{cases_Bool, cases_lt, or_cases, or_left, or_parts, or_right, eqb-true, false≢true, le-ltb, lt-ltb}
use Rattle.std.proofs.lemmas.List.{append-nil, drop_more, length-take, take_more}
use Rattle.std.proofs.lemmas.List.Elements.{All-head, All-tail, filter-append}
use Rattle.std.proofs.lemmas.List.Folds.{list_any-append}
use Rattle.std.specs.Prelude.{nat_eq, nat_lt, slice_index}
use Rattle.std.specs.List.{range_with_len}
use Rattle.dml_types.specs.declared.jobs.Job.{Job}
use Rattle.dml_types.specs.declared.records.Record.{Record}
use Rattle.dml_types.specs.Job.{no_op_job}
use Rattle.dml_types.specs.Conflict.{fenced_clash, fenced_levels}
use Rattle.dml_types.specs.Memory.{Memory}
use Rattle.dml_types.specs.Step.{step, memory_after, records_of}
use Rattle.dml_types.proofs.StepLemmas.{length_records_of, memory_after_append, records_of_append}
use Rattle.dml_order.specs.Order.{run_all, is_in, IsOrder, all_below}
use Rattle.dml_order.specs.Waves.{ComesBefore, IsOfOneLevel, joined, waves_of}
use Rattle.dml_order.proofs.OrderLemmas.{filter_all, filter_none, filter_range_same, range_split, run_all_append}
use Rattle.dml_order.proofs.KeepsLemmas.{order_picks, picks_front, picks_taken}
use Rattle.dml_order.proofs.LevelLemmas.{levels_rise, range_more}
use Rattle.dml_order.proofs.WaveFacts.{waves_of_one_level, waves_rise}
use Rattle.dml_order.proofs.WaveLemmas.{joined_append, waves_order}
use Rattle.dml_levels.specs.Waves.{job_at}
use Rattle.dml_levels.specs.Laws.{Progress, begun, carried}
use Rattle.dml_levels.specs.Fences.{EndsAtFence, FencesOnlyAdd, FencesPart, FrontIsFold, IsFence, WavesBeforeFence}
use Rattle.dml_levels.proofs.FenceLemmas.{fence_clashes}
use Rattle.dml_levels.proofs.LawLemmas.{carried_commutes}

pub fences_only_add : FencesOnlyAdd
fences_only_add jobs these staging holds i k low below apart = holds i k low below (or_parts _ _ apart).0

pub fences_part : FencesPart
fences_part jobs fence i k is low high below =
    levels_rise (fenced_clash jobs) (length jobs) i k (omega (arith, low, high)) below (fence_clashes jobs fence i k is.fenced low high below)

-- a place that stands in a list parts it
record Split (i : ℕ) (xs : List ℕ) : Type 0 where
  before : List ℕ
  behind : List ℕ
  whole : xs ≡ before ++ i ∷ behind

split_at : (i : ℕ) (xs : List ℕ) → is_in i xs ≡ true → Split i xs
split_at i [] found = absurd (false≢true found)
split_at i (x ∷ xs) found =
    ⊎_elim (λ here. record { before = []; behind = xs; whole = ap (λ (k : ℕ). k ∷ xs) (sym (eqb-true i x here)) })
    (λ later. let rest = split_at i xs later in record { before = x ∷ rest.before; behind = rest.behind; whole = ap (λ (ys : List ℕ). x ∷ ys) rest.whole })
    (or_cases (nat_eq i x) (is_in i xs) found)

in_either : (i : ℕ) (xs ys : List ℕ) → is_in i (xs ++ ys) ≡ true → (is_in i xs ≡ true) ⊎ (is_in i ys ≡ true)
in_either i xs ys found = or_cases (is_in i xs) (is_in i ys) (sym (list_any-append (nat_eq i) xs ys) ∙ found)

in_right : (i : ℕ) (xs ys : List ℕ) → is_in i ys ≡ true → is_in i (xs ++ ys) ≡ true
in_right i xs ys found = list_any-append (nat_eq i) xs ys ∙ or_right (is_in i xs) (is_in i ys) found

in_left : (i : ℕ) (xs ys : List ℕ) → is_in i xs ≡ true → is_in i (xs ++ ys) ≡ true
in_left i xs ys found = list_any-append (nat_eq i) xs ys ∙ or_left (is_in i xs) (is_in i ys) found

module _ (jobs : List Job) (fits : List ℕ → Bool) (fence : ℕ) (front : List (List ℕ)) (next : List ℕ) (behind : List (List ℕ)) (is : IsFence jobs fence) (cut : waves_of fits (fenced_levels jobs) ≡ front ++ next ∷ behind) (ends : EndsAtFence fence front next) where
  abbrev level_list : List ℕ
  level_list = fenced_levels jobs

  abbrev order : List ℕ
  order = joined front ++ (next ++ joined behind)

  whole : joined (waves_of fits level_list) ≡ order
  whole = ap joined cut ∙ joined_append front (next ∷ behind)

  once : IsOrder (fenced_clash jobs) (length jobs) order
  once = subst (IsOrder (fenced_clash jobs) (length jobs)) whole (waves_order fits (fenced_clash jobs) (length jobs))

  reached_below : ends.reached < length jobs
  reached_below = once.below ends.reached (in_right ends.reached (joined front) (next ++ joined behind) (in_left ends.reached next (joined behind) ends.in_next))

  lower : (k : ℕ) → k < fence → slice_index level_list k < slice_index level_list ends.reached
  lower k low = fences_part jobs fence k ends.reached is low ends.behind reached_below

  at_seam : (waves : List (List ℕ)) → All (IsOfOneLevel level_list) (waves ++ next ∷ behind) → IsOfOneLevel level_list next
  at_seam [] all = All-head (IsOfOneLevel level_list) next behind all
  at_seam (wave ∷ waves) all = at_seam waves (All-tail (IsOfOneLevel level_list) wave (waves ++ next ∷ behind) all)

  next_is_one : IsOfOneLevel level_list next
  next_is_one = at_seam front (subst (All (IsOfOneLevel level_list)) cut (waves_of_one_level fits level_list))

  comes : (k : ℕ) → is_in k (joined behind) ≡ true → ComesBefore level_list ends.reached k
  comes k found =
      let parts = split_at k (joined behind) found in
      let before = joined front ++ (next ++ parts.before) in
      let split : order ≡ before ++ k ∷ parts.behind =
      ap (λ (rest : List ℕ). joined front ++ (next ++ rest)) parts.whole
      ∙ (ap (λ (rest : List ℕ). joined front ++ rest) (sym (append_assoc next parts.before (k ∷ parts.behind)))
      ∙ sym (append_assoc (joined front) (next ++ parts.before) (k ∷ parts.behind))) in
      waves_rise fits level_list before parts.behind k ends.reached (whole ∙ split)
      (in_right ends.reached (joined front) (next ++ parts.before) (in_left ends.reached next parts.before ends.in_next))

  not_below : (i : ℕ) → is_in i (joined front) ≡ false → (i < fence) ⊎ (fence ≤ i) → fence ≤ i
  not_below i gone s =
      ⊎_elim (λ low.
      let all = once.all i (omega (arith, low, is.below)) in
      ⊎_elim (λ here. absurd (false≢true (sym gone ∙ here)))
      (λ rest.
      ⊎_elim (λ here. absurd (omega (arith, lower i low, next_is_one i ends.reached here ends.in_next)))
      (λ later. not_later i low (comes i later))
      (in_either i next (joined behind) rest))
      (in_either i (joined front) (next ++ joined behind) all))
      (λ high. high) s
    where
      not_later : (k : ℕ) → k < fence → ComesBefore level_list ends.reached k → fence ≤ k
      not_later k low comes_before =
          ⊎_elim (λ less. absurd (omega (arith, lower k low, less))) (λ same. absurd (omega (arith, lower k low, same.0))) comes_before

  those_below : (i : ℕ) → is_in i (joined front) ≡ nat_lt i fence
  those_below i =
      ⊎_elim (λ found. found ∙ sym (lt-ltb i fence (ends.before i found)))
      (λ gone. gone ∙ sym (le-ltb i fence (not_below i gone (cases_lt i fence))))
      (cases_Bool (is_in i (joined front)))

pub waves_before_fence : WavesBeforeFence
waves_before_fence jobs fits fence front next behind is cut ends i = those_below jobs fits fence front next behind is cut ends i

-- the first places in list order
first_places : (n count : ℕ) → count ≤ n → filter (λ i. nat_lt i count) (range_with_len 0 n) ≡ range_with_len 0 count
first_places n count within =
    let rest = n - count in
    let all : n ≡ count + rest = omega arith in
    let below : ℕ → Bool = λ i. nat_lt i count in
    ap (λ k. filter below (range_with_len 0 k)) all
    ∙ (ap (filter below) (range_split 0 count rest)
    ∙ (filter-append below (range_with_len 0 count) (range_with_len (0 + count) rest)
    ∙ (ap (λ (xs : List ℕ). xs ++ filter below (range_with_len (0 + count) rest)) (filter_all count)
    ∙ (ap (λ (xs : List ℕ). range_with_len 0 count ++ xs)
    (filter_range_same below (λ i. false) (0 + count) rest (λ i low high. le-ltb i count (omega (arith, low)))
    ∙ filter_none (λ i. false) (0 + count) rest (λ i. refl))
    ∙ append-nil (range_with_len 0 count)))))

set_seam : {A : Type 0} (xs : List A) (y z : A) (ys : List A) → set (xs ++ y ∷ ys) (length xs) z ≡ xs ++ z ∷ ys
set_seam [] y z ys = refl
set_seam (x ∷ xs) y z ys = ap (λ (rest : List _). x ∷ rest) (set_seam xs y z ys)

run_first : (memory : Memory) (jobs : List Job) (staging : ℕ) (blank : List Record) (count : ℕ) → length blank ≡ length jobs → count ≤ length jobs
    → run_all (carried jobs staging) (begun memory blank) (range_with_len 0 count) ≡ begun (memory_after memory (take count jobs) staging) (records_of memory (take count jobs) staging ++ drop count blank)
run_first memory jobs staging blank zero size within = refl
run_first memory jobs staging blank (suc count) size within =
    let next : suc count ≡ count + 1 = omega arith in
    let done = take count jobs in
    let job = job_at jobs count in
    let image = memory_after memory done staging in
    let records = records_of memory done staging in
    let result = step image job staging in
    let blank_at = get_or blank count result.1 in
    let count_is : length records ≡ count = length_records_of memory done staging ∙ length_take_is jobs count (omega arith) in
    let more : take (count + 1) jobs ≡ done ++ job ∷ [] = take_more jobs count no_op_job (omega arith) in
    let set_at : set (records ++ drop count blank) count result.1 ≡ (records ++ result.1 ∷ []) ++ drop (count + 1) blank =
    ap (λ (rest : List Record). set (records ++ rest) count result.1) (drop_more blank count result.1 (omega (arith, size)))
    ∙ (ap (λ n. set (records ++ blank_at ∷ drop (count + 1) blank) n result.1) (sym count_is)
    ∙ (set_seam records blank_at result.1 (drop (count + 1) blank) ∙ sym (append_assoc records (result.1 ∷ []) (drop (count + 1) blank)))) in
    let want : List Job → ℕ → Progress = λ these n. begun (memory_after memory these staging) (records_of memory these staging ++ drop n blank) in
    ap (λ n. run_all (carried jobs staging) (begun memory blank) (range_with_len 0 n)) next
    ∙ (ap (run_all (carried jobs staging) (begun memory blank)) (range_more count)
    ∙ (run_all_append (carried jobs staging) (begun memory blank) (range_with_len 0 count) (count ∷ [])
    ∙ (ap (λ (now : Progress). carried jobs staging now count) (run_first memory jobs staging blank count size (omega arith))
    ∙ (ap (begun result.0) set_at
    ∙ (ap (λ (m : Memory). begun m ((records ++ result.1 ∷ []) ++ drop (count + 1) blank)) (sym (memory_after_append memory done (job ∷ []) staging))
    ∙ (ap (λ (rs : List Record). begun (memory_after memory (done ++ job ∷ []) staging) (rs ++ drop (count + 1) blank)) (sym (records_of_append memory done (job ∷ []) staging))
    ∙ (ap (λ (these : List Job). want these (count + 1)) (sym more) ∙ ap (λ n. want (take n jobs) n) (sym next))))))))
  where
    length_take_is : (xs : List Job) (n : ℕ) → n ≤ length xs → length (take n xs) ≡ n
    length_take_is xs n inside = omega (arith, length-take n xs, inside)

pub front_is_fold : FrontIsFold
front_is_fold memory jobs staging blank clash front behind count whole size holds is within first =
    let n = length jobs in
    let picks = picks_front clash front behind (all_below n) (order_picks clash n (front ++ behind) is) in
    picks_taken (carried_commutes jobs staging clash holds) front picks (begun memory blank) whole
    ∙ (ap (run_all (carried jobs staging) (begun memory blank))
    (filter_range_same (λ i. is_in i front) (λ i. nat_lt i count) 0 n (λ i low high. first i) ∙ first_places n count within)
    ∙ run_first memory jobs staging blank count size within)
