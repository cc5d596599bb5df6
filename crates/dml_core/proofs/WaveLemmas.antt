-- The waves of a world: each open place stands in them once, and two that clash stand in two of them.
use Rattle.std.proofs.Common.{◌≡◌, ℕ, ◌+◌, ◌<◌, ◌≤◌, max, zero, suc, Bool, true, false, not, cond, List, [], ◌∷◌, ◌++◌, length, map, filter, fold, drop, refl, sym, ◌∙◌, ap, subst, arith, ⊎_elim, All}
use Rattle.std.proofs.lemmas.Bool.{cases_Bool, and_from, and_parts, or_cases, or_left, or_right, both_ways, eq-eqb, false≢true, false_from_ne_true, le-leb, leb-true, lt-ltb, ltb-true, not-true}
use Rattle.std.proofs.lemmas.List.{append_assoc, append-nil, get_or-map, length-map}
use Rattle.std.proofs.lemmas.List.Folds.{list_any-append}
use Rattle.std.proofs.lemmas.List.Elements.{All-nil, All-cons, All-drop, All-head, All-tail}
use Rattle.std.proofs.lemmas.List.Sums.{sum_by-append}
use Rattle.std.specs.Prelude.{nat_eq, nat_le, nat_lt, slice_index, ◌&&◌, ◌||◌}
use Rattle.std.specs.List.{range_with_len}
use Rattle.dml_types.specs.Conflict.{clash_of, clash_levels, conflict, levels}
use Rattle.dml_types.specs.Job.{no_op_job}
use Rattle.dml_types.specs.Memory.{Memory}
use Rattle.dml_types.specs.Refusal.{need}
use Rattle.dml_order.specs.Order.{is_in, IsFree, Picks, all_below}
use Rattle.dml_order.specs.Waves.{joined, cut, cut_behind, depth, higher_waves, IsOfOneLevel, is_nil, level_places}
use Rattle.dml_order.proofs.KeepsLemmas.{left_after_is}
use Rattle.dml_order.proofs.LevelLemmas.{length_levels_of, level_among_none, level_stays, levels_rise}
use Rattle.dml_order.proofs.OrderLemmas.{filter_all, filter_range_same, left_after}
use Rattle.dml_order.proofs.WaveFacts.{waves_of_one_level}
use Rattle.dml_order.proofs.WaveLemmas.{joined_append, left_after_append, waves_order}
use Rattle.dml_levels.specs.Tasks.{task_count}
use Rattle.dml_levels.specs.Waves.{fits_wave, job_at, most_tasks, needs_of, tasks_of, waves}
use Rattle.dml_levels.proofs.CommuteLemmas.{still_apart}
use Rattle.dml_core.specs.Types.{Job, Settings, Step, Submit, Fetch, Take, Finish, Commit}
use Rattle.dml_core.specs.Plan.{entry_at, jobs_of, is_open, open_places, is_refused, accepted_places, accepted_waves, first_wave, with_refused, planned}
use Rattle.dml_core.specs.World.{World, new_world, wave_at, world_progress, new_entry, next_job, after, run}
use Rattle.dml_core.specs.Waves.{accepted_jobs, AreWaves, WavesStand, OneWave}
use Rattle.dml_core.proofs.PlaceLemmas.{Climbs, climbs_back, climbs_kept, filter_twice, in_kept, in_map, member_split, picks_behind}
use Rattle.dml_core.proofs.PlanLemmas.{IsPlanned, accepted_is, accepted_test, refused_left, refused_right, waits}
use Rattle.dml_core.proofs.FoldLemmas.{jobs_stay}
use Rattle.dml_core.proofs.OrderedLemmas.{committed_is, left_is_open, not_some, picked_is_left}
use Rattle.dml_core.proofs.KeepsLemmas.{OrderStands, lasts_at_first, lasts_run, run_keeps, stands_run, stands_at_first}

-- no two places of a wave clash
abbrev Apart : List Job → ℕ → List ℕ → Type 0
Apart jobs staging wave = (i k : ℕ) → is_in i wave ≡ true → is_in k wave ≡ true → k < i → waits jobs staging k i ≡ false

-- the accepted jobs: places of one level are apart
module _ (jobs : List Job) (staging : ℕ) (places : List ℕ) (climbs : Climbs places) where
  abbrev accepted : List Job
  accepted = map (job_at jobs) places

  abbrev own_levels : List ℕ
  own_levels = clash_levels (clash_of accepted) (length accepted)

  one_apart : (wave : List ℕ) → ((j : ℕ) → is_in j wave ≡ true → j < length accepted) → IsOfOneLevel own_levels wave → Apart jobs staging (map (slice_index places) wave)
  one_apart wave inside level i k here there low =
      let size : length accepted ≡ length places = length-map places (job_at jobs) in
      let at = slice_index places in
      let later = in_map at wave i here in
      let early = in_map at wave k there in
      let below : later.0 < length places = omega (arith, inside later.0 later.1, size) in
      let under : early.0 < length places = omega (arith, inside early.0 early.1, size) in
      let lower = climbs_back places climbs early.0 later.0 under (let e : at early.0 < at later.0 = omega (arith, early.2, later.2, low) in e) below in
      let free : clash_of accepted early.0 later.0 ≡ false =
      false_from_ne_true (clash_of accepted early.0 later.0) (λ clashing.
      let rising = levels_rise (clash_of accepted) (length accepted) early.0 later.0 lower (inside later.0 later.1) clashing in
      let same = level later.0 early.0 later.1 early.1 in
      omega (arith, rising, same)) in
      let same_early : job_at accepted early.0 ≡ job_at jobs (at early.0) = get_or-map (job_at jobs) places early.0 0 no_op_job under in
      let same_later : job_at accepted later.0 ≡ job_at jobs (at later.0) = get_or-map (job_at jobs) places later.0 0 no_op_job below in
      let apart : conflict (job_at jobs (at early.0)) (job_at jobs (at later.0)) ≡ false =
      ap (λ (a : Job). conflict a (job_at jobs (at later.0))) (sym same_early) ∙ (ap (conflict (job_at accepted early.0)) (sym same_later) ∙ free) in
      subst (λ m. waits jobs staging k m ≡ false) later.2
      (subst (λ m. waits jobs staging m (at later.0) ≡ false) early.2 (still_apart staging (job_at jobs (at early.0)) (job_at jobs (at later.0)) apart))

  all_apart : (list : List (List ℕ)) → ((j : ℕ) → is_in j (joined list) ≡ true → j < length accepted) → All (IsOfOneLevel own_levels) list → All (Apart jobs staging) (map (map (slice_index places)) list)
  all_apart [] inside level = All-nil (Apart jobs staging)
  all_apart (wave ∷ list) inside level =
      All-cons (Apart jobs staging) (map (slice_index places) wave) (map (map (slice_index places)) list)
      (one_apart wave (λ j here. inside j (list_any-append (nat_eq j) wave (joined list) ∙ or_left (is_in j wave) _ here)) (All-head (IsOfOneLevel own_levels) wave list level))
      (all_apart list (λ j here. inside j (list_any-append (nat_eq j) wave (joined list) ∙ or_right (is_in j wave) _ here)) (All-tail (IsOfOneLevel own_levels) wave list level))

accepted_apart : (jobs : List Job) (staging chunk : ℕ) (places : List ℕ) → Climbs places → All (Apart jobs staging) (accepted_waves jobs staging chunk places)
accepted_apart jobs staging chunk places climbs =
    let own = map (job_at jobs) places in
    let fits = fits_wave own staging chunk in
    all_apart jobs staging places climbs (waves own (levels own) staging chunk) (waves_order fits (clash_of own) (length own)).below (waves_of_one_level fits (levels own))

-- with the refused ones in the first wave
first_apart : (jobs : List Job) (staging : ℕ) (opened : ℕ → Bool) (n : ℕ) (wave : List ℕ) → Apart jobs staging wave → Apart jobs staging (first_wave jobs staging (filter opened (range_with_len 0 n)) wave)
first_apart jobs staging opened n wave apart i k here there low =
    ⊎_elim (λ late. refused_right jobs staging k i late)
    (λ in_wave.
    ⊎_elim (λ early. refused_left jobs staging k i early) (λ with_it. apart i k in_wave with_it low)
    (or_cases (is_refused jobs staging k) (is_in k wave) (chosen k there)))
    (or_cases (is_refused jobs staging i) (is_in i wave) (chosen i here))
  where
    chosen : (j : ℕ) → is_in j (first_wave jobs staging (filter opened (range_with_len 0 n)) wave) ≡ true → (is_refused jobs staging j || is_in j wave) ≡ true
    chosen j found =
        let picked : ℕ → Bool = λ m. is_refused jobs staging m || is_in m wave in
        let both : ℕ → Bool = λ m. opened m && picked m in
        let whole = sym (in_kept both n j) ∙ (sym (ap (is_in j) (filter_twice picked opened (range_with_len 0 n))) ∙ found) in
        (and_parts (opened j) _ (and_parts (nat_lt j n) (both j) whole).1).1

refused_apart : (jobs : List Job) (staging : ℕ) (opened : ℕ → Bool) (n : ℕ) (list : List (List ℕ)) → All (Apart jobs staging) list → All (Apart jobs staging) (with_refused jobs staging (filter opened (range_with_len 0 n)) list)
refused_apart jobs staging opened n [] all =
    let first = first_wave jobs staging (filter opened (range_with_len 0 n)) [] in
    elim (is_nil first) as (λ b. All (Apart jobs staging) (cond b [] (first ∷ []))) [
      | true ↦ All-nil (Apart jobs staging)
      | false ↦ All-cons (Apart jobs staging) first [] (first_apart jobs staging opened n [] (λ i k here. absurd (false≢true here))) (All-nil (Apart jobs staging))
    ]
refused_apart jobs staging opened n (wave ∷ list) all =
    All-cons (Apart jobs staging) (first_wave jobs staging (filter opened (range_with_len 0 n)) wave) list
    (first_apart jobs staging opened n wave (All-head (Apart jobs staging) wave list all)) (All-tail (Apart jobs staging) wave list all)

plan_apart : (jobs : List Job) (staging chunk : ℕ) (opened : ℕ → Bool) (n : ℕ) → All (Apart jobs staging) (planned jobs staging chunk (filter opened (range_with_len 0 n)))
plan_apart jobs staging chunk opened n =
    let places = accepted_places jobs staging (filter opened (range_with_len 0 n)) in
    let climbs : Climbs places = subst Climbs (sym (accepted_is jobs staging opened n)) (climbs_kept (accepted_test jobs staging opened) 0 n) in
    refused_apart jobs staging opened n (accepted_waves jobs staging chunk places) (accepted_apart jobs staging chunk places climbs)

-- so it is of the waves of each world
abbrev WavesApart : World → Type 0
WavesApart w = All (Apart (jobs_of w.fetched) w.settings.staging) w.waves

apart_after : (w : World) (s : Step) → WavesApart w → WavesApart (after w s)
apart_after w (Submit client job) all = all
apart_after w (Fetch client) all =
    let list = w.fetched ++ new_entry client (next_job w client) ∷ [] in plan_apart (jobs_of list) w.settings.staging w.settings.chunk (is_open list) (length list)
apart_after w (Take worker) all = all
apart_after w (Finish worker) all = all
apart_after w Commit all =
    subst (λ (jobs : List Job). All (Apart jobs w.settings.staging) (drop 1 w.waves)) (sym (jobs_stay w.settings.staging (wave_at w 0) (world_progress w)))
    (All-drop (Apart (jobs_of w.fetched) w.settings.staging) 1 w.waves all)

-- picks of all that is left
member_is : (clash : ℕ → ℕ → Bool) (left : ℕ → Bool) (order : List ℕ) → IsPlanned clash left order → (i : ℕ) → is_in i order ≡ left i
member_is clash left order all i =
    ⊎_elim (λ here. here ∙ sym (picked_is_left clash order left i all.picks here))
    (λ gone. gone ∙ sym (none_left (left i) (sym (left_after_is order left i ∙ ap (λ b. left i && not b) gone) ∙ all.whole i)))
    (cases_Bool (is_in i order))
  where
    none_left : (b : Bool) → (b && true) ≡ false → b ≡ false
    none_left true none = absurd (false≢true (sym none))
    none_left false none = refl

free_at : (clash : ℕ → ℕ → Bool) (left : ℕ → Bool) (order before behind : List ℕ) (i : ℕ) → Picks clash left order → order ≡ before ++ i ∷ behind → IsFree clash (left_after left before) i
free_at clash left order before behind i picks split =
    (picks_behind clash before (i ∷ behind) left (subst (Picks clash left) split picks)).0

picked_once : (clash : ℕ → ℕ → Bool) (left : ℕ → Bool) (order before behind : List ℕ) (i : ℕ) → Picks clash left order → order ≡ before ++ i ∷ behind → is_in i before ≡ false
picked_once clash left order before behind i picks split =
    not-true (is_in i before) (and_parts (left i) _ (sym (left_after_is before left i) ∙ (free_at clash left order before behind i picks split).is_left)).1

picked_before : (clash : ℕ → ℕ → Bool) (left : ℕ → Bool) (order before behind : List ℕ) (i earlier : ℕ) → Picks clash left order → order ≡ before ++ i ∷ behind → earlier < i → left earlier ≡ true → clash earlier i ≡ true → is_in earlier before ≡ true
picked_before clash left order before behind i earlier picks split low still clashing =
    ⊎_elim (λ here. here)
    (λ gone.
    let waiting : left_after left before earlier ≡ true = left_after_is before left earlier ∙ (ap (λ b. left earlier && not b) gone ∙ ap (λ b. b && true) still) in
    absurd (both_ways _ ((free_at clash left order before behind i picks split).unhindered earlier low waiting) clashing))
    (cases_Bool (is_in earlier before))

all_at : (P : List ℕ → Type 0) (front behind : List (List ℕ)) (wave : List ℕ) → All P (front ++ wave ∷ behind) → P wave
all_at P [] behind wave all = All-head P wave behind all
all_at P (first ∷ front) behind wave all = all_at P front behind wave (All-tail P first (front ++ wave ∷ behind) all)

wave_before : (clash : ℕ → ℕ → Bool) (left : ℕ → Bool) (list front behind : List (List ℕ)) (wave : List ℕ) (i earlier : ℕ) → Picks clash left (joined list) → list ≡ front ++ wave ∷ behind → is_in i wave ≡ true → earlier < i → left earlier ≡ true → clash earlier i ≡ true → (is_in earlier wave ≡ true → clash earlier i ≡ false) → is_in earlier (joined front) ≡ true
wave_before clash left list front behind wave i earlier picks split here low still clashing apart =
    let parts = member_split wave i here in
    let whole : joined list ≡ (joined front ++ parts.0) ++ i ∷ (parts.1 ++ joined behind) =
    ap joined split
    ∙ (joined_append front (wave ∷ behind)
    ∙ (ap (λ (list : List ℕ). joined front ++ (list ++ joined behind)) parts.2
    ∙ (ap (λ (list : List ℕ). joined front ++ list) (append_assoc parts.0 (i ∷ parts.1) (joined behind))
    ∙ sym (append_assoc (joined front) parts.0 (i ∷ (parts.1 ++ joined behind)))))) in
    let before = picked_before clash left (joined list) (joined front ++ parts.0) (parts.1 ++ joined behind) i earlier picks whole low still clashing in
    ⊎_elim (λ earlier_wave. earlier_wave)
    (λ same_wave.
    let within : is_in earlier wave ≡ true = ap (is_in earlier) parts.2 ∙ (list_any-append (nat_eq earlier) parts.0 (i ∷ parts.1) ∙ or_left (is_in earlier parts.0) _ same_wave) in
    absurd (both_ways _ (apart within) clashing))
    (or_cases (is_in earlier (joined front)) (is_in earlier parts.0) (sym (list_any-append (nat_eq earlier) (joined front) parts.0) ∙ before))

-- what is left behind the committed places is open
are_waves : (start : Memory) (w : World) → OrderStands start w → WavesApart w → AreWaves w.fetched w.settings.staging w.waves
are_waves start w o fine_waves =
    let staging = w.settings.staging in
    let n = length w.fetched in
    let clash = waits (jobs_of w.fetched) staging in
    let left = left_after (all_below n) o.done in
    let rest : IsPlanned clash left (joined w.waves) = record {
      picks = picks_behind clash o.done (joined w.waves) (all_below n) o.planned.picks;
      whole = λ i. sym (ap (λ (l : ℕ → Bool). l i) (left_after_append (all_below n) o.done (joined w.waves))) ∙ o.planned.whole i;
    } in
    let opened : (i : ℕ) → left i ≡ (nat_lt i n && is_open w.fetched i) =
    λ i. left_is_open n o.done (is_open w.fetched)
    (λ k below. not_some (entry_at w.fetched k).answer (is_in k o.done) (committed_is staging start w.image w.fetched w.waves o k below)) i in
    record {
      all = λ i. member_is clash left (joined w.waves) rest i ∙ opened i;
      once = λ before behind i split. picked_once clash left (joined w.waves) before behind i rest.picks split;
      apart = λ front behind wave i earlier split here low still clashing.
          let fine : Apart (jobs_of w.fetched) staging wave = all_at (Apart (jobs_of w.fetched) staging) front behind wave (subst (All (Apart (jobs_of w.fetched) staging)) split fine_waves) in
          let in_waves : is_in i (joined w.waves) ≡ true =
          ap (λ (list : List (List ℕ)). is_in i (joined list)) split
          ∙ (ap (is_in i) (joined_append front (wave ∷ behind))
          ∙ (list_any-append (nat_eq i) (joined front) (wave ++ joined behind)
          ∙ or_right (is_in i (joined front)) _ (list_any-append (nat_eq i) wave (joined behind) ∙ or_left (is_in i wave) _ here))) in
          let below = ltb-true i n (and_parts (nat_lt i n) _ (sym (member_is clash left (joined w.waves) rest i ∙ opened i) ∙ in_waves)).0 in
          let waiting : left earlier ≡ true = opened earlier ∙ (ap (λ b. b && is_open w.fetched earlier) (lt-ltb earlier n (omega (arith, below, low))) ∙ still) in
          wave_before clash left w.waves front behind wave i earlier rest.picks split here low waiting clashing (λ with_it. fine i earlier here with_it low);
    }

pub waves_stand : WavesStand
waves_stand start settings clients steps =
    let first = new_world start settings clients in
    let end = (run first steps).0 in
    subst (λ (s : Settings). AreWaves end.fetched s.staging end.waves) (lasts_run start settings clients first steps (lasts_at_first start settings clients)).settings
    (are_waves start end (stands_run start first steps (stands_at_first start settings clients)).order
    (run_keeps WavesApart (λ v s old allowed. apart_after v s old) first steps (All-nil (Apart [] settings.staging))))

-- Accepted jobs of which no two conflict, and which fit together, are one wave.
zero_level : (clash : ℕ → ℕ → Bool) (n : ℕ) → ((i k : ℕ) → k < i → i < n → clash k i ≡ false) → (j : ℕ) → j < n → slice_index (clash_levels clash n) j ≡ 0
zero_level clash n none j below =
    level_stays clash n j below ∙ level_among_none clash (clash_levels clash j) j j (λ k low. none j k low below)

depth_low : (levels : List ℕ) (so_far : ℕ) → so_far ≤ 1 → ((j : ℕ) → j < length levels → slice_index levels j ≡ 0) → fold max so_far (map (λ level. level + 1) levels) ≤ 1
depth_low [] so_far few zeros = few
depth_low (level ∷ levels) so_far few zeros =
    depth_low levels (max so_far (level + 1)) (omega (arith, few, zeros 0 (omega arith))) (λ j below. zeros (suc j) (omega arith))

one_cut : (fits : List ℕ → Bool) (wave places : List ℕ) → ((front behind : List ℕ) → wave ++ places ≡ front ++ behind → fits front ≡ true) → length (cut_behind fits wave places) ≤ 1
one_cut fits wave [] all =
    elim (is_nil wave) as (λ b. length (cond b [] (wave ∷ [])) ≤ 1) [ true ↦ omega arith | false ↦ omega arith ]
one_cut fits wave (i ∷ places) all =
    let moved = sym (append_assoc wave (i ∷ []) places) in
    subst (λ b. length (cond b (cut_behind fits (wave ++ i ∷ []) places) (wave ∷ cut_behind fits (i ∷ []) places)) ≤ 1)
    (sym (or_right (is_nil wave) (fits (wave ++ i ∷ [])) (all (wave ++ i ∷ []) places moved)))
    (one_cut fits (wave ++ i ∷ []) places (λ front behind split. all front behind (moved ∙ split)))

front_fits : (jobs : List Job) (staging chunk : ℕ) (all front behind : List ℕ) → all ≡ front ++ behind → fits_wave jobs staging chunk all ≡ true → fits_wave jobs staging chunk front ≡ true
front_fits jobs staging chunk all front behind split whole =
    let parts = and_parts (nat_le (needs_of jobs all) staging) (nat_le (tasks_of jobs chunk all) most_tasks) whole in
    let needs = sum_by-append (λ i. need (job_at jobs i)) front behind in
    let tasks = sum_by-append (λ i. task_count (job_at jobs i) chunk) front behind in
    let all_needs = ap (needs_of jobs) split in
    let all_tasks = ap (tasks_of jobs chunk) split in
    and_from (nat_le (needs_of jobs front) staging) (nat_le (tasks_of jobs chunk front) most_tasks)
    (le-leb (needs_of jobs front) staging (omega (arith, needs, all_needs, leb-true (needs_of jobs all) staging parts.0)))
    (le-leb (tasks_of jobs chunk front) most_tasks (omega (arith, tasks, all_tasks, leb-true (tasks_of jobs chunk all) most_tasks parts.1)))

one_level : (fits : List ℕ → Bool) (levels : List ℕ) (d : ℕ) → d ≤ 1 → ((j : ℕ) → j < length levels → slice_index levels j ≡ 0) → ((front behind : List ℕ) → range_with_len 0 (length levels) ≡ front ++ behind → fits front ≡ true) → length (higher_waves fits levels 0 d) ≤ 1
one_level fits levels zero few zeros all = omega arith
one_level fits levels (suc zero) few zeros all =
    let places : level_places levels 0 ≡ range_with_len 0 (length levels) =
    filter_range_same (λ i. nat_eq (slice_index levels i) 0) (all_below (length levels)) 0 (length levels)
    (λ i low below. (let inside : i < length levels = omega arith in eq-eqb (slice_index levels i) 0 (zeros i inside) ∙ sym (lt-ltb i (length levels) inside)))
    ∙ filter_all (length levels) in
    let one : length (cut fits (level_places levels 0)) ≤ 1 = one_cut fits [] (level_places levels 0) (λ front behind split. all front behind (sym places ∙ split)) in
    let only = ap length (append-nil (cut fits (level_places levels 0))) in
    omega (arith, one, only)
one_level fits levels (suc (suc d)) few zeros all = absurd (omega (arith, few))

refused_few : (jobs : List Job) (staging : ℕ) (places : List ℕ) (list : List (List ℕ)) → length list ≤ 1 → length (with_refused jobs staging places list) ≤ 1
refused_few jobs staging places [] few =
    elim (is_nil (first_wave jobs staging places [])) as (λ b. length (cond b [] (first_wave jobs staging places [] ∷ [])) ≤ 1) [ true ↦ omega arith | false ↦ omega arith ]
refused_few jobs staging places (wave ∷ list) few = few

pub one_wave : OneWave
one_wave fetched staging chunk apart fitting =
    let all = jobs_of fetched in
    let places = accepted_places all staging (open_places fetched) in
    let jobs = accepted_jobs fetched staging in
    let levels = clash_levels (clash_of jobs) (length jobs) in
    let size = length_levels_of (clash_of jobs) (length jobs) in
    let zeros : (j : ℕ) → j < length levels → slice_index levels j ≡ 0 = λ j below. zero_level (clash_of jobs) (length jobs) apart j (omega (arith, below, size)) in
    let few : length (waves jobs levels staging chunk) ≤ 1 =
    one_level (fits_wave jobs staging chunk) levels (depth levels) (depth_low levels 0 (omega arith) zeros) zeros
    (λ front behind split. front_fits jobs staging chunk (range_with_len 0 (length jobs)) front behind (ap (range_with_len 0) (sym size) ∙ split) fitting) in
    let same = length-map (waves jobs levels staging chunk) (map (slice_index places)) in
    refused_few all staging (open_places fetched) (accepted_waves all staging chunk places) (omega (arith, few, same))
