-- The plan is an order of the places that are open.
use Rattle.std.proofs.Common.{◌≡◌, ℕ, ◌+◌, ◌<◌, Bool, true, false, not, cond, List, [], ◌∷◌, ◌++◌, length, map, filter, refl, sym, ◌∙◌, ap, subst, arith, ⊎_elim}
use Rattle.std.proofs.lemmas.Bool.{cases_Bool, and_parts, and_from, or_cases, or_left, eqb-true, false≢true, ltb-true, lt-ltb, both_ways, false_from_ne_true, not_from_false}
use Rattle.std.proofs.lemmas.List.{map-append, length-map, get_or-map, append-nil, nil_from_length}
use Rattle.std.specs.Prelude.{nat_eq, nat_lt, slice_index, ◌&&◌, ◌||◌}
use Rattle.std.specs.List.{range_with_len}
use Rattle.dml_types.specs.Job.{no_op_job, any_shares}
use Rattle.dml_types.specs.Conflict.{conflict, clash_of, levels, ranges_of}
use Rattle.dml_types.specs.declared.spans.Span.{Span}
use Rattle.dml_types.specs.Job.{reads, writes}
use Rattle.dml_order.specs.Order.{is_in, Picks, all_below}
use Rattle.dml_order.specs.Waves.{joined, clash_waves, is_nil}
use Rattle.dml_order.proofs.OrderLemmas.{left_after}
use Rattle.dml_order.proofs.KeepsLemmas.{left_after_is}
use Rattle.dml_order.proofs.WaveLemmas.{picks_range, picks_append, left_after_append, waves_picks, waves_order}
use Rattle.std.proofs.lemmas.List.Folds.{list_any-append}
use Rattle.dml_levels.specs.Waves.{job_at, fits_wave, waves}
use Rattle.dml_levels.specs.Laws.{unless_refused}
use Rattle.dml_levels.proofs.CommuteLemmas.{still_apart}
use Rattle.dml_core.specs.Types.{Job}
use Rattle.dml_core.specs.Plan.{is_refused, accepted_places, first_wave, with_refused, planned}
use Rattle.dml_core.proofs.PlaceLemmas.{at_member, member_at, Climbs, climbs_kept, climbs_back, Links, picks_at, picks_behind, first_is_free, in_kept, filter_twice, joined_map, in_map}

-- two places clash where their jobs conflict, as far as they do anything
abbrev pub waits : List Job → ℕ → ℕ → ℕ → Bool
waits jobs staging i k = conflict (unless_refused staging (job_at jobs i)) (unless_refused staging (job_at jobs k))

none_right : (xs : List Span) → any_shares xs [] ≡ false
none_right [] = refl
none_right (x ∷ xs) = none_right xs

idle_left : (job : Job) → conflict no_op_job job ≡ false
idle_left job = refl

idle_right : (job : Job) → conflict job no_op_job ≡ false
idle_right job =
    ap (λ b. (b || any_shares (ranges_of writes job) []) || any_shares (ranges_of reads job) []) (none_right (ranges_of writes job))
    ∙ (ap (λ b. b || any_shares (ranges_of reads job) []) (none_right (ranges_of writes job)) ∙ none_right (ranges_of reads job))

pub refused_left : (jobs : List Job) (staging i k : ℕ) → is_refused jobs staging i ≡ true → waits jobs staging i k ≡ false
refused_left jobs staging i k refused =
    ap (λ b. conflict (cond b no_op_job (job_at jobs i)) (unless_refused staging (job_at jobs k))) refused

pub refused_right : (jobs : List Job) (staging i k : ℕ) → is_refused jobs staging k ≡ true → waits jobs staging i k ≡ false
refused_right jobs staging i k refused =
    ap (λ b. conflict (unless_refused staging (job_at jobs i)) (cond b no_op_job (job_at jobs k))) refused
    ∙ idle_right (unless_refused staging (job_at jobs i))

-- the places below n that are open, and those of them that are accepted
abbrev pub opened_below : (ℕ → Bool) → ℕ → ℕ → Bool
opened_below opened n i = nat_lt i n && opened i

abbrev pub accepted_test : List Job → ℕ → (ℕ → Bool) → ℕ → Bool
accepted_test jobs staging opened i = opened i && not (is_refused jobs staging i)

pub accepted_is : (jobs : List Job) (staging : ℕ) (opened : ℕ → Bool) (n : ℕ) → accepted_places jobs staging (filter opened (range_with_len 0 n)) ≡ filter (accepted_test jobs staging opened) (range_with_len 0 n)
accepted_is jobs staging opened n = filter_twice (λ i. not (is_refused jobs staging i)) opened (range_with_len 0 n)

-- the places that are left after the first wave and its refused ones
after_first : (below waiting refused chosen : Bool) → ((below && waiting) && not (below && (waiting && (refused || chosen)))) ≡ ((below && (waiting && not refused)) && not chosen)
after_first false waiting refused chosen = refl
after_first true false refused chosen = refl
after_first true true true chosen = refl
after_first true true false chosen = refl

pub record IsPlanned (clash : ℕ → ℕ → Bool) (left : ℕ → Bool) (order : List ℕ) : Type 0 where
  pub picks : Picks clash left order
  pub whole : (i : ℕ) → left_after left order i ≡ false

-- the first wave with the refused ones, and then the rest
first_and_rest : (jobs : List Job) (staging : ℕ) (opened : ℕ → Bool) (n : ℕ) (places : List ℕ) → places ≡ filter (accepted_test jobs staging opened) (range_with_len 0 n) → (first rest : List ℕ) → Picks (clash_of (map (job_at jobs) places)) (all_below (length places)) (first ++ rest) → ((j : ℕ) → left_after (all_below (length places)) (first ++ rest) j ≡ false) → ((j k : ℕ) → is_in j first ≡ true → k < j → clash_of (map (job_at jobs) places) k j ≡ false) → ((j : ℕ) → is_in j first ≡ true → j < length places) → IsPlanned (waits jobs staging) (opened_below opened n) (first_wave jobs staging (filter opened (range_with_len 0 n)) (map (slice_index places) first) ++ map (slice_index places) rest)
first_and_rest jobs staging opened n places is first rest picks whole free bounded =
    let clash = waits jobs staging in
    let own = clash_of (map (job_at jobs) places) in
    let left = opened_below opened n in
    let accepted : ℕ → Bool = λ i. nat_lt i n && accepted_test jobs staging opened i in
    let at = slice_index places in
    let climbs : Climbs places = subst Climbs (sym is) (climbs_kept (accepted_test jobs staging opened) 0 n) in
    let member : (i : ℕ) → is_in i places ≡ accepted i = λ i. ap (is_in i) is ∙ in_kept (accepted_test jobs staging opened) n i in
    let holds : (j k : ℕ) → j < length places → k < length places → own j k ≡ false → clash (at j) (at k) ≡ false =
    λ j k inside below apart.
    still_apart staging (job_at jobs (at j)) (job_at jobs (at k))
    (ap (λ (a : Job). conflict a (job_at jobs (at k))) (sym (get_or-map (job_at jobs) places j 0 no_op_job inside))
    ∙ (ap (conflict (job_at (map (job_at jobs) places) j)) (sym (get_or-map (job_at jobs) places k 0 no_op_job below)) ∙ apart)) in
    let links : Links places accepted (all_below (length places)) = record {
      same = λ j inside. sym (member (at j)) ∙ (at_member places j inside ∙ sym (lt-ltb j (length places) inside));
      inside = λ j here. ltb-true j (length places) here;
      found = λ i here. member_at places i (member i ∙ here);
    } in
    let moved = picks_at places climbs clash own holds (first ++ rest) accepted (all_below (length places)) links picks in
    let cut = map-append at first rest in
    let all : Picks clash accepted (map at first ++ map at rest) = subst (Picks clash accepted) cut moved.0 in
    let gone : (i : ℕ) → left_after accepted (map at first ++ map at rest) i ≡ false =
    λ i. ap (λ (order : List ℕ). left_after accepted order i) (sym cut)
    ∙ false_from_ne_true (left_after accepted (map at (first ++ rest)) i) (λ still.
    let f = moved.1.found i still in
    both_ways _ (whole f.0) (sym (moved.1.same f.0 f.1) ∙ (ap (left_after accepted (map at (first ++ rest))) f.2 ∙ still))) in
    let chosen : ℕ → Bool = λ i. is_refused jobs staging i || is_in i (map at first) in
    let test : ℕ → Bool = λ i. opened i && chosen i in
    let wave = filter chosen (filter opened (range_with_len 0 n)) in
    let same_wave : wave ≡ filter test (range_with_len 0 n) = filter_twice chosen opened (range_with_len 0 n) in
    let hindered : (i earlier : ℕ) → i < 0 + n → test i ≡ true → earlier < i → left earlier ≡ true → clash earlier i ≡ false =
    λ i earlier below here low still.
    ⊎_elim (λ refused. refused_right jobs staging earlier i refused)
    (λ in_first.
    ⊎_elim (λ early. refused_left jobs staging earlier i early)
    (λ kept.
    let from = in_map at first i in_first in
    let parts = and_parts (nat_lt earlier n) (opened earlier) still in
    let there : is_in earlier places ≡ true = member earlier ∙ and_from _ _ parts.0 (and_from _ _ parts.1 (not_from_false _ kept)) in
    let f = member_at places earlier there in
    let inside = bounded from.0 from.1 in
    let lower = climbs_back places climbs f.0 from.0 f.1 (let e : slice_index places f.0 < slice_index places from.0 = omega (arith, f.2, from.2, low) in e) inside in
    subst (λ k. clash earlier k ≡ false) from.2
    (subst (λ k. clash k (at from.0) ≡ false) f.2 (holds f.0 from.0 f.1 inside (free from.0 f.0 from.1 lower))))
    (cases_Bool (is_refused jobs staging earlier)))
    (or_cases (is_refused jobs staging i) _ (and_parts (opened i) _ here).1) in
    let front : Picks clash left wave =
    subst (Picks clash left) (sym same_wave)
    (picks_range clash test left 0 n (λ i low below here. and_from _ _ (lt-ltb i n (omega (arith, below))) (and_parts (opened i) _ here).0) hindered) in
    let behind : left_after left wave ≡ left_after accepted (map at first) =
    λ t i. behind_at left accepted wave (map at first) (λ k. ap (λ b. (nat_lt k n && opened k) && not b) (ap (is_in k) same_wave ∙ in_kept test n k) ∙ after_first (nat_lt k n) (opened k) (is_refused jobs staging k) (is_in k (map at first))) i t in
    record {
      picks = picks_append clash left wave (map at rest) front (subst (λ (l : ℕ → Bool). Picks clash l (map at rest)) (sym behind) (picks_behind clash (map at first) (map at rest) accepted all));
      whole = λ i.
          ap (λ (l : ℕ → Bool). l i) (left_after_append left wave (map at rest))
          ∙ (ap (λ (l : ℕ → Bool). left_after l (map at rest) i) behind
          ∙ (ap (λ (l : ℕ → Bool). l i) (sym (left_after_append accepted (map at first) (map at rest))) ∙ gone i));
    }
  where
    behind_at : (left accepted : ℕ → Bool) (wave first : List ℕ) → ((k : ℕ) → (left k && not (is_in k wave)) ≡ (accepted k && not (is_in k first))) → (i : ℕ) → left_after left wave i ≡ left_after accepted first i
    behind_at left accepted wave first same i = left_after_is wave left i ∙ (same i ∙ sym (left_after_is first accepted i))

alone : (wave : List ℕ) → wave ++ [] ≡ joined (cond (is_nil wave) [] (wave ∷ []))
alone wave =
    elim (is_nil wave) as (λ b. is_nil wave ≡ b → wave ++ [] ≡ joined (cond b [] (wave ∷ []))) [
      | true ↦ λ none. append-nil wave ∙ nil_from_length wave (eqb-true (length wave) 0 none)
      | false ↦ λ some. refl
    ] refl

-- the plan, by the waves of the accepted jobs
by_waves : (jobs : List Job) (staging chunk : ℕ) (opened : ℕ → Bool) (n : ℕ) (places : List ℕ) → places ≡ filter (accepted_test jobs staging opened) (range_with_len 0 n) → (list : List (List ℕ)) → clash_waves (fits_wave (map (job_at jobs) places) staging chunk) (clash_of (map (job_at jobs) places)) (length (map (job_at jobs) places)) ≡ list → IsPlanned (waits jobs staging) (opened_below opened n) (joined (with_refused jobs staging (filter opened (range_with_len 0 n)) (map (map (slice_index places)) list)))
by_waves jobs staging chunk opened n places is [] cut =
    let own = clash_of (map (job_at jobs) places) in
    let size = length-map places (job_at jobs) in
    let picked = waves_picks (fits_wave (map (job_at jobs) places) staging chunk) own (length (map (job_at jobs) places)) in
    let gone : (j : ℕ) → all_below (length places) j ≡ false =
    λ j. ap (nat_lt j) (sym size) ∙ (ap (λ (w : List (List ℕ)). left_after (all_below (length (map (job_at jobs) places))) (joined w) j) (sym cut) ∙ picked.1 j) in
    subst (IsPlanned (waits jobs staging) (opened_below opened n)) (alone (first_wave jobs staging (filter opened (range_with_len 0 n)) []))
    (first_and_rest jobs staging opened n places is [] [] tt gone (λ j k here. absurd (false≢true here)) (λ j here. absurd (false≢true here)))
by_waves jobs staging chunk opened n places is (wave ∷ rest) cut =
    let own = clash_of (map (job_at jobs) places) in
    let fits = fits_wave (map (job_at jobs) places) staging chunk in
    let count = length (map (job_at jobs) places) in
    let size : count ≡ length places = length-map places (job_at jobs) in
    let picked = waves_picks fits own count in
    let picks : Picks own (all_below (length places)) (wave ++ joined rest) =
    subst (λ k. Picks own (all_below k) (wave ++ joined rest)) size (subst (λ (w : List (List ℕ)). Picks own (all_below count) (joined w)) cut picked.0) in
    let gone : (j : ℕ) → left_after (all_below (length places)) (wave ++ joined rest) j ≡ false =
    λ j. ap (λ k. left_after (all_below k) (wave ++ joined rest) j) (sym size)
    ∙ (ap (λ (w : List (List ℕ)). left_after (all_below count) (joined w) j) (sym cut) ∙ picked.1 j) in
    let bounded : (j : ℕ) → is_in j wave ≡ true → j < length places =
    λ j here.
    let below = (waves_order fits own count).below j (ap (λ (w : List (List ℕ)). is_in j (joined w)) cut ∙ (list_any-append (nat_eq j) wave (joined rest) ∙ or_left (is_in j wave) _ here)) in
    omega (arith, below, size) in
    let first = first_wave jobs staging (filter opened (range_with_len 0 n)) (map (slice_index places) wave) in
    subst (IsPlanned (waits jobs staging) (opened_below opened n)) (ap (λ more. first ++ more) (sym (joined_map (slice_index places) rest)))
    (first_and_rest jobs staging opened n places is wave (joined rest) picks gone (first_is_free fits own count wave rest cut) bounded)

-- the plan of the places below n that are open
pub plan_order : (jobs : List Job) (staging chunk : ℕ) (opened : ℕ → Bool) (n : ℕ) → IsPlanned (waits jobs staging) (opened_below opened n) (joined (planned jobs staging chunk (filter opened (range_with_len 0 n))))
plan_order jobs staging chunk opened n =
    let places = accepted_places jobs staging (filter opened (range_with_len 0 n)) in
    let accepted = map (job_at jobs) places in
    by_waves jobs staging chunk opened n places (accepted_is jobs staging opened n) (waves accepted (levels accepted) staging chunk) refl
