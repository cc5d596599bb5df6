-- The committed places, and then those of the waves, are an order of all places: so the image and the answers are
-- those of the fold.
use Rattle.std.proofs.Common.{◌≡◌, ℕ, ◌+◌, ◌-◌, ◌<◌, ◌≤◌, Bool, true, false, not, List, [], ◌∷◌, ◌++◌, length, map, filter, refl, sym, ◌∙◌, ap, subst, arith, ⊎_elim, Option, None, Some}
use Rattle.std.proofs.lemmas.Bool.{cases_lt, and_parts, or_cases, eqb-true, ltb-true, lt-ltb, le-ltb, false≢true, both_ways, false_from_ne_true}
use Rattle.std.proofs.lemmas.List.{append_assoc, length-map, length_push, map-append, get_or_append_left, get_or_push, get_or_past}
use Rattle.std.specs.Prelude.{nat_eq, nat_lt, ◌&&◌, ◌||◌, is_some, is_none, slice_get}
use Rattle.std.specs.List.{range_with_len}
use Rattle.dml_types.specs.Memory.{Memory, IsWhole}
use Rattle.dml_types.specs.Step.{memory_after, records_of}
use Rattle.dml_order.specs.Order.{run_all, is_in, Picks, all_below, without, taken_in_order}
use Rattle.dml_order.specs.Waves.{joined}
use Rattle.dml_order.proofs.OrderLemmas.{left_after, run_all_append, filter_range_same, picks_all}
use Rattle.dml_order.proofs.KeepsLemmas.{left_after_is, picks_front, picks_taken}
use Rattle.dml_order.proofs.WaveLemmas.{picks_append, left_after_append}
use Rattle.dml_levels.specs.Waves.{job_at}
use Rattle.dml_levels.specs.Laws.{unless_refused}
use Rattle.dml_types.specs.Conflict.{conflict}
use Rattle.dml_core.specs.Types.{Job, Record, Fetched}
use Rattle.dml_core.specs.Plan.{no_entry, entry_at, jobs_of, is_open, plan_of}
use Rattle.dml_core.specs.World.{Progress, carry_out}
use Rattle.dml_core.proofs.PlaceLemmas.{picks_behind}
use Rattle.dml_core.proofs.PlanLemmas.{waits, opened_below, IsPlanned, plan_order}
use Rattle.dml_core.proofs.FoldLemmas.{blank, begun, at_map, job_entry, jobs_stay, blanks_stay, count_stays, Good, commutes, image_after, entry_stays, answers_set, answers_in_order, run_behind, by_places}

abbrev made : Memory → List Fetched → Progress
made image fetched = record { image = image; fetched = fetched }

-- `done`: the places committed so far, in the order of their commits
pub record IsOrdered (staging : ℕ) (start : Memory) (image : Memory) (fetched : List Fetched) (waves : List (List ℕ)) : Type 0 where
  pub done : List ℕ
  pub planned : IsPlanned (waits (jobs_of fetched) staging) (all_below (length fetched)) (done ++ joined waves)
  pub reached : made image fetched ≡ run_all (carry_out staging) (begun start fetched) done

pub ordered_at_first : (staging : ℕ) (start : Memory) → IsOrdered staging start start [] []
ordered_at_first staging start = record {
  done = [];
  planned = record { picks = tt; whole = λ i. le-ltb i 0 (omega arith) };
  reached = refl;
}

-- a wave is committed
pub ordered_after_wave : (staging : ℕ) (start image : Memory) (fetched : List Fetched) (wave : List ℕ) (waves rest : List (List ℕ)) → joined waves ≡ wave ++ joined rest → IsOrdered staging start image fetched waves → IsOrdered staging start (run_all (carry_out staging) (made image fetched) wave).image (run_all (carry_out staging) (made image fetched) wave).fetched rest
ordered_after_wave staging start image fetched wave waves rest cut o =
    let next = run_all (carry_out staging) (made image fetched) wave in
    let jobs = jobs_stay staging wave (made image fetched) in
    let count = count_stays staging wave (made image fetched) in
    let order : o.done ++ joined waves ≡ (o.done ++ wave) ++ joined rest = ap (λ more. o.done ++ more) cut ∙ sym (append_assoc o.done wave (joined rest)) in
    record {
      done = o.done ++ wave;
      planned =
          subst (λ n. IsPlanned (waits (jobs_of next.fetched) staging) (all_below n) ((o.done ++ wave) ++ joined rest)) (sym count)
          (subst (λ (list : List Job). IsPlanned (waits list staging) (all_below (length fetched)) ((o.done ++ wave) ++ joined rest)) (sym jobs)
          (subst (IsPlanned (waits (jobs_of fetched) staging) (all_below (length fetched))) order o.planned));
      reached =
          ap (λ (now : Progress). run_all (carry_out staging) now wave) o.reached
          ∙ (sym (run_all_append (carry_out staging) (begun start fetched) o.done wave)
          ∙ ap (λ (list : List Fetched). run_all (carry_out staging) (made start list) (o.done ++ wave)) (sym (blanks_stay staging wave (made image fetched))));
    }

-- what is picked is left
pub picked_is_left : (clash : ℕ → ℕ → Bool) (order : List ℕ) (left : ℕ → Bool) (i : ℕ) → Picks clash left order → is_in i order ≡ true → left i ≡ true
picked_is_left clash [] left i picks found = absurd (false≢true found)
picked_is_left clash (k ∷ order) left i picks found =
    ⊎_elim (λ same. ap left (eqb-true i k same) ∙ picks.0.is_left)
    (λ later. (and_parts (left i) _ (picked_is_left clash order (without left k) i picks.1 later)).0)
    (or_cases (nat_eq i k) (is_in i order) found)

-- picks stay picks when places are added behind
picks_wider : (clash wider : ℕ → ℕ → Bool) (n : ℕ) → ((i k : ℕ) → i < n → k < n → clash i k ≡ wider i k) → (order : List ℕ) (left more : ℕ → Bool) → ((i : ℕ) → left i ≡ true → i < n) → ((i : ℕ) → i < n → left i ≡ more i) → Picks clash left order → Picks wider more order
picks_wider clash wider n same [] left more bounded agree picks = tt
picks_wider clash wider n same (k ∷ order) left more bounded agree picks =
    let below = bounded k picks.0.is_left in (
      record {
        is_left = sym (agree k below) ∙ picks.0.is_left;
        unhindered = λ earlier low still.
            let inside : earlier < n = omega arith in
            sym (same earlier k inside below) ∙ picks.0.unhindered earlier low (agree earlier inside ∙ still);
      },
      picks_wider clash wider n same order (without left k) (without more k) (λ i here. bounded i (and_parts (left i) _ here).0) (λ i inside. ap (λ b. b && not (nat_eq i k)) (agree i inside)) picks.1,
    )

-- which places are committed
pub committed_is : (staging : ℕ) (start image : Memory) (fetched : List Fetched) (waves : List (List ℕ)) → (o : IsOrdered staging start image fetched waves) → (i : ℕ) → i < length fetched → is_some (entry_at fetched i).answer ≡ is_in i o.done
committed_is staging start image fetched waves o i below =
    let size = length-map fetched blank in
    ap (λ (now : Progress). is_some (entry_at now.fetched i).answer) o.reached
    ∙ (answers_set staging o.done (begun start fetched) i (let e : i < length (map blank fetched) = omega (arith, below, size) in e)
    ∙ (ap (λ (entry : Fetched). is_in i o.done || is_some entry.answer) (at_map blank fetched i) ∙ or_none (is_in i o.done)))
  where
    or_none : (b : Bool) → (b || false) ≡ b
    or_none true = refl
    or_none false = refl

done_picks : (staging : ℕ) (start image : Memory) (fetched : List Fetched) (waves : List (List ℕ)) → (o : IsOrdered staging start image fetched waves) → Picks (waits (jobs_of fetched) staging) (all_below (length fetched)) o.done
done_picks staging start image fetched waves o =
    picks_front (waits (jobs_of fetched) staging) o.done (joined waves) (all_below (length fetched)) o.planned.picks

done_below : (staging : ℕ) (start image : Memory) (fetched : List Fetched) (waves : List (List ℕ)) → (o : IsOrdered staging start image fetched waves) → (i : ℕ) → is_in i o.done ≡ true → i < length fetched
done_below staging start image fetched waves o i here =
    ltb-true i (length fetched) (picked_is_left (waits (jobs_of fetched) staging) o.done (all_below (length fetched)) i (done_picks staging start image fetched waves o) here)

pub not_some : (answer : Option Record) (b : Bool) → is_some answer ≡ b → not b ≡ is_none answer
not_some None b same = ap not (sym same)
not_some (Some r) b same = ap not (sym same)

-- what the committed places leave is open
pub left_is_open : (n : ℕ) (done : List ℕ) (opened : ℕ → Bool) → ((i : ℕ) → i < n → not (is_in i done) ≡ opened i) → (i : ℕ) → left_after (all_below n) done i ≡ (nat_lt i n && opened i)
left_is_open n done opened same i =
    left_after_is done (all_below n) i
    ∙ ⊎_elim (λ below. ap (λ b. nat_lt i n && b) (same i below)) (λ past. ap (λ b. b && not (is_in i done)) (le-ltb i n past) ∙ sym (ap (λ b. b && opened i) (le-ltb i n past))) (cases_lt i n)

-- one job more is fetched, and all that are not committed are planned anew
pub ordered_after_fetch : (staging chunk : ℕ) (start image : Memory) (fetched : List Fetched) (waves : List (List ℕ)) (entry : Fetched) → entry.answer ≡ None → IsOrdered staging start image fetched waves → IsOrdered staging start image (fetched ++ entry ∷ []) (plan_of (fetched ++ entry ∷ []) staging chunk)
ordered_after_fetch staging chunk start image fetched waves entry fresh o =
    let list = fetched ++ entry ∷ [] in
    let n = length fetched in
    let size : length list ≡ n + 1 = length_push fetched entry in
    let clash = waits (jobs_of list) staging in
    let plan = plan_of list staging chunk in
    let opened = opened_below (is_open list) (length list) in
    let planned : IsPlanned clash opened (joined plan) = plan_order (jobs_of list) staging chunk (is_open list) (length list) in
    let job_same : (i : ℕ) → i < n → job_at (jobs_of fetched) i ≡ job_at (jobs_of list) i =
    λ i below. job_entry fetched i ∙ (ap (λ (e : Fetched). e.job) (sym (get_or_append_left fetched (entry ∷ []) no_entry i below)) ∙ sym (job_entry list i)) in
    let clash_same : (i k : ℕ) → i < n → k < n → waits (jobs_of fetched) staging i k ≡ clash i k =
    λ i k inside below. waits_by staging (job_at (jobs_of fetched) i) (job_at (jobs_of list) i) (job_at (jobs_of fetched) k) (job_at (jobs_of list) k) (job_same i inside) (job_same k below) in
    let front : Picks clash (all_below (length list)) o.done =
    picks_wider (waits (jobs_of fetched) staging) clash n clash_same o.done (all_below n) (all_below (length list)) (λ i here. ltb-true i n here)
    (λ i below. lt-ltb i n below ∙ sym (lt-ltb i (length list) (omega (arith, below, size)))) (done_picks staging start image fetched waves o) in
    let open_is : (i : ℕ) → i < length list → not (is_in i o.done) ≡ is_open list i =
    λ i below.
    ⊎_elim (λ inside.
    not_some (entry_at list i).answer (is_in i o.done)
    (ap (λ (e : Fetched). is_some e.answer) (get_or_append_left fetched (entry ∷ []) no_entry i inside) ∙ committed_is staging start image fetched waves o i inside))
    (λ past.
    let last : i ≡ n = omega (arith, below, size) in
    not_some (entry_at list i).answer (is_in i o.done)
    (ap (λ (e : Fetched). is_some e.answer) (get_or_push fetched entry no_entry i (sym last))
    ∙ (ap is_some fresh
    ∙ sym (false_from_ne_true (is_in i o.done) (λ here. let low = done_below staging start image fetched waves o i here in omega (arith, low, last))))))
    (cases_lt i n) in
    let same : left_after (all_below (length list)) o.done ≡ opened =
    λ t i. left_is_open (length list) o.done (is_open list) open_is i t in
    record {
      done = o.done;
      planned = record {
        picks = picks_append clash (all_below (length list)) o.done (joined plan) front (subst (λ (l : ℕ → Bool). Picks clash l (joined plan)) (sym same) planned.picks);
        whole = λ i.
            ap (λ (l : ℕ → Bool). l i) (left_after_append (all_below (length list)) o.done (joined plan))
            ∙ (ap (λ (l : ℕ → Bool). left_after l (joined plan) i) same ∙ planned.whole i);
      };
      reached =
          ap (λ (now : Progress). made now.image (now.fetched ++ entry ∷ [])) o.reached
          ∙ (sym (run_behind staging o.done start (map blank fetched) entry
          (λ i here. let low = done_below staging start image fetched waves o i here in let m = length-map fetched blank in omega (arith, low, m)))
          ∙ ap (λ (l : List Fetched). run_all (carry_out staging) (made start l) o.done)
          (ap (λ (a : Option Record). map blank fetched ++ record entry { answer = a } ∷ []) fresh
          ∙ sym (map-append blank fetched (entry ∷ []))));
    }
  where
    waits_by : (staging : ℕ) (a b c d : Job) → a ≡ b → c ≡ d → conflict (unless_refused staging a) (unless_refused staging c) ≡ conflict (unless_refused staging b) (unless_refused staging d)
    waits_by staging a b c d first second =
        ap (λ (x : Job). conflict (unless_refused staging x) (unless_refused staging c)) first
        ∙ ap (λ (x : Job). conflict (unless_refused staging b) (unless_refused staging x)) second

pub jobs_of_blank : (fetched : List Fetched) → jobs_of (map blank fetched) ≡ jobs_of fetched
jobs_of_blank [] = refl
jobs_of_blank (entry ∷ fetched) = ap (λ (list : List Job). entry.job ∷ list) (jobs_of_blank fetched)

map_same : (f g : ℕ → Job) → ((i : ℕ) → f i ≡ g i) → (xs : List ℕ) → map f xs ≡ map g xs
map_same f g same xs = ap (λ (h : ℕ → Job). map h xs) (λ t i. same i t)

-- the image is the fold of the committed jobs, in fetch order
pub ordered_image : (staging : ℕ) (start image : Memory) (fetched : List Fetched) (waves : List (List ℕ)) → IsWhole start → IsOrdered staging start image fetched waves → image ≡ memory_after start (jobs_of (filter (λ entry. is_some entry.answer) fetched)) staging
ordered_image staging start image fetched waves whole o =
    let jobs = jobs_of fetched in
    let n = length fetched in
    let first = begun start fetched in
    let good : Good jobs first = record { whole = whole; known = jobs_of_blank fetched } in
    let taken = picks_taken (commutes jobs staging n) o.done (done_picks staging start image fetched waves o) first good in
    let places : taken_in_order n o.done ≡ filter (λ i. is_some (entry_at fetched i).answer) (range_with_len 0 n) =
    filter_range_same (λ i. is_in i o.done) (λ i. is_some (entry_at fetched i).answer) 0 n
    (λ i low below. sym (committed_is staging start image fetched waves o i (let e : i < n = omega arith in e))) in
    ap (λ (now : Progress). now.image) (o.reached ∙ taken)
    ∙ (image_after jobs staging (taken_in_order n o.done) first (jobs_of_blank fetched)
    ∙ ap (λ (list : List Job). memory_after start list staging)
    (ap (map (job_at jobs)) places
    ∙ (map_same (job_at jobs) (λ i. (entry_at fetched i).job) (job_entry fetched) (filter (λ i. is_some (entry_at fetched i).answer) (range_with_len 0 n))
    ∙ by_places (λ entry. entry.job) (λ entry. is_some entry.answer) fetched 0 n (let e : 0 + n ≡ length fetched = omega arith in e))))

-- each answer is the one that the fold of the whole list gives at its place
pub ordered_answers : (staging : ℕ) (start image : Memory) (fetched : List Fetched) (waves : List (List ℕ)) → IsWhole start → IsOrdered staging start image fetched waves → (i : ℕ) (answer : Record) → (entry_at fetched i).answer ≡ Some answer → slice_get (records_of start (jobs_of fetched) staging) i ≡ Some answer
ordered_answers staging start image fetched waves whole o i answer is =
    let jobs = jobs_of fetched in
    let n = length fetched in
    let first = begun start fetched in
    let good : Good jobs first = record { whole = whole; known = jobs_of_blank fetched } in
    let set : is_some (entry_at fetched i).answer ≡ true = ap is_some is in
    let below : i < n = ⊎_elim (λ inside. inside) (λ past. absurd (both_ways _ (ap (λ (e : Fetched). is_some e.answer) (get_or_past fetched i no_entry past)) set)) (cases_lt i n) in
    let here : is_in i o.done ≡ true = sym (committed_is staging start image fetched waves o i below) ∙ set in
    let rest = joined waves in
    let clash = waits jobs staging in
    let gone : left_after (all_below n) o.done i ≡ false =
    left_after_is o.done (all_below n) i ∙ (ap (λ b. nat_lt i n && not b) here ∙ and_none (nat_lt i n)) in
    let out : is_in i rest ≡ false =
    false_from_ne_true (is_in i rest) (λ found.
    both_ways _ gone (picked_is_left clash rest (left_after (all_below n) o.done) i (picks_behind clash o.done rest (all_below n) o.planned.picks) found)) in
    let after_done = run_all (carry_out staging) first o.done in
    let stays = entry_stays staging rest after_done i out in
    let all = picks_all (commutes jobs staging n) (o.done ++ rest) o.planned.picks o.planned.whole first good in
    let size : n ≡ length jobs = sym (length-map fetched (λ entry. entry.job)) in
    let in_order = answers_in_order jobs staging 0 n first (jobs_of_blank fetched) (let e : 0 + n ≡ length jobs = omega (arith, size) in e) i (let e : 0 ≤ i = omega arith in e) (let e : i < length jobs = omega (arith, size, below) in e) in
    sym (sym is
    ∙ (ap (λ (now : Progress). (entry_at now.fetched i).answer) o.reached
    ∙ (sym (ap (λ (e : Fetched). e.answer) stays)
    ∙ (ap (λ (now : Progress). (entry_at now.fetched i).answer) (sym (run_all_append (carry_out staging) first o.done rest) ∙ all)
    ∙ (in_order ∙ ap (slice_get (records_of start jobs staging)) (let e : i - 0 ≡ i = omega arith in e))))))
  where
    and_none : (b : Bool) → (b && false) ≡ false
    and_none true = refl
    and_none false = refl
