-- Jobs carried out at places of the fetched list.
use Rattle.std.proofs.Common.{◌≡◌, ℕ, ◌+◌, ◌-◌, ◌<◌, ◌≤◌, zero, suc, Bool, true, false, cond, List, [], ◌∷◌, ◌++◌, length, get_or, set, map, filter, drop, refl, sym, ◌∙◌, ap, arith, ⊎_elim, Option, None, Some}
use Rattle.std.proofs.lemmas.Bool.{cases_eq, eq-eqb, ne_eqb, both_ways}
use Rattle.std.proofs.lemmas.List.{set_comm, set-get_or, map-set, length-set, length-map, get_or-set_same, get_or-set_other, get_or_append_left, set-append_left, drop_all, drop_more}
use Rattle.std.proofs.lemmas.List.Folds.{list_any_at}
use Rattle.std.specs.Prelude.{nat_eq, ◌||◌, is_some, slice_get}
use Rattle.std.specs.List.{range_with_len}
use Rattle.dml_types.specs.Job.{no_op_job}
use Rattle.dml_types.specs.Memory.{Memory, IsWhole}
use Rattle.dml_types.specs.Conflict.{conflict}
use Rattle.dml_types.specs.Step.{step, memory_after, records_of}
use Rattle.dml_order.specs.Order.{run_all, is_in, Commutes}
use Rattle.dml_levels.specs.Waves.{job_at}
use Rattle.dml_levels.specs.Laws.{unless_refused}
use Rattle.dml_levels.proofs.CommuteLemmas.{jobs_commute, step_whole}
use Rattle.dml_core.specs.Types.{Job, Record, Fetched}
use Rattle.dml_core.specs.Plan.{no_entry, entry_at, jobs_of}
use Rattle.dml_core.specs.World.{Progress, carry_out}
use Rattle.dml_core.proofs.PlanLemmas.{waits}

-- an entry with no answer yet
abbrev pub blank : Fetched → Fetched
blank entry = record entry { answer = None }

-- nothing carried out yet
abbrev pub begun : Memory → List Fetched → Progress
begun start fetched = record { image = start; fetched = map blank fetched }

pub at_map : {X : Type 0} (g : Fetched → X) (fetched : List Fetched) (i : ℕ) → get_or (map g fetched) i (g no_entry) ≡ g (entry_at fetched i)
at_map g [] i = refl
at_map g (entry ∷ fetched) zero = refl
at_map g (entry ∷ fetched) (suc i) = at_map g fetched i

pub job_entry : (fetched : List Fetched) (i : ℕ) → job_at (jobs_of fetched) i ≡ (entry_at fetched i).job
job_entry fetched i = at_map (λ entry. entry.job) fetched i

-- an element of a list is among it
pub member_here : (places : List ℕ) (i place : ℕ) → i < length places → get_or places i 0 ≡ place → is_in place places ≡ true
member_here places i place below here = list_any_at (nat_eq place) places i 0 below (eq-eqb place (get_or places i 0) (sym here))

-- a test that is looked at second
pub or_turned : (a b : Bool) → (b || a) ≡ (a || b)
or_turned true true = refl
or_turned true false = refl
or_turned false true = refl
or_turned false false = refl

-- what a new answer does not change stays
pub field_stays : {X : Type 0} (g : Fetched → X) (fetched : List Fetched) (i : ℕ) (entry : Fetched) → g entry ≡ g (entry_at fetched i) → map g (set fetched i entry) ≡ map g fetched
field_stays g fetched i entry same =
    map-set g fetched i entry
    ∙ (ap (set (map g fetched) i) (same ∙ sym (at_map g fetched i)) ∙ set-get_or (map g fetched) i (g no_entry))

pub fields_stay : {X : Type 0} (g : Fetched → X) → ((entry : Fetched) (answer : Option Record) → g (record entry { answer = answer }) ≡ g entry) → (staging : ℕ) (places : List ℕ) (now : Progress) → map g (run_all (carry_out staging) now places).fetched ≡ map g now.fetched
fields_stay g same staging [] now = refl
fields_stay g same staging (i ∷ places) now =
    fields_stay g same staging places (carry_out staging now i)
    ∙ field_stays g now.fetched i (record (entry_at now.fetched i) { answer = Some (step now.image (entry_at now.fetched i).job staging).1 }) (same (entry_at now.fetched i) _)

pub jobs_stay : (staging : ℕ) (places : List ℕ) (now : Progress) → jobs_of (run_all (carry_out staging) now places).fetched ≡ jobs_of now.fetched
jobs_stay staging places now = fields_stay (λ entry. entry.job) (λ entry answer. refl) staging places now

pub blanks_stay : (staging : ℕ) (places : List ℕ) (now : Progress) → map blank (run_all (carry_out staging) now places).fetched ≡ map blank now.fetched
blanks_stay staging places now = fields_stay blank (λ entry answer. refl) staging places now

pub count_stays : (staging : ℕ) (places : List ℕ) (now : Progress) → length (run_all (carry_out staging) now places).fetched ≡ length now.fetched
count_stays staging [] now = refl
count_stays staging (i ∷ places) now = count_stays staging places (carry_out staging now i) ∙ length-set now.fetched i _

-- jobs that do not conflict may change places
pub record Good (jobs : List Job) (now : Progress) : Type 0 where
  pub whole : IsWhole now.image
  pub known : jobs_of now.fetched ≡ jobs

abbrev made : Memory → List Fetched → Progress
made image fetched = record { image = image; fetched = fetched }

abbrev answered : Fetched → Record → Fetched
answered entry answer = record entry { answer = Some answer }

-- the second of two steps, by its entry as it stood before both
second_step : (staging : ℕ) (now : Progress) (i k : ℕ) → (k ≡ i → ⊥) → carry_out staging (carry_out staging now i) k ≡ made (step (step now.image (entry_at now.fetched i).job staging).0 (entry_at now.fetched k).job staging).0 (set (set now.fetched i (answered (entry_at now.fetched i) (step now.image (entry_at now.fetched i).job staging).1)) k (answered (entry_at now.fetched k) (step (step now.image (entry_at now.fetched i).job staging).0 (entry_at now.fetched k).job staging).1))
second_step staging now i k other =
    let first = step now.image (entry_at now.fetched i).job staging in
    let list = set now.fetched i (answered (entry_at now.fetched i) first.1) in
    ap (λ (entry : Fetched). made (step first.0 entry.job staging).0 (set list k (answered entry (step first.0 entry.job staging).1)))
    (get_or-set_other now.fetched i k (answered (entry_at now.fetched i) first.1) no_entry other)

pub commutes : (jobs : List Job) (staging n : ℕ) → Commutes Progress (Good jobs) (carry_out staging) (waits jobs staging) n
commutes jobs staging n = record {
  keeps = λ now i good. record { whole = step_whole now.image (entry_at now.fetched i).job staging good.whole; known = jobs_stay staging (i ∷ []) now ∙ good.known };
  swap = λ now i k good low below apart.
      let a = entry_at now.fetched i in
      let b = entry_at now.fetched k in
      let at : (j : ℕ) → job_at jobs j ≡ (entry_at now.fetched j).job = λ j. ap (λ (list : List Job). job_at list j) (sym good.known) ∙ job_entry now.fetched j in
      let still : conflict (unless_refused staging a.job) (unless_refused staging b.job) ≡ false =
      ap (λ (x : Job). conflict (unless_refused staging x) (unless_refused staging b.job)) (sym (at i))
      ∙ (ap (λ (y : Job). conflict (unless_refused staging (job_at jobs i)) (unless_refused staging y)) (sym (at k)) ∙ apart) in
      let change = jobs_commute now.image a.job b.job staging good.whole still in
      let first = (step now.image a.job staging).1 in
      let second = (step (step now.image a.job staging).0 b.job staging).1 in
      second_step staging now i k (λ same. absurd (omega (arith, same)))
      ∙ (ap (λ (image : Memory). made image (set (set now.fetched i (answered a first)) k (answered b second))) change.image
      ∙ (ap (made (step (step now.image b.job staging).0 a.job staging).0)
      (set_comm now.fetched i k (answered a first) (answered b second) (λ same. absurd (omega (arith, same)))
      ∙ (ap (λ (r : Record). set (set now.fetched k (answered b r)) i (answered a first)) change.second
      ∙ ap (λ (r : Record). set (set now.fetched k (answered b (step now.image b.job staging).1)) i (answered a r)) change.first))
      ∙ sym (second_step staging now k i (λ same. absurd (omega (arith, same))))));
}

-- the image after jobs at any places
pub image_after : (jobs : List Job) (staging : ℕ) (places : List ℕ) (now : Progress) → jobs_of now.fetched ≡ jobs → (run_all (carry_out staging) now places).image ≡ memory_after now.image (map (job_at jobs) places) staging
image_after jobs staging [] now same = refl
image_after jobs staging (i ∷ places) now same =
    image_after jobs staging places (carry_out staging now i) (jobs_stay staging (i ∷ []) now ∙ same)
    ∙ ap (λ (job : Job). memory_after (step now.image job staging).0 (map (job_at jobs) places) staging)
    (sym (job_entry now.fetched i) ∙ ap (λ (list : List Job). job_at list i) same)

-- an entry that is not among the places stays
pub entry_stays : (staging : ℕ) (places : List ℕ) (now : Progress) (i : ℕ) → is_in i places ≡ false → entry_at (run_all (carry_out staging) now places).fetched i ≡ entry_at now.fetched i
entry_stays staging [] now i out = refl
entry_stays staging (k ∷ places) now i out =
    ⊎_elim (λ same. absurd (both_ways _ out (ap (λ b. b || is_in i places) (eq-eqb i k same))))
    (λ other.
    entry_stays staging places (carry_out staging now k) i (sym (ap (λ b. b || is_in i places) (ne_eqb i k other)) ∙ out)
    ∙ get_or-set_other now.fetched k i _ no_entry other)
    (cases_eq i k)

-- an entry has an answer where it is among the places, or had one
either_true : (b : Bool) → true ≡ (b || true)
either_true true = refl
either_true false = refl

pub answers_set : (staging : ℕ) (places : List ℕ) (now : Progress) (i : ℕ) → i < length now.fetched → is_some (entry_at (run_all (carry_out staging) now places).fetched i).answer ≡ (is_in i places || is_some (entry_at now.fetched i).answer)
answers_set staging [] now i below = refl
answers_set staging (k ∷ places) now i below =
    let entry = answered (entry_at now.fetched k) (step now.image (entry_at now.fetched k).job staging).1 in
    let rest = answers_set staging places (carry_out staging now k) i (let e : i < length (set now.fetched k entry) = omega (arith, below, length-set now.fetched k entry) in e) in
    ⊎_elim (λ same.
    rest
    ∙ (ap (λ (e : Fetched). is_in i places || is_some e.answer) (ap (entry_at (set now.fetched k entry)) same ∙ get_or-set_same now.fetched k entry no_entry (let e : k < length now.fetched = omega (arith, below, same) in e))
    ∙ (sym (either_true (is_in i places)) ∙ sym (ap (λ b. (b || is_in i places) || is_some (entry_at now.fetched i).answer) (eq-eqb i k same)))))
    (λ other.
    rest
    ∙ (ap (λ (e : Fetched). is_in i places || is_some e.answer) (get_or-set_other now.fetched k i entry no_entry other)
    ∙ sym (ap (λ b. (b || is_in i places) || is_some (entry_at now.fetched i).answer) (ne_eqb i k other))))
    (cases_eq i k)

-- all in order: each answer is that of the fold
range_above : (from count i : ℕ) → i < from → is_in i (range_with_len from count) ≡ false
range_above from zero i low = refl
range_above from (suc count) i low =
    ap (λ b. b || is_in i (range_with_len (from + 1) count)) (ne_eqb i from (λ same. omega (arith, same, low)))
    ∙ range_above (from + 1) count i (omega arith)

pub answers_in_order : (jobs : List Job) (staging from count : ℕ) (now : Progress) → jobs_of now.fetched ≡ jobs → from + count ≡ length jobs → (i : ℕ) → from ≤ i → i < length jobs → (entry_at (run_all (carry_out staging) now (range_with_len from count)).fetched i).answer ≡ slice_get (records_of now.image (drop from jobs) staging) (i - from)
answers_in_order jobs staging from zero now same size i low below = absurd (omega arith)
answers_in_order jobs staging from (suc count) now same size i low below =
    let entry = entry_at now.fetched from in
    let done = step now.image entry.job staging in
    let next = carry_out staging now from in
    let own : entry.job ≡ job_at jobs from = sym (job_entry now.fetched from) ∙ ap (λ (list : List Job). job_at list from) same in
    let cut : drop from jobs ≡ entry.job ∷ drop (from + 1) jobs = drop_more jobs from no_op_job (let e : from < length jobs = omega arith in e) ∙ ap (λ (job : Job). job ∷ drop (from + 1) jobs) (sym own) in
    let rest = range_with_len (from + 1) count in
    let whole : (k : ℕ) → slice_get (records_of now.image (drop from jobs) staging) k ≡ slice_get (done.1 ∷ records_of done.0 (drop (from + 1) jobs) staging) k =
    λ k. ap (λ (list : List Job). slice_get (records_of now.image list staging) k) cut in
    ⊎_elim (λ first.
    let inside : from < length now.fetched = (let e = ap length same in let m = length-map now.fetched (λ (entry : Fetched). entry.job) in omega (arith, e, m)) in
    ap (λ (k : ℕ). (entry_at (run_all (carry_out staging) next rest).fetched k).answer) (sym first)
    ∙ (ap (λ (e : Fetched). e.answer) (entry_stays staging rest next from (range_above (from + 1) count from (let e : from < from + 1 = omega arith in e)))
    ∙ (ap (λ (e : Fetched). e.answer) (get_or-set_same now.fetched from (answered entry done.1) no_entry inside)
    ∙ sym (whole (i - from) ∙ ap (slice_get (done.1 ∷ records_of done.0 (drop (from + 1) jobs) staging)) (let e : i - from ≡ 0 = omega (arith, first) in e)))))
    (λ other.
    answers_in_order jobs staging (from + 1) count next (jobs_stay staging (from ∷ []) now ∙ same) (let e : from + 1 + count ≡ length jobs = omega arith in e) i (let e : from + 1 ≤ i = omega (arith, other, low) in e) below
    ∙ sym (whole (i - from) ∙ ap (slice_get (done.1 ∷ records_of done.0 (drop (from + 1) jobs) staging)) (let e : i - from ≡ suc (i - (from + 1)) = omega (arith, other, low) in e)))
    (cases_eq from i)

-- an entry behind all places is not touched
pub run_behind : (staging : ℕ) (places : List ℕ) (image : Memory) (fetched : List Fetched) (entry : Fetched) → ((i : ℕ) → is_in i places ≡ true → i < length fetched) → run_all (carry_out staging) (made image (fetched ++ entry ∷ [])) places ≡ made (run_all (carry_out staging) (made image fetched) places).image ((run_all (carry_out staging) (made image fetched) places).fetched ++ entry ∷ [])
run_behind staging [] image fetched entry bounded = refl
run_behind staging (i ∷ places) image fetched entry bounded =
    let below : i < length fetched = bounded i (ap (λ b. b || is_in i places) (eq-eqb i i refl)) in
    let own = entry_at fetched i in
    let done = step image own.job staging in
    let one : carry_out staging (made image (fetched ++ entry ∷ [])) i ≡ made done.0 (set fetched i (answered own done.1) ++ entry ∷ []) =
    ap (λ (e : Fetched). made (step image e.job staging).0 (set (fetched ++ entry ∷ []) i (answered e (step image e.job staging).1))) (get_or_append_left fetched (entry ∷ []) no_entry i below)
    ∙ ap (made done.0) (set-append_left fetched (entry ∷ []) i (answered own done.1) below) in
    ap (λ (now : Progress). run_all (carry_out staging) now places) one
    ∙ run_behind staging places done.0 (set fetched i (answered own done.1)) entry
    (λ k here. (let low = bounded k (or_any (nat_eq k i) (is_in k places) here) in let size = length-set fetched i (answered own done.1) in omega (arith, low, size)))
  where
    or_any : (a b : Bool) → b ≡ true → (a || b) ≡ true
    or_any true b here = refl
    or_any false b here = here

-- the entries that pass a test, by their places
pub by_places : {X : Type 0} (g : Fetched → X) (p : Fetched → Bool) (fetched : List Fetched) (from count : ℕ) → from + count ≡ length fetched → map (λ i. g (entry_at fetched i)) (filter (λ i. p (entry_at fetched i)) (range_with_len from count)) ≡ map g (filter p (drop from fetched))
by_places {X} g p fetched from zero size = sym (ap (λ (list : List Fetched). map g (filter p list)) (drop_all from fetched (let e : length fetched ≤ from = omega arith in e)))
by_places {X} g p fetched from (suc count) size =
    let own = entry_at fetched from in
    let places = filter (λ i. p (entry_at fetched i)) (range_with_len (from + 1) count) in
    let rest = by_places g p fetched (from + 1) count (let e : from + 1 + count ≡ length fetched = omega arith in e) in
    let cut = drop_more fetched from no_entry (let e : from < length fetched = omega arith in e) in
    sym (ap (λ (list : List Fetched). map g (filter p list)) cut
    ∙ elim (p own) as (λ b. map g (cond b (own ∷ filter p (drop (from + 1) fetched)) (filter p (drop (from + 1) fetched))) ≡ map (λ i. g (entry_at fetched i)) (cond b (from ∷ places) places)) [
      | true ↦ ap (λ (xs : List X). g own ∷ xs) (sym rest)
      | false ↦ sym rest
    ])
