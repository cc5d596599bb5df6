-- What every allowed step keeps.
use Rattle.std.proofs.Common.{◌≡◌, ℕ, ◌+◌, ◌<◌, ◌≤◌, zero, suc, Bool, true, false, not, cond, List, [], ◌∷◌, ◌++◌, length, get_or, set, map, filter, drop, replicate, refl, sym, ◌∙◌, ap, subst, arith, ⊎_elim, Option, None, Some}
use Rattle.std.proofs.lemmas.Bool.{cases_lt, cases_eq, and_parts, and_from, eqb-true, eq-eqb, ne_eqb, ltb-true, false≢true, both_ways, or_cases}
use Rattle.std.proofs.lemmas.List.{append_assoc, append-nil, length-map, length-append, length-replicate, length-set, map-append, get_or-set_same, get_or-set_other, get_or_past, nil_from_length}
use Rattle.std.proofs.lemmas.List.Elements.{filter-append}
use Rattle.std.specs.Prelude.{nat_eq, nat_lt, ◌&&◌, is_some, is_none, slice_get, unwrap_or, option_map, filter_map, find, flat_map}
use Rattle.std.specs.List.{list_all}
use Rattle.dml_types.specs.Limits.{IsValid}
use Rattle.dml_types.specs.Memory.{Memory, IsMemory}
use Rattle.dml_types.specs.Step.{memory_after, records_of}
use Rattle.dml_order.specs.Order.{run_all, is_in}
use Rattle.dml_order.specs.Waves.{joined}
use Rattle.dml_core.specs.Types.{Job, Settings, Fetched, Task, Step, Submit, Fetch, Take, Finish, Commit}
use Rattle.dml_core.specs.Plan.{no_entry, entry_at, is_refused, jobs_of, chunk_tasks}
use Rattle.dml_core.specs.World.{Kept, Value, task_value, World, new_world, sent_by, part_of, next_job, in_hand, no_hand, is_empty, is_allowed, carry_out, world_progress, wave_at, wave_tasks, new_entry, kept_task, kept_now, after, run, Reaches}
use Rattle.dml_core.specs.Laws.{committed, held, how_many, CoreKeeps, submitted, SentIsSubmitted, OnlyCommitWrites, is_task, kept_value, job_tasks, EachHasItsValues, KeptJoinToStep}
use Rattle.dml_core.proofs.FoldLemmas.{blank, blanks_stay}
use Rattle.dml_core.proofs.ImageLemmas.{carried_kept}
use Rattle.dml_core.proofs.OrderedLemmas.{IsOrdered, ordered_at_first, ordered_after_wave, ordered_after_fetch, ordered_image, ordered_answers}

-- the order
abbrev pub OrderStands : Memory → World → Type 0
OrderStands start w = IsOrdered w.settings.staging start w.image w.fetched w.waves

first_and_others : (waves : List (List ℕ)) → joined waves ≡ get_or waves 0 [] ++ joined (drop 1 waves)
first_and_others [] = refl
first_and_others (wave ∷ waves) = refl

order_after : (start : Memory) (w : World) (s : Step) → OrderStands start w → OrderStands start (after w s)
order_after start w (Submit client job) o = record { done = o.done; planned = o.planned; reached = o.reached }
order_after start w (Fetch client) o =
    ordered_after_fetch w.settings.staging w.settings.chunk start w.image w.fetched w.waves (new_entry client (next_job w client)) refl o
order_after start w (Take worker) o = record { done = o.done; planned = o.planned; reached = o.reached }
order_after start w (Finish worker) o = record { done = o.done; planned = o.planned; reached = o.reached }
order_after start w Commit o =
    ordered_after_wave w.settings.staging start w.image w.fetched (wave_at w 0) w.waves (drop 1 w.waves) (first_and_others w.waves) o

-- what a fetch and a commit ask for
pub next_there : (w : World) (sender : ℕ) → is_allowed w (Fetch sender) ≡ true → is_some (next_job w sender) ≡ true
next_there w sender allowed = (and_parts (is_some (next_job w sender)) _ (and_parts _ _ (and_parts _ _ allowed).0).0).0

pub fetch_no_hand : (w : World) (sender : ℕ) → is_allowed w (Fetch sender) ≡ true → no_hand w ≡ true
fetch_no_hand w sender allowed = (and_parts (is_some (next_job w sender)) (no_hand w) (and_parts _ _ (and_parts _ _ allowed).0).0).1

pub fetch_none_finished : (w : World) (sender : ℕ) → is_allowed w (Fetch sender) ≡ true → w.finished ≡ []
fetch_none_finished w sender allowed =
    nil_from_length w.finished (eqb-true (length w.finished) 0 (and_parts (is_some (next_job w sender) && no_hand w) (is_empty w.finished) (and_parts _ _ allowed).0).1)

pub commit_no_hand : (w : World) → is_allowed w Commit ≡ true → no_hand w ≡ true
commit_no_hand w allowed = (and_parts (not (is_empty w.waves) && is_empty w.to_do) (no_hand w) allowed).1

pub commit_none_to_do : (w : World) → is_allowed w Commit ≡ true → w.to_do ≡ []
commit_none_to_do w allowed =
    nil_from_length w.to_do (eqb-true (length w.to_do) 0 (and_parts (not (is_empty w.waves)) (is_empty w.to_do) (and_parts _ (no_hand w) allowed).0).1)

pub none_held : (hands : List (Option Task)) → list_all is_none hands ≡ true → held hands ≡ []
none_held [] none = refl
none_held (None ∷ hands) none = none_held hands none
none_held (Some task ∷ hands) none = absurd (false≢true none)

-- the parts
abbrev pub PartsStand : World → Type 0
PartsStand w = (client : ℕ) → (rest : List Job) × (sent_by w client ≡ jobs_of (part_of client w.fetched) ++ rest)

blank_part : (client : ℕ) (fetched : List Fetched) → jobs_of (part_of client (map blank fetched)) ≡ jobs_of (part_of client fetched)
blank_part client [] = refl
blank_part client (entry ∷ fetched) =
    elim (nat_eq entry.client client) as (λ b. jobs_of (cond b (blank entry ∷ part_of client (map blank fetched)) (part_of client (map blank fetched))) ≡ jobs_of (cond b (entry ∷ part_of client fetched) (part_of client fetched))) [
      | true ↦ ap (λ (list : List Job). entry.job ∷ list) (blank_part client fetched)
      | false ↦ blank_part client fetched
    ]

pub same_part : (client : ℕ) (one other : List Fetched) → map blank one ≡ map blank other → jobs_of (part_of client one) ≡ jobs_of (part_of client other)
same_part client one other same =
    sym (blank_part client one) ∙ (ap (λ (list : List Fetched). jobs_of (part_of client list)) same ∙ blank_part client other)

-- the element behind a front is the first of the rest
next_from : (front rest : List Job) (d : Job) → is_some (slice_get (front ++ rest) (length front)) ≡ true → rest ≡ unwrap_or (slice_get (front ++ rest) (length front)) d ∷ drop 1 rest
next_from [] [] d here = absurd (false≢true here)
next_from [] (job ∷ rest) d here = refl
next_from (job ∷ front) rest d here = next_from front rest d here

part_more : (client : ℕ) (fetched : List Fetched) (entry : Fetched) → jobs_of (part_of client (fetched ++ entry ∷ [])) ≡ jobs_of (part_of client fetched) ++ cond (nat_eq entry.client client) (entry.job ∷ []) []
part_more client fetched entry =
    ap jobs_of (filter-append (λ (e : Fetched). nat_eq e.client client) fetched (entry ∷ []))
    ∙ (map-append (λ (e : Fetched). e.job) (part_of client fetched) (part_of client (entry ∷ []))
    ∙ ap (λ (list : List Job). jobs_of (part_of client fetched) ++ list) (one (nat_eq entry.client client)))
  where
    one : (b : Bool) → jobs_of (cond b (entry ∷ []) []) ≡ cond b (entry.job ∷ []) []
    one true = refl
    one false = refl

parts_after : (w : World) (s : Step) → PartsStand w → is_allowed w s ≡ true → PartsStand (after w s)
parts_after w (Submit sender job) parts allowed client =
    let old = parts client in
    let mine = sent_by w sender ++ job ∷ [] in
    ⊎_elim (λ same.
    let whole : get_or (set w.sent sender mine) client [] ≡ jobs_of (part_of client w.fetched) ++ (old.0 ++ job ∷ []) =
    ap (λ (k : ℕ). get_or (set w.sent sender mine) k []) same
    ∙ (get_or-set_same w.sent sender mine [] (ltb-true sender (length w.sent) allowed)
    ∙ (ap (λ (k : ℕ). sent_by w k ++ job ∷ []) (sym same)
    ∙ (ap (λ (list : List Job). list ++ job ∷ []) old.1 ∙ append_assoc (jobs_of (part_of client w.fetched)) old.0 (job ∷ [])))) in
    (old.0 ++ job ∷ [], whole))
    (λ other. (old.0, get_or-set_other w.sent sender client mine [] other ∙ old.1))
    (cases_eq client sender)
parts_after w (Fetch sender) parts allowed client =
    let old = parts client in
    let front = jobs_of (part_of client w.fetched) in
    let entry = new_entry sender (next_job w sender) in
    let more = part_more client w.fetched entry in
    ⊎_elim (λ same.
    let size : length (part_of client w.fetched) ≡ length front = sym (length-map (part_of client w.fetched) (λ (e : Fetched). e.job)) in
    let next : next_job w sender ≡ slice_get (front ++ old.0) (length front) =
    ap (next_job w) same ∙ (ap (λ (list : List Job). slice_get list (length (part_of client w.fetched))) old.1 ∙ ap (slice_get (front ++ old.0)) size) in
    let there : is_some (slice_get (front ++ old.0) (length front)) ≡ true = sym (ap is_some next) ∙ next_there w sender allowed in
    let cut : old.0 ≡ entry.job ∷ drop 1 old.0 =
    next_from front old.0 no_entry.job there ∙ ap (λ (n : Option Job). unwrap_or n no_entry.job ∷ drop 1 old.0) (sym next) in
    let whole : sent_by w client ≡ jobs_of (part_of client (w.fetched ++ entry ∷ [])) ++ drop 1 old.0 =
    old.1
    ∙ (ap (λ (list : List Job). front ++ list) cut
    ∙ (sym (append_assoc front (entry.job ∷ []) (drop 1 old.0))
    ∙ ap (λ (list : List Job). list ++ drop 1 old.0) (sym (more ∙ ap (λ b. front ++ cond b (entry.job ∷ []) []) (eq-eqb sender client same))))) in
    (drop 1 old.0, whole))
    (λ other.
    let whole : sent_by w client ≡ jobs_of (part_of client (w.fetched ++ entry ∷ [])) ++ old.0 =
    old.1 ∙ ap (λ (list : List Job). list ++ old.0) (sym (more ∙ (ap (λ b. front ++ cond b (entry.job ∷ []) []) (ne_eqb sender client other) ∙ append-nil front))) in
    (old.0, whole))
    (cases_eq sender client)
parts_after w (Take worker) parts allowed client = parts client
parts_after w (Finish worker) parts allowed client = parts client
parts_after w Commit parts allowed client =
    let old = parts client in
    let next = (run_all (carry_out w.settings.staging) (world_progress w) (wave_at w 0)).fetched in
    (old.0, old.1 ∙ ap (λ (list : List Job). list ++ old.0) (same_part client w.fetched next (sym (blanks_stay w.settings.staging (wave_at w 0) (world_progress w)))))

-- the tasks
abbrev pub finished_tasks : World → List Task
finished_tasks w = map (λ kept. kept.task) w.finished

abbrev pub TasksStand : World → Type 0
TasksStand w = (test : Task → Bool) → how_many test (wave_tasks w) ≡ how_many test w.to_do + how_many test (held w.hands) + how_many test (finished_tasks w)

abbrev one_task : Option Task → List Task
one_task None = []
one_task (Some task) = task ∷ []

how_many_append : (test : Task → Bool) (xs ys : List Task) → how_many test (xs ++ ys) ≡ how_many test xs + how_many test ys
how_many_append test xs ys = ap length (filter-append test xs ys) ∙ length-append (filter test xs) (filter test ys)

held_more : (test : Task → Bool) (hand : Option Task) (hands : List (Option Task)) → how_many test (held (hand ∷ hands)) ≡ how_many test (one_task hand) + how_many test (held hands)
held_more test None hands = omega arith
held_more test (Some task) hands = how_many_append test (task ∷ []) (held hands)

held_set : (test : Task → Bool) (hands : List (Option Task)) (worker : ℕ) (hand : Option Task) → worker < length hands → how_many test (held (set hands worker hand)) + how_many test (one_task (get_or hands worker None)) ≡ how_many test (one_task hand) + how_many test (held hands)
held_set test [] worker hand below = absurd (omega arith)
held_set test (old ∷ hands) zero hand below =
    let one = held_more test hand hands in
    let two = held_more test old hands in
    omega (arith, one, two)
held_set test (old ∷ hands) (suc worker) hand below =
    let one = held_more test old (set hands worker hand) in
    let two = held_more test old hands in
    let rest = held_set test hands worker hand (let e : worker < length hands = omega arith in e) in
    omega (arith, one, two, rest)

first_task : (test : Task → Bool) (tasks : List Task) → how_many test tasks ≡ how_many test (one_task (slice_get tasks 0)) + how_many test (drop 1 tasks)
first_task test [] = omega arith
first_task test (task ∷ tasks) = how_many_append test (task ∷ []) tasks

none_there : (hand : Option Task) → is_none hand ≡ true → hand ≡ None
none_there None none = refl
none_there (Some task) none = absurd (false≢true none)

some_inside : (hands : List (Option Task)) (worker : ℕ) → is_some (get_or hands worker None) ≡ true → worker < length hands
some_inside hands worker there =
    ⊎_elim (λ below. below) (λ past. absurd (both_ways _ (ap is_some (get_or_past hands worker None past)) there)) (cases_lt worker (length hands))

kept_tasks : (w : World) (hand : Option Task) → map (λ kept. kept.task) (kept_now w hand) ≡ one_task hand
kept_tasks w None = refl
kept_tasks w (Some task) = refl

-- all tasks of the wave are to do, and none is anywhere else
all_to_do : (test : Task → Bool) (tasks : List Task) (hands : List (Option Task)) (finished : List Task) → list_all is_none hands ≡ true → finished ≡ [] → how_many test tasks ≡ how_many test tasks + how_many test (held hands) + how_many test finished
all_to_do test tasks hands finished no_hands none =
    let one = ap (how_many test) (none_held hands no_hands) in
    let two = ap (how_many test) none in
    omega (arith, one, two)

tasks_after : (w : World) (s : Step) → TasksStand w → is_allowed w s ≡ true → TasksStand (after w s)
tasks_after w (Submit client job) stand allowed test = stand test
tasks_after w (Fetch client) stand allowed test =
    all_to_do test (wave_tasks (after w (Fetch client))) w.hands (finished_tasks w) (fetch_no_hand w client allowed)
    (ap (map (λ (kept : Kept). kept.task)) (fetch_none_finished w client allowed))
tasks_after w (Take worker) stand allowed test =
    let parts = and_parts (nat_lt worker (length w.hands) && is_none (in_hand w worker)) _ allowed in
    let hand = and_parts (nat_lt worker (length w.hands)) (is_none (in_hand w worker)) parts.0 in
    let old = stand test in
    let first = first_task test w.to_do in
    let moved = held_set test w.hands worker (slice_get w.to_do 0) (ltb-true worker (length w.hands) hand.0) in
    let none = ap (λ (h : Option Task). how_many test (one_task h)) (none_there (in_hand w worker) hand.1) in
    let goal : how_many test (wave_tasks w) ≡ how_many test (drop 1 w.to_do) + how_many test (held (set w.hands worker (slice_get w.to_do 0))) + how_many test (finished_tasks w) = omega (arith, old, first, moved, none) in goal
tasks_after w (Finish worker) stand allowed test =
    let old = stand test in
    let moved = held_set test w.hands worker None (some_inside w.hands worker allowed) in
    let more : how_many test (map (λ (kept : Kept). kept.task) (w.finished ++ kept_now w (in_hand w worker))) ≡ how_many test (finished_tasks w) + how_many test (one_task (in_hand w worker)) =
    ap (how_many test) (map-append (λ (kept : Kept). kept.task) w.finished (kept_now w (in_hand w worker)) ∙ ap (λ (list : List Task). finished_tasks w ++ list) (kept_tasks w (in_hand w worker)))
    ∙ how_many_append test (finished_tasks w) (one_task (in_hand w worker)) in
    let goal : how_many test (wave_tasks w) ≡ how_many test w.to_do + how_many test (held (set w.hands worker None)) + how_many test (map (λ (kept : Kept). kept.task) (w.finished ++ kept_now w (in_hand w worker))) = omega (arith, old, moved, more) in goal
tasks_after w Commit stand allowed test =
    all_to_do test (wave_tasks (after w Commit)) w.hands [] (commit_no_hand w allowed) refl

-- the values
abbrev pub ValuesStand : World → Type 0
ValuesStand w = w.finished ≡ map (kept_task w.fetched w.image) (finished_tasks w)

values_after : (w : World) (s : Step) → ValuesStand w → is_allowed w s ≡ true → ValuesStand (after w s)
values_after w (Submit client job) stand allowed = stand
values_after w (Fetch client) stand allowed =
    let next = after w (Fetch client) in
    subst (λ (list : List Kept). list ≡ map (kept_task next.fetched next.image) (map (λ kept. kept.task) list)) (sym (fetch_none_finished w client allowed)) refl
values_after w (Take worker) stand allowed = stand
values_after w (Finish worker) stand allowed =
    let one = in_hand w worker in
    let kept = kept_task w.fetched w.image in
    let tasks : List Kept → List Task = map (λ k. k.task) in
    ap (λ (list : List Kept). list ++ kept_now w one) stand
    ∙ (ap (λ (list : List Kept). map kept (tasks w.finished) ++ list) (kept_one w one)
    ∙ (sym (map-append kept (tasks w.finished) (tasks (kept_now w one)))
    ∙ ap (map kept) (sym (map-append (λ (k : Kept). k.task) w.finished (kept_now w one)))))
  where
    kept_one : (w : World) (hand : Option Task) → kept_now w hand ≡ map (kept_task w.fetched w.image) (map (λ k. k.task) (kept_now w hand))
    kept_one w None = refl
    kept_one w (Some task) = refl
values_after w Commit stand allowed = refl

-- all of it
pub record Stands (start : Memory) (w : World) : Type 0 where
  pub order : OrderStands start w
  pub parts : PartsStand w
  pub tasks : TasksStand w
  pub values : ValuesStand w

pub stands_after : (start : Memory) (w : World) (s : Step) → Stands start w → is_allowed w s ≡ true → Stands start (after w s)
stands_after start w s stands allowed = record {
  order = order_after start w s stands.order;
  parts = parts_after w s stands.parts allowed;
  tasks = tasks_after w s stands.tasks allowed;
  values = values_after w s stands.values allowed;
}

pub same_all_over : {X : Type 0} (n i : ℕ) (x : X) → get_or (replicate n x) i x ≡ x
same_all_over zero i x = refl
same_all_over (suc n) zero x = refl
same_all_over (suc n) (suc i) x = same_all_over n i x

abbrev pub free_hands : ℕ → List (Option Task)
free_hands workers = replicate workers None

pub none_held_first : (workers : ℕ) → list_all is_none (free_hands workers) ≡ true
none_held_first zero = refl
none_held_first (suc workers) = none_held_first workers

pub stands_at_first : (start : Memory) (settings : Settings) (clients : ℕ) → Stands start (new_world start settings clients)
stands_at_first start settings clients = record {
  order = ordered_at_first settings.staging start;
  parts = λ client. ([], same_all_over clients client []);
  tasks = λ test. all_to_do test [] (free_hands settings.workers) [] (none_held_first settings.workers) refl;
  values = refl;
}

-- what no step changes
pub record Lasts (start : Memory) (given : Settings) (clients : ℕ) (w : World) : Type 0 where
  pub settings : w.settings ≡ given
  pub as_many_clients : length w.sent ≡ clients
  pub as_many_hands : length w.hands ≡ given.workers
  pub memory : IsMemory start → IsMemory w.image

lasts_after : (start : Memory) (given : Settings) (clients : ℕ) (w : World) (s : Step) → Lasts start given clients w → Lasts start given clients (after w s)
lasts_after start given clients w (Submit client job) old = record {
  settings = old.settings;
  as_many_clients = length-set w.sent client (sent_by w client ++ job ∷ []) ∙ old.as_many_clients;
  as_many_hands = old.as_many_hands;
  memory = old.memory;
}
lasts_after start given clients w (Fetch client) old = record { settings = old.settings; as_many_clients = old.as_many_clients; as_many_hands = old.as_many_hands; memory = old.memory }
lasts_after start given clients w (Take worker) old = record {
  settings = old.settings;
  as_many_clients = old.as_many_clients;
  as_many_hands = length-set w.hands worker (slice_get w.to_do 0) ∙ old.as_many_hands;
  memory = old.memory;
}
lasts_after start given clients w (Finish worker) old = record {
  settings = old.settings;
  as_many_clients = old.as_many_clients;
  as_many_hands = length-set w.hands worker None ∙ old.as_many_hands;
  memory = old.memory;
}
lasts_after start given clients w Commit old = record {
  settings = old.settings;
  as_many_clients = old.as_many_clients;
  as_many_hands = old.as_many_hands;
  memory = λ good. carried_kept w.settings.staging (wave_at w 0) (world_progress w) (old.memory good);
}

pub lasts_at_first : (start : Memory) (given : Settings) (clients : ℕ) → Lasts start given clients (new_world start given clients)
lasts_at_first start given clients = record {
  settings = refl;
  as_many_clients = length-replicate {A = List Job} clients [];
  as_many_hands = length-replicate {A = Option Task} given.workers None;
  memory = λ good. good;
}

-- what each allowed step keeps, a run keeps
pub run_keeps : (Holds : World → Type 0) → ((w : World) (s : Step) → Holds w → is_allowed w s ≡ true → Holds (after w s)) → (w : World) (steps : List Step) → Holds w → Holds (run w steps).0
run_keeps Holds each w [] holds = holds
run_keeps Holds each w (s ∷ steps) holds =
    let rest = run (after w s) steps in
    elim (is_allowed w s) as (λ b. is_allowed w s ≡ b → Holds (cond {A = World × Option ℕ} b (rest.0, option_map (λ i. i + 1) rest.1) (w, Some 0)).0) [
      | true ↦ λ allowed. run_keeps Holds each (after w s) steps (each w s holds allowed)
      | false ↦ λ refused. holds
    ] refl

pub stands_run : (start : Memory) (w : World) (steps : List Step) → Stands start w → Stands start (run w steps).0
stands_run start w steps stands = run_keeps (Stands start) (stands_after start) w steps stands

pub lasts_run : (start : Memory) (given : Settings) (clients : ℕ) (w : World) (steps : List Step) → Lasts start given clients w → Lasts start given clients (run w steps).0
lasts_run start given clients w steps lasts =
    run_keeps (Lasts start given clients) (λ v s old allowed. lasts_after start given clients v s old) w steps lasts

pub core_keeps : CoreKeeps
core_keeps start settings clients steps whole =
    let first = new_world start settings clients in
    let end = (run first steps).0 in
    let stands = stands_run start first steps (stands_at_first start settings clients) in
    let lasts = lasts_run start settings clients first steps (lasts_at_first start settings clients) in
    record {
      settings = lasts.settings;
      as_many_clients = lasts.as_many_clients;
      as_many_hands = lasts.as_many_hands;
      memory = lasts.memory;
      image =
          ordered_image end.settings.staging start end.image end.fetched end.waves whole stands.order
          ∙ ap (λ (s : Settings). memory_after start (jobs_of (committed end.fetched)) s.staging) lasts.settings;
      answers = λ i answer is.
          ap (λ (s : Settings). slice_get (records_of start (jobs_of end.fetched) s.staging) i) (sym lasts.settings)
          ∙ ordered_answers end.settings.staging start end.image end.fetched end.waves whole stands.order i answer is;
      parts = stands.parts;
      tasks = stands.tasks;
      values = stands.values;
    }

abbrev with_place : World → Option ℕ → World × Option ℕ
with_place w place = (w, place)

abbrev at_end : World → World × Option ℕ
at_end w = (w, None)

-- a run that reaches its end took an allowed step first
pub reaches_next : (w : World) (s : Step) (steps : List Step) (end : World) → Reaches w (s ∷ steps) end → (is_allowed w s ≡ true) × Reaches (after w s) steps end
reaches_next w s steps end reaches =
    let rest = run (after w s) steps in
    by_test (is_allowed w s) rest w end reaches
  where
    none_before : (place : Option ℕ) → option_map (λ i. i + 1) place ≡ None → place ≡ None
    none_before None none = refl
    none_before (Some i) none = absurd (false≢true (sym (ap is_some none)))

    by_test : (b : Bool) (rest : World × Option ℕ) (w end : World) → cond {A = World × Option ℕ} b (rest.0, option_map (λ i. i + 1) rest.1) (w, Some 0) ≡ at_end end → (b ≡ true) × (rest ≡ at_end end)
    by_test true rest w end is =
        (refl, ap (λ (x : World). with_place x rest.1) (ap (λ (pair : World × Option ℕ). pair.0) is) ∙ ap (with_place end) (none_before rest.1 (ap (λ (pair : World × Option ℕ). pair.1) is)))
    by_test false rest w end is = absurd (false≢true (sym (ap (λ (pair : World × Option ℕ). is_some pair.1) is)))

sent_grows : (w : World) (steps : List Step) (end : World) → Reaches w steps end → (client : ℕ) → sent_by end client ≡ sent_by w client ++ submitted client steps
sent_grows w [] end reaches client =
    ap (λ (pair : World × Option ℕ). sent_by pair.0 client) (sym reaches) ∙ sym (append-nil (sent_by w client))
sent_grows w (Submit sender job ∷ steps) end reaches client =
    let next = reaches_next w (Submit sender job) steps end reaches in
    let mine = sent_by w sender ++ job ∷ [] in
    sent_grows (after w (Submit sender job)) steps end next.1 client
    ∙ ⊎_elim (λ same.
    ap (λ (list : List Job). list ++ submitted client steps)
    (ap (λ (k : ℕ). get_or (set w.sent sender mine) k []) (sym same)
    ∙ (get_or-set_same w.sent sender mine [] (ltb-true sender (length w.sent) next.0) ∙ ap (λ (k : ℕ). sent_by w k ++ job ∷ []) same))
    ∙ (append_assoc (sent_by w client) (job ∷ []) (submitted client steps)
    ∙ ap (λ b. sent_by w client ++ cond b (job ∷ submitted client steps) (submitted client steps)) (sym (eq-eqb sender client same))))
    (λ other.
    ap (λ (list : List Job). list ++ submitted client steps) (get_or-set_other w.sent sender client mine [] (λ e. other (sym e)))
    ∙ ap (λ b. sent_by w client ++ cond b (job ∷ submitted client steps) (submitted client steps)) (sym (ne_eqb sender client other)))
    (cases_eq sender client)
sent_grows w (Fetch sender ∷ steps) end reaches client =
    sent_grows (after w (Fetch sender)) steps end (reaches_next w (Fetch sender) steps end reaches).1 client
sent_grows w (Take worker ∷ steps) end reaches client =
    sent_grows (after w (Take worker)) steps end (reaches_next w (Take worker) steps end reaches).1 client
sent_grows w (Finish worker ∷ steps) end reaches client =
    sent_grows (after w (Finish worker)) steps end (reaches_next w (Finish worker) steps end reaches).1 client
sent_grows w (Commit ∷ steps) end reaches client =
    sent_grows (after w Commit) steps end (reaches_next w Commit steps end reaches).1 client

pub sent_is_submitted : SentIsSubmitted
sent_is_submitted start settings clients steps end reaches client =
    sent_grows (new_world start settings clients) steps end reaches client
    ∙ ap (λ (list : List Job). list ++ submitted client steps) (same_all_over clients client [])

pub only_commit_writes : OnlyCommitWrites
only_commit_writes w (Submit client job) other = refl
only_commit_writes w (Fetch client) other = refl
only_commit_writes w (Take worker) other = refl
only_commit_writes w (Finish worker) other = refl
only_commit_writes w Commit other = absurd (false≢true (sym other))

-- each task of the wave is finished at a commit, and is found there
is_itself : (task : Task) → is_task task task ≡ true
is_itself task =
    and_from _ _ (eq-eqb task.place task.place refl) (and_from _ _ (eq-eqb task.from task.from refl) (eq-eqb task.to task.to refl))

same_task : (one other : Task) → is_task one other ≡ true → other ≡ one
same_task one other same =
    let first = and_parts (nat_eq one.place other.place) _ same in
    let second = and_parts (nat_eq one.from other.from) (nat_eq one.to other.to) first.1 in
    sym (ap (λ (k : ℕ). record one { place = k }) (eqb-true one.place other.place first.0)
    ∙ (ap (λ (k : ℕ). record one { place = other.place; from = k }) (eqb-true one.from other.from second.0)
    ∙ ap (λ (k : ℕ). record one { place = other.place; from = other.from; to = k }) (eqb-true one.to other.to second.1)))

found_kept : (w : World) (task : Task) (finished : List Kept) → finished ≡ map (kept_task w.fetched w.image) (map (λ kept. kept.task) finished) → 1 ≤ how_many (is_task task) (map (λ kept. kept.task) finished) → option_map (λ kept. kept.value) (find (λ kept. is_task task kept.task) finished) ≡ Some (task_value w.fetched w.image task)
found_kept w task [] values some = absurd (omega (arith, some))
found_kept w task (kept ∷ finished) values some =
    let own : kept.value ≡ task_value w.fetched w.image kept.task = ap (λ (list : List Kept). first_value (kept_task w.fetched w.image task) list) values in
    let rest : finished ≡ map (kept_task w.fetched w.image) (map (λ k. k.task) finished) = ap (drop 1) values in
    elim (is_task task kept.task) as (λ b. is_task task kept.task ≡ b → 1 ≤ length (cond b (kept.task ∷ filter (is_task task) (map (λ k. k.task) finished)) (filter (is_task task) (map (λ k. k.task) finished))) → option_map (λ k. k.value) (cond b (Some kept) (find (λ k. is_task task k.task) finished)) ≡ Some (task_value w.fetched w.image task)) [
      | true ↦ λ here more. ap Some (own ∙ ap (task_value w.fetched w.image) (same_task task kept.task here))
      | false ↦ λ gone more. found_kept w task finished rest more
    ] refl some
  where
    first_value : Kept → List Kept → Value
    first_value kept [] = kept.value
    first_value kept (k ∷ list) = k.value

counted_part : (test : Task → Bool) (tasks_for : ℕ → List Task) (wave : List ℕ) (i : ℕ) → is_in i wave ≡ true → how_many test (tasks_for i) ≤ how_many test (flat_map tasks_for wave)
counted_part test tasks_for [] i here = absurd (false≢true here)
counted_part test tasks_for (k ∷ wave) i here =
    let cut = how_many_append test (tasks_for k) (flat_map tasks_for wave) in
    ⊎_elim (λ same. (let e = ap (λ (j : ℕ). how_many test (tasks_for j)) (eqb-true i k same) in omega (arith, cut, e)))
    (λ later. (let rest = counted_part test tasks_for wave i later in omega (arith, cut, rest)))
    (or_cases (nat_eq i k) (is_in i wave) here)

all_found : (w : World) (tasks : List Task) → ((task : Task) → 1 ≤ how_many (is_task task) tasks → kept_value w task ≡ Some (task_value w.fetched w.image task)) → map (kept_value w) tasks ≡ map (λ task. Some (task_value w.fetched w.image task)) tasks
all_found w [] found = refl
all_found w (task ∷ tasks) found =
    let here = ap (λ b. length (cond b (task ∷ filter (is_task task) tasks) (filter (is_task task) tasks))) (is_itself task) in
    ap (λ (v : Option Value). v ∷ map (kept_value w) tasks) (found task (omega (arith, here)))
    ∙ ap (λ (list : List (Option Value)). Some (task_value w.fetched w.image task) ∷ list)
    (all_found w tasks (λ other some. found other (let cut = how_many_append (is_task other) (task ∷ []) tasks in omega (arith, cut, some))))

pub each_has_its_values : EachHasItsValues
each_has_its_values start given clients w keeps allowed i here =
    all_found w (job_tasks w i) (λ task some.
    let all = keeps.tasks (is_task task) in
    let part = counted_part (is_task task) (chunk_tasks (jobs_of w.fetched) w.settings.staging w.settings.chunk) (wave_at w 0) i here in
    let none = ap (how_many (is_task task)) (commit_none_to_do w allowed) in
    let hands = ap (how_many (is_task task)) (none_held w.hands (commit_no_hand w allowed)) in
    let done : 1 ≤ how_many (is_task task) (finished_tasks w) = omega (arith, all, part, none, hands, some) in
    found_kept w task w.finished keeps.values done)

pub kept_join_to_step : KeptJoinToStep
kept_join_to_step start given clients w keeps memory valid allowed i here accepted join law some =
    let same = keeps.settings in
    ap (λ (list : List (Option Value)). join w.image (entry_at w.fetched i).job (filter_map (λ kept. kept) list)) (each_has_its_values start given clients w keeps allowed i here)
    ∙ (ap (join w.image (entry_at w.fetched i).job) (all_there (task_value w.fetched w.image) (job_tasks w i))
    ∙ law w.image w.settings w.fetched i (keeps.memory memory) (subst IsValid (sym same) valid)
    (ap (λ (s : Settings). is_refused (jobs_of w.fetched) s.staging i) same ∙ accepted) some)
  where
    all_there : (f : Task → Value) (tasks : List Task) → filter_map (λ kept. kept) (map (λ task. Some (f task)) tasks) ≡ map f tasks
    all_there f [] = refl
    all_there f (task ∷ tasks) = ap (λ (list : List Value). f task ∷ list) (all_there f tasks)
