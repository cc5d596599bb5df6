-- The steps of rounds are allowed one after another.
use Rattle.std.proofs.Common.{◌≡◌, ℕ, ◌+◌, ◌-◌, ◌<◌, ◌≤◌, zero, suc, Bool, true, false, not, cond, List, [], ◌∷◌, ◌++◌, length, get_or, set, map, filter, drop, refl, sym, ◌∙◌, ap, subst, arith, ⊎_elim, Option, None, Some, All}
use Rattle.std.proofs.lemmas.Bool.{cases_eq, and_from, and_parts, eq-eqb, ne_eqb, lt-ltb, false≢true}
use Rattle.std.proofs.lemmas.List.{append_assoc, append-nil, length-map, length-append, length-replicate, map-append, length-set, length_push, set-set, set-get_or, get_or-set_same, get_or-set_other, get_or_append_left, get_or-append-add}
use Rattle.std.proofs.lemmas.List.Elements.{filter-append, All-cons, All-head, All-nil, All-tail}
use Rattle.std.specs.Prelude.{nat_eq, nat_lt, ◌&&◌, is_some, is_none, slice_get, unwrap_or}
use Rattle.std.specs.List.{list_all, range_with_len}
use Rattle.dml_types.specs.Memory.{Memory}
use Rattle.dml_types.specs.Step.{memory_after, records_of}
use Rattle.dml_order.specs.Order.{is_in, all_below}
use Rattle.dml_order.specs.Waves.{joined}
use Rattle.dml_order.proofs.OrderLemmas.{left_after, range_split, filter_range_same}
use Rattle.dml_order.proofs.KeepsLemmas.{left_after_is}
use Rattle.dml_core.specs.Types.{Job, Settings, Record, Fetched, Task, Step, Submit, Fetch, Take, Finish, Commit}
use Rattle.dml_core.specs.Plan.{no_entry, entry_at, jobs_of, is_open, open_places, planned, plan_of, tasks_of}
use Rattle.dml_core.specs.World.{World, new_world, sent_by, part_of, next_job, no_hand, is_empty, is_allowed, world_progress, wave_at, wave_tasks, new_entry, after, Reaches}
use Rattle.dml_core.specs.Laws.{committed}
use Rattle.dml_core.specs.Rounds.{Sent, sent_jobs, fetch_steps, work_steps, wave_steps, round_steps, rounds_steps, all_sent, answered, IsRound, HasRun, RoundHasRun, RoundsHaveRuns}
use Rattle.dml_core.proofs.FoldLemmas.{blank, blanks_stay, jobs_stay}
use Rattle.dml_core.proofs.OrderedLemmas.{committed_is, ordered_image, ordered_answers, jobs_of_blank}
use Rattle.dml_core.proofs.KeepsLemmas.{Stands, stands_run, stands_at_first, same_part, none_held_first, same_all_over}
use Rattle.dml_core.proofs.ReplayLemmas.{reaches_first, reaches_append}
use Rattle.dml_core.proofs.StepFacts.{opened_more}

stands_reaches : (start : Memory) (w : World) (steps : List Step) (end : World) → Stands start w → Reaches w steps end → Stands start end
stands_reaches start w steps end stands reaches =
    subst (Stands start) (ap (λ (pair : World × Option ℕ). pair.0) reaches) (stands_run start w steps stands)

-- The work of a wave.
pub record SameButWork (w v : World) : Type 0 where
  pub settings : v.settings ≡ w.settings
  pub image : v.image ≡ w.image
  pub sent : v.sent ≡ w.sent
  pub fetched : v.fetched ≡ w.fetched
  pub waves : v.waves ≡ w.waves
  pub hands : v.hands ≡ w.hands

pub record WorksTo (w : World) (steps : List Step) : Type 0 where
  pub end : World
  pub reaches : Reaches w steps end
  pub same : SameButWork w end
  pub to_do : end.to_do ≡ []

is_free : (hands : List (Option Task)) (worker : ℕ) → list_all is_none hands ≡ true → is_none (get_or hands worker None) ≡ true
is_free [] worker free = refl
is_free (hand ∷ hands) zero free = (and_parts (is_none hand) _ free).0
is_free (hand ∷ hands) (suc worker) free = is_free hands worker (and_parts (is_none hand) _ free).1

emptied : (hands : List (Option Task)) (hand : Option Task) → list_all is_none hands ≡ true → set (set hands 0 hand) 0 None ≡ hands
emptied hands hand free =
    set-set hands 0 hand None
    ∙ (ap (λ (h : Option Task). set hands 0 h) (sym (none_there (get_or hands 0 None) (is_free hands 0 free))) ∙ set-get_or hands 0 None)
  where
    none_there : (hand : Option Task) → is_none hand ≡ true → hand ≡ None
    none_there None none = refl
    none_there (Some task) none = absurd (false≢true none)

not_empty : {X : Type 0} (x : X) (xs : List X) → not (is_empty (x ∷ xs)) ≡ true
not_empty x xs = ap not (ne_eqb (suc (length xs)) 0 (λ e. omega (arith, e)))

works : (tasks : List Task) (w : World) → w.to_do ≡ tasks → no_hand w ≡ true → 0 < length w.hands → WorksTo w (work_steps tasks)
works [] w here free some = record { end = w; reaches = refl; same = record { settings = refl; image = refl; sent = refl; fetched = refl; waves = refl; hands = refl }; to_do = here }
works (task ∷ tasks) w here free some =
    let taken = after w (Take 0) in
    let next = after taken (Finish 0) in
    let full : is_allowed w (Take 0) ≡ true =
    and_from _ _ (and_from _ _ (lt-ltb 0 (length w.hands) some) (is_free w.hands 0 free)) (ap (λ (list : List Task). not (is_empty list)) here ∙ not_empty task tasks) in
    let mine : get_or taken.hands 0 None ≡ Some task =
    get_or-set_same w.hands 0 (slice_get w.to_do 0) None some ∙ ap (λ (list : List Task). slice_get list 0) here in
    let hands : next.hands ≡ w.hands = emptied w.hands (slice_get w.to_do 0) free in
    let rest = works tasks next (ap (drop 1) here) (ap (list_all is_none) hands ∙ free) (subst (λ (list : List (Option Task)). 0 < length list) (sym hands) some) in
    record {
      end = rest.end;
      reaches = reaches_first w (Take 0) (Finish 0 ∷ work_steps tasks) rest.end full (reaches_first taken (Finish 0) (work_steps tasks) rest.end (ap is_some mine) rest.reaches);
      same = record {
        settings = rest.same.settings;
        image = rest.same.image;
        sent = rest.same.sent;
        fetched = rest.same.fetched;
        waves = rest.same.waves;
        hands = rest.same.hands ∙ hands;
      };
      to_do = rest.to_do;
    }

-- The waves of a plan.
pub record SameButAnswers (w v : World) : Type 0 where
  pub settings : v.settings ≡ w.settings
  pub sent : v.sent ≡ w.sent
  pub fetched : map blank v.fetched ≡ map blank w.fetched
  pub hands : v.hands ≡ w.hands

pub record IsDone (w : World) : Type 0 where
  pub waves : w.waves ≡ []
  pub to_do : w.to_do ≡ []
  pub finished : w.finished ≡ []

pub record CommitsAll (w : World) (steps : List Step) : Type 0 where
  pub end : World
  pub reaches : Reaches w steps end
  pub same : SameButAnswers w end
  pub done : IsDone end

commits : (waves : List (List ℕ)) (jobs : List Job) (staging chunk : ℕ) (w : World) → w.waves ≡ waves → jobs_of w.fetched ≡ jobs → w.settings.staging ≡ staging → w.settings.chunk ≡ chunk → w.to_do ≡ wave_tasks w → w.finished ≡ [] → no_hand w ≡ true → 0 < length w.hands → CommitsAll w (wave_steps jobs staging chunk waves)
commits [] jobs staging chunk w cut known stages chunks ready none free some = record {
  end = w;
  reaches = refl;
  same = record { settings = refl; sent = refl; fetched = refl; hands = refl };
  done = record { waves = cut; to_do = ready ∙ ap (λ (list : List (List ℕ)). tasks_of (jobs_of w.fetched) w.settings.staging w.settings.chunk (get_or list 0 [])) cut; finished = none };
}
commits (wave ∷ waves) jobs staging chunk w cut known stages chunks ready none free some =
    let tasks = tasks_of jobs staging chunk wave in
    let first : w.to_do ≡ tasks =
    ready
    ∙ (ap (λ (list : List (List ℕ)). tasks_of (jobs_of w.fetched) w.settings.staging w.settings.chunk (get_or list 0 [])) cut
    ∙ (ap (λ (list : List Job). tasks_of list w.settings.staging w.settings.chunk wave) known
    ∙ (ap (λ n. tasks_of jobs n w.settings.chunk wave) stages ∙ ap (λ n. tasks_of jobs staging n wave) chunks))) in
    let work = works tasks w first free some in
    let v = work.end in
    let here = work.same in
    let allowed : is_allowed v Commit ≡ true =
    and_from _ _ (and_from _ _ (ap (λ (list : List (List ℕ)). not (is_empty list)) (here.waves ∙ cut) ∙ not_empty wave waves) (ap is_empty work.to_do)) (ap (list_all is_none) here.hands ∙ free) in
    let next = after v Commit in
    let rest = commits waves jobs staging chunk next (ap (drop 1) (here.waves ∙ cut))
    (jobs_stay v.settings.staging (wave_at v 0) (world_progress v) ∙ (ap jobs_of here.fetched ∙ known))
    (ap (λ (s : Settings). s.staging) here.settings ∙ stages) (ap (λ (s : Settings). s.chunk) here.settings ∙ chunks) refl refl
    (ap (list_all is_none) here.hands ∙ free) (subst (λ (list : List (Option Task)). 0 < length list) (sym here.hands) some) in
    record {
      end = rest.end;
      reaches = reaches_append (work_steps tasks) (Commit ∷ wave_steps jobs staging chunk waves) w v rest.end work.reaches
          (reaches_first v Commit (wave_steps jobs staging chunk waves) rest.end allowed rest.reaches);
      same = record {
        settings = rest.same.settings ∙ here.settings;
        sent = rest.same.sent ∙ here.sent;
        fetched = rest.same.fetched ∙ (blanks_stay v.settings.staging (wave_at v 0) (world_progress v) ∙ ap (map blank) here.fetched);
        hands = rest.same.hands ∙ here.hands;
      };
      done = rest.done;
    }

-- The fetches of a round.
abbrev pub entry_of : Sent → Fetched
entry_of sent = record { client = sent.client; job = sent.job; answer = None }

abbrev pub entries_of : List Sent → List Fetched
entries_of list = map entry_of list

-- nothing that was sent waits to be fetched
abbrev pub CaughtUp : World → Type 0
CaughtUp w = (client : ℕ) → length (part_of client w.fetched) ≡ length (sent_by w client)

-- what is planned is what is open, and nothing of it is begun
pub record IsReady (w : World) : Type 0 where
  pub waves : w.waves ≡ plan_of w.fetched w.settings.staging w.settings.chunk
  pub to_do : w.to_do ≡ wave_tasks w
  pub finished : w.finished ≡ []
  pub free : no_hand w ≡ true
  pub caught : CaughtUp w

pub record Fetches (w : World) (list : List Sent) : Type 0 where
  pub end : World
  pub reaches : Reaches w (fetch_steps list) end
  pub settings : end.settings ≡ w.settings
  pub fetched : end.fetched ≡ w.fetched ++ entries_of list
  pub hands : end.hands ≡ w.hands
  pub clients : length end.sent ≡ length w.sent
  pub ready : IsReady end

get_behind : (xs : List Job) (job : Job) (n : ℕ) → n ≡ length xs → slice_get (xs ++ job ∷ []) n ≡ Some job
get_behind xs job n is = ap (slice_get (xs ++ job ∷ [])) is ∙ last xs job
  where
    last : (xs : List Job) (job : Job) → slice_get (xs ++ job ∷ []) (length xs) ≡ Some job
    last [] job = refl
    last (x ∷ xs) job = last xs job

part_length : (client : ℕ) (fetched : List Fetched) (entry : Fetched) → length (part_of client (fetched ++ entry ∷ [])) ≡ length (part_of client fetched) + cond (nat_eq entry.client client) 1 0
part_length client fetched entry =
    ap length (filter-append (λ (e : Fetched). nat_eq e.client client) fetched (entry ∷ []))
    ∙ (length-append (part_of client fetched) (part_of client (entry ∷ [])) ∙ ap (λ n. length (part_of client fetched) + n) (one (nat_eq entry.client client)))
  where
    one : (b : Bool) → length (cond b (entry ∷ []) []) ≡ cond b 1 0
    one true = refl
    one false = refl

one_fetched : (w : World) (sent : Sent) → sent.client < length w.sent → length (open_places w.fetched) < 1024 → IsReady w → Fetches w (sent ∷ [])
one_fetched w sent known few ready =
    let c = sent.client in
    let mine = sent_by w c ++ sent.job ∷ [] in
    let one = after w (Submit c sent.job) in
    let two = after one (Fetch c) in
    let own : sent_by one c ≡ mine = get_or-set_same w.sent c mine [] known in
    let next : next_job one c ≡ Some sent.job =
    ap (λ (list : List Job). slice_get list (length (part_of c w.fetched))) own ∙ get_behind (sent_by w c) sent.job (length (part_of c w.fetched)) (ready.caught c) in
    let allowed : is_allowed one (Fetch c) ≡ true =
    and_from _ _ (and_from _ _ (and_from _ _ (ap is_some next) ready.free) (ap is_empty ready.finished)) (lt-ltb (length (open_places w.fetched)) 1024 few) in
    let same : two.fetched ≡ w.fetched ++ entry_of sent ∷ [] = ap (λ (n : Option Job). w.fetched ++ new_entry c n ∷ []) next in
    record {
      end = two;
      reaches = reaches_first w (Submit c sent.job) (Fetch c ∷ []) two (lt-ltb c (length w.sent) known) (reaches_first one (Fetch c) [] two allowed refl);
      settings = refl;
      fetched = same;
      hands = refl;
      clients = length-set w.sent c mine;
      ready = record {
        waves = refl;
        to_do = refl;
        finished = ready.finished;
        free = ready.free;
        caught = λ client.
            let more = part_length client w.fetched (new_entry c (next_job one c)) in
            let old = ready.caught client in
            ⊎_elim (λ is.
            let size : length (sent_by one client) ≡ length (sent_by w client) + 1 =
            ap length (ap (λ k. get_or (set w.sent c mine) k []) (sym is) ∙ own) ∙ (length_push (sent_by w c) sent.job ∙ ap (λ k. length (sent_by w k) + 1) is) in
            let plus = more ∙ ap (λ b. length (part_of client w.fetched) + cond b 1 0) (eq-eqb c client is) in
            omega (arith, size, plus, old))
            (λ other.
            let size : length (sent_by one client) ≡ length (sent_by w client) = ap length (get_or-set_other w.sent c client mine [] (λ e. other (sym e))) in
            let plus = more ∙ ap (λ b. length (part_of client w.fetched) + cond b 1 0) (ne_eqb c client other) in
            omega (arith, size, plus, old))
            (cases_eq c client);
      };
    }

fetches : (list : List Sent) (w : World) → All (λ sent. sent.client < length w.sent) list → length (open_places w.fetched) + length list ≤ 1024 → IsReady w → Fetches w list
fetches [] w known few ready = record { end = w; reaches = refl; settings = refl; fetched = sym (append-nil w.fetched); hands = refl; clients = refl; ready = ready }
fetches (sent ∷ list) w known few ready =
    let head : sent.client < length w.sent = All-head (λ (s : Sent). s.client < length w.sent) sent list known in
    let one = one_fetched w sent head (let e : length (open_places w.fetched) < 1024 = omega arith in e) ready in
    let v = one.end in
    let tail = subst (λ n. All (λ (s : Sent). s.client < n) list) (sym one.clients) (All-tail (λ (s : Sent). s.client < length w.sent) sent list known) in
    let count : length (open_places v.fetched) + length list ≤ 1024 =
    (let less = opened_more w.fetched (entry_of sent) in let same = ap (λ (f : List Fetched). length (open_places f)) one.fetched in omega (arith, less, same, few)) in
    let rest = fetches list v tail count one.ready in
    record {
      end = rest.end;
      reaches = reaches_append (Submit sent.client sent.job ∷ Fetch sent.client ∷ []) (fetch_steps list) w v rest.end one.reaches rest.reaches;
      settings = rest.settings ∙ one.settings;
      fetched = rest.fetched ∙ (ap (λ (f : List Fetched). f ++ entries_of list) one.fetched ∙ append_assoc w.fetched (entry_of sent ∷ []) (entries_of list));
      hands = rest.hands ∙ one.hands;
      clients = rest.clients ∙ one.clients;
      ready = rest.ready;
    }

-- Between rounds.
pub record IsQuiet (start : Memory) (settings : Settings) (clients : ℕ) (earlier : List Sent) (w : World) : Type 0 where
  pub stands : Stands start w
  pub settled : w.settings ≡ settings
  pub fetched : map blank w.fetched ≡ entries_of earlier
  pub done : IsDone w
  pub free : no_hand w ≡ true
  pub some : 0 < length w.hands
  pub known : length w.sent ≡ clients
  pub caught : CaughtUp w

abbrev AllAnswered : List Fetched → Type 0
AllAnswered fetched = (i : ℕ) → i < length fetched → is_some (entry_at fetched i).answer ≡ true

stays_in : (a b : Bool) → a ≡ true → (a && not b) ≡ false → b ≡ true
stays_in true true here gone = refl
stays_in true false here gone = absurd (false≢true (sym gone))
stays_in false b here gone = absurd (false≢true here)

all_answered : (start : Memory) (w : World) → Stands start w → w.waves ≡ [] → AllAnswered w.fetched
all_answered start w stands none i below =
    let o = stands.order in
    let n = length w.fetched in
    let order : o.done ++ joined w.waves ≡ o.done = ap (λ (list : List (List ℕ)). o.done ++ joined list) none ∙ append-nil o.done in
    let gone : left_after (all_below n) o.done i ≡ false = ap (λ (list : List ℕ). left_after (all_below n) list i) (sym order) ∙ o.planned.whole i in
    committed_is w.settings.staging start w.image w.fetched w.waves o i below
    ∙ stays_in (nat_lt i n) (is_in i o.done) (lt-ltb i n below) (sym (left_after_is o.done (all_below n) i) ∙ gone)

some_not_none : (answer : Option Record) → is_some answer ≡ true → is_none answer ≡ false
some_not_none None some = absurd (false≢true some)
some_not_none (Some r) some = refl

nothing_kept : (xs : List ℕ) → filter (λ _. false) xs ≡ []
nothing_kept [] = refl
nothing_kept (x ∷ xs) = nothing_kept xs

all_kept : (xs : List ℕ) → filter (λ _. true) xs ≡ xs
all_kept [] = refl
all_kept (x ∷ xs) = ap (λ (list : List ℕ). x ∷ list) (all_kept xs)

none_open : (fetched : List Fetched) → AllAnswered fetched → open_places fetched ≡ []
none_open fetched all =
    filter_range_same (is_open fetched) (λ _. false) 0 (length fetched)
    (λ i low below. some_not_none (entry_at fetched i).answer (all i (let e : i < length fetched = omega arith in e)))
    ∙ nothing_kept (range_with_len 0 (length fetched))

fresh_open : (list : List Sent) (k : ℕ) → is_open (entries_of list) k ≡ true
fresh_open [] k = refl
fresh_open (sent ∷ list) zero = refl
fresh_open (sent ∷ list) (suc k) = fresh_open list k

open_behind : (fetched : List Fetched) (list : List Sent) → AllAnswered fetched → open_places (fetched ++ entries_of list) ≡ range_with_len (length fetched) (length list)
open_behind fetched list all =
    let whole = fetched ++ entries_of list in
    let n = length fetched in
    let m = length list in
    let size : length whole ≡ n + m = length-append fetched (entries_of list) ∙ ap (λ k. n + k) (length-map list entry_of) in
    ap (λ k. filter (is_open whole) (range_with_len 0 k)) size
    ∙ (ap (filter (is_open whole)) (range_split 0 n m ∙ ap (λ f. range_with_len 0 n ++ range_with_len f m) (let e : 0 + n ≡ n = omega arith in e))
    ∙ (filter-append (is_open whole) (range_with_len 0 n) (range_with_len n m)
    ∙ (ap (λ (front : List ℕ). front ++ filter (is_open whole) (range_with_len n m))
    (filter_range_same (is_open whole) (λ _. false) 0 n
    (λ i low below.
    let inside : i < n = omega arith in
    ap (λ (e : Fetched). is_none e.answer) (get_or_append_left fetched (entries_of list) no_entry i inside) ∙ some_not_none (entry_at fetched i).answer (all i inside))
    ∙ nothing_kept (range_with_len 0 n))
    ∙ (filter_range_same (is_open whole) (λ _. true) n m
    (λ i low below.
    let at : i ≡ n + (i - n) = omega arith in
    ap (is_open whole) at ∙ (ap (λ (e : Fetched). is_none e.answer) (get_or-append-add fetched (entries_of list) (i - n) no_entry) ∙ fresh_open list (i - n)))
    ∙ all_kept (range_with_len n m)))))

blank_jobs : (fetched : List Fetched) (list : List Sent) → map blank fetched ≡ entries_of list → jobs_of fetched ≡ sent_jobs list
blank_jobs fetched list same = sym (jobs_of_blank fetched) ∙ (ap jobs_of same ∙ own list)
  where
    own : (list : List Sent) → jobs_of (entries_of list) ≡ sent_jobs list
    own [] = refl
    own (sent ∷ list) = ap (λ (jobs : List Job). sent.job ∷ jobs) (own list)

blank_entries : (list : List Sent) → map blank (entries_of list) ≡ entries_of list
blank_entries [] = refl
blank_entries (sent ∷ list) = ap (λ (rest : List Fetched). entry_of sent ∷ rest) (blank_entries list)

quiet_ready : (start : Memory) (settings : Settings) (clients : ℕ) (earlier : List Sent) (w : World) → IsQuiet start settings clients earlier w → IsReady w
quiet_ready start settings clients earlier w q = record {
  waves = q.done.waves ∙ sym (ap (planned (jobs_of w.fetched) w.settings.staging w.settings.chunk) (none_open w.fetched (all_answered start w q.stands q.done.waves)));
  to_do = q.done.to_do ∙ sym (ap (λ (list : List (List ℕ)). tasks_of (jobs_of w.fetched) w.settings.staging w.settings.chunk (get_or list 0 [])) q.done.waves);
  finished = q.done.finished;
  free = q.free;
  caught = q.caught;
}

pub record RunsTo (start : Memory) (settings : Settings) (clients : ℕ) (w : World) (steps : List Step) (all : List Sent) : Type 0 where
  pub end : World
  pub reaches : Reaches w steps end
  pub quiet : IsQuiet start settings clients all end

same_parts : (client : ℕ) (one other : List Fetched) → map blank one ≡ map blank other → length (part_of client one) ≡ length (part_of client other)
same_parts client one other same =
    let jobs = ap length (same_part client one other same) in
    let a = length-map (part_of client one) (λ (e : Fetched). e.job) in
    let b = length-map (part_of client other) (λ (e : Fetched). e.job) in
    omega (arith, jobs, a, b)

round_runs : (start : Memory) (settings : Settings) (clients : ℕ) (earlier list : List Sent) (w : World) → IsRound clients list → IsQuiet start settings clients earlier w → RunsTo start settings clients w (round_steps settings (sent_jobs earlier) list) (earlier ++ list)
round_runs start settings clients earlier list w round q =
    let answers = all_answered start w q.stands q.done.waves in
    let known = subst (λ n. All (λ (s : Sent). s.client < n) list) (sym q.known) round.known in
    let none = ap length (none_open w.fetched answers) in
    let few = round.few in
    let f = fetches list w known (let e : length (open_places w.fetched) + length list ≤ 1024 = omega (arith, none, few) in e) (quiet_ready start settings clients earlier w q) in
    let v = f.end in
    let set : v.settings ≡ settings = f.settings ∙ q.settled in
    let staging = settings.staging in
    let chunk = settings.chunk in
    let jobs = sent_jobs earlier ++ sent_jobs list in
    let blanks : map blank v.fetched ≡ entries_of (earlier ++ list) =
    ap (map blank) f.fetched
    ∙ (map-append blank w.fetched (entries_of list)
    ∙ (ap (λ (front : List Fetched). front ++ map blank (entries_of list)) q.fetched
    ∙ (ap (λ (back : List Fetched). entries_of earlier ++ back) (blank_entries list) ∙ sym (map-append entry_of earlier list)))) in
    let own : jobs_of v.fetched ≡ jobs = blank_jobs v.fetched (earlier ++ list) blanks ∙ map-append (λ (s : Sent). s.job) earlier list in
    let count : length w.fetched ≡ length (sent_jobs earlier) =
    (let a = ap length q.fetched in let b = length-map w.fetched blank in let c = length-map earlier entry_of in let d = length-map earlier (λ (s : Sent). s.job) in omega (arith, a, b, c, d)) in
    let places : open_places v.fetched ≡ range_with_len (length (sent_jobs earlier)) (length list) =
    ap open_places f.fetched ∙ (open_behind w.fetched list answers ∙ ap (λ n. range_with_len n (length list)) count) in
    let plan = planned jobs staging chunk (range_with_len (length (sent_jobs earlier)) (length list)) in
    let cut : v.waves ≡ plan =
    f.ready.waves
    ∙ (ap (λ (s : Settings). plan_of v.fetched s.staging s.chunk) set
    ∙ (ap (λ (list : List Job). planned list staging chunk (open_places v.fetched)) own ∙ ap (planned jobs staging chunk) places)) in
    let c = commits plan jobs staging chunk v cut own (ap (λ (s : Settings). s.staging) set) (ap (λ (s : Settings). s.chunk) set) f.ready.to_do f.ready.finished f.ready.free
    (subst (λ (hands : List (Option Task)). 0 < length hands) (sym f.hands) q.some) in
    let e = c.end in
    let all = reaches_append (fetch_steps list) (wave_steps jobs staging chunk plan) w v e f.reaches c.reaches in
    record {
      end = e;
      reaches = all;
      quiet = record {
        stands = stands_reaches start w (round_steps settings (sent_jobs earlier) list) e q.stands all;
        settled = c.same.settings ∙ set;
        fetched = c.same.fetched ∙ blanks;
        done = c.done;
        free = ap (list_all is_none) c.same.hands ∙ f.ready.free;
        some = subst (λ (hands : List (Option Task)). 0 < length hands) (sym (c.same.hands ∙ f.hands)) q.some;
        known = ap length c.same.sent ∙ (f.clients ∙ q.known);
        caught = λ client.
            same_parts client e.fetched v.fetched c.same.fetched
            ∙ (f.ready.caught client ∙ ap (λ (sent : List (List Job)). length (get_or sent client [])) (sym c.same.sent));
      };
    }

rounds_run : (start : Memory) (settings : Settings) (clients : ℕ) (rounds : List (List Sent)) (earlier : List Sent) (w : World) → All (IsRound clients) rounds → IsQuiet start settings clients earlier w → RunsTo start settings clients w (rounds_steps settings (sent_jobs earlier) rounds) (earlier ++ all_sent rounds)
rounds_run start settings clients [] earlier w each q =
    record { end = w; reaches = refl; quiet = subst (λ (list : List Sent). IsQuiet start settings clients list w) (sym (append-nil earlier)) q }
rounds_run start settings clients (list ∷ rounds) earlier w each q =
    let one = round_runs start settings clients earlier list w (All-head (IsRound clients) list rounds each) q in
    let v = one.end in
    let jobs : sent_jobs (earlier ++ list) ≡ sent_jobs earlier ++ sent_jobs list = map-append (λ (s : Sent). s.job) earlier list in
    let rest = rounds_run start settings clients rounds (earlier ++ list) v (All-tail (IsRound clients) list rounds each) one.quiet in
    record {
      end = rest.end;
      reaches = reaches_append (round_steps settings (sent_jobs earlier) list) (rounds_steps settings (sent_jobs earlier ++ sent_jobs list) rounds) w v rest.end one.reaches
          (subst (λ (before : List Job). Reaches v (rounds_steps settings before rounds) rest.end) jobs rest.reaches);
      quiet = subst (λ (all : List Sent). IsQuiet start settings clients all rest.end) (append_assoc earlier list (all_sent rounds)) rest.quiet;
    }

-- At the end.
all_committed : (fetched : List Fetched) → AllAnswered fetched → committed fetched ≡ fetched
all_committed [] all = refl
all_committed (entry ∷ fetched) all =
    ap (λ b. cond b (entry ∷ committed fetched) (committed fetched)) (all 0 (let e : 0 < suc (length fetched) = omega arith in e))
    ∙ ap (λ (list : List Fetched). entry ∷ list) (all_committed fetched (λ i below. all (suc i) (let e : suc i < suc (length fetched) = omega (arith, below) in e)))

answer_of : (answer : Option Record) → is_some answer ≡ true → (r : Record) × (answer ≡ Some r)
answer_of None some = absurd (false≢true some)
answer_of (Some r) some = (r, refl)

first_record : (records : List Record) (r : Record) → slice_get records 0 ≡ Some r → records ≡ r ∷ drop 1 records
first_record [] r is = absurd (false≢true (ap is_some is))
first_record (first ∷ records) r is = ap (λ (a : Option Record). unwrap_or a first ∷ records) is

matches : (fetched : List Fetched) (list : List Sent) (records : List Record) → map blank fetched ≡ entries_of list → AllAnswered fetched → ((i : ℕ) (r : Record) → (entry_at fetched i).answer ≡ Some r → slice_get records i ≡ Some r) → fetched ≡ answered list records
matches [] [] records same all given = refl
matches [] (sent ∷ list) records same all given = absurd (let e = ap length same in omega (arith, e))
matches (entry ∷ fetched) [] records same all given = absurd (let e = ap length same in omega (arith, e))
matches (entry ∷ fetched) (sent ∷ list) records same all given =
    let a = answer_of entry.answer (all 0 (let e : 0 < suc (length fetched) = omega arith in e)) in
    let head : blank entry ≡ entry_of sent = ap (first_at (blank entry)) same in
    let rest : map blank fetched ≡ entries_of list = ap (drop 1) same in
    let cut = first_record records a.0 (given 0 a.0 a.1) in
    let own : entry ≡ record (entry_of sent) { answer = Some a.0 } =
    ap (λ (x : Option Record). record (blank entry) { answer = x }) a.1 ∙ ap (λ (x : Fetched). record x { answer = Some a.0 }) head in
    let more = matches fetched list (drop 1 records) rest (λ i below. all (suc i) (let e : suc i < suc (length fetched) = omega (arith, below) in e))
    (λ i r is. sym (ap (λ (list : List Record). slice_get list (suc i)) cut) ∙ given (suc i) r is) in
    ap (λ (x : Fetched). x ∷ fetched) own
    ∙ (ap (λ (list : List Fetched). record (entry_of sent) { answer = Some a.0 } ∷ list) more
    ∙ sym (ap (answered (sent ∷ list)) cut))
  where
    first_at : Fetched → List Fetched → Fetched
    first_at entry [] = entry
    first_at entry (first ∷ list) = first

pub rounds_have_runs : RoundsHaveRuns
rounds_have_runs settings clients rounds image some whole each =
    let first = new_world image settings clients in
    let quiet : IsQuiet image settings clients [] first = record {
      stands = stands_at_first image settings clients;
      settled = refl;
      fetched = refl;
      done = record { waves = refl; to_do = refl; finished = refl };
      free = none_held_first settings.workers;
      some = (let size = length-replicate settings.workers (no_task) in omega (arith, size, some));
      known = length-replicate clients (no_jobs);
      caught = λ client. sym (ap length (same_all_over clients client no_jobs));
    } in
    let ran = rounds_run image settings clients rounds [] first each quiet in
    let end = ran.end in
    let all = all_sent rounds in
    let q = ran.quiet in
    let o = q.stands.order in
    let answers = all_answered image end q.stands q.done.waves in
    let jobs : jobs_of end.fetched ≡ sent_jobs all = blank_jobs end.fetched all q.fetched in
    let staging : end.settings.staging ≡ settings.staging = ap (λ (s : Settings). s.staging) q.settled in
    record {
      end = end;
      reaches = ran.reaches;
      image =
          ordered_image end.settings.staging image end.image end.fetched end.waves whole o
          ∙ (ap (λ (list : List Fetched). memory_after image (jobs_of list) end.settings.staging) (all_committed end.fetched answers)
          ∙ (ap (λ (list : List Job). memory_after image list end.settings.staging) jobs ∙ ap (memory_after image (sent_jobs all)) staging));
      fetched =
          matches end.fetched all (records_of image (sent_jobs all) settings.staging) q.fetched answers
          (λ i r is.
          sym (ap (λ (list : List Job). slice_get (records_of image list end.settings.staging) i) jobs ∙ ap (λ n. slice_get (records_of image (sent_jobs all) n) i) staging)
          ∙ ordered_answers end.settings.staging image end.image end.fetched end.waves whole o i r is);
    }
  where
    no_task : Option Task
    no_task = None

    no_jobs : List Job
    no_jobs = []

pub round_has_run : RoundHasRun
round_has_run settings clients list image some whole round =
    let all = rounds_have_runs settings clients (list ∷ []) image some whole (All-cons (IsRound clients) list [] round (All-nil (IsRound clients))) in
    let given : List Sent → List Step → Type 0 =
    λ these steps. HasRun settings clients image (memory_after image (sent_jobs these) settings.staging) steps (answered these (records_of image (sent_jobs these) settings.staging)) in
    subst (given list) (append-nil (round_steps settings [] list)) (subst (λ (these : List Sent). given these (round_steps settings [] list ++ [])) (append-nil list) all)
