-- What the steps of the code rest on.
use Rattle.std.proofs.Common.{◌≡◌, ℕ, ◌+◌, ◌<◌, ◌≤◌, All, Bool, true, false, not, cond, List, [], ◌∷◌, ◌++◌, length, get_or, filter, map, drop, set, subst, sym, ◌∙◌, ap, arith, Option, None, Some}
use Rattle.std.proofs.lemmas.List.{length-append, length-map, length_push, nil_from_length, length-drop, drop-drop, drop_all, get_or-drop, get_or_append_left}
use Rattle.std.proofs.Math.Seq.{get_or-append_seam}
use Rattle.std.proofs.lemmas.List.Elements.{All-nil, All-set}
use Rattle.std.proofs.lemmas.Bool.{and_from, and_parts, eq-eqb, eqb-true, ne_eqb}
use Rattle.std.specs.Prelude.{is_none, ◌&&◌}
use Rattle.std.specs.List.{list_all, range_with_len}
use Rattle.dml_order.specs.Order.{run_all}
use Rattle.dml_order.proofs.OrderLemmas.{filter_range_same}
use Rattle.dml_types.specs.Memory.{Memory}
use Rattle.dml_core.specs.Types.{Job, Settings, Fetched, Task, Fetch, Commit}
use Rattle.dml_core.specs.Plan.{no_entry, jobs_of, is_open, open_places, plan_of, tasks_of}
use Rattle.dml_core.specs.World.{Kept, World, Progress, after, carry_out, new_entry, is_empty, next_job, progress, wave_at}
use Rattle.dml_core.proofs.FoldLemmas.{jobs_stay}
use Rattle.dml_core.proofs.LoopLemmas.{kept_more}

abbrev pub world : Settings → Memory → List (List Job) → List Fetched → List (List ℕ) → List Task → List (Option Task) → List Kept → World
world settings image sent fetched waves to_do hands finished =
    record { settings = settings; image = image; sent = sent; fetched = fetched; waves = waves; to_do = to_do; hands = hands; finished = finished }

pub one_more : {X : Type 0} (xs : List X) (b : Bool) (x : X) → length (xs ++ cond b (x ∷ []) []) ≡ length xs + cond b 1 0
one_more xs true x = length_push xs x
one_more xs false x = let cut = length-append xs [] in omega (arith, cut)

at_most_one : (b : Bool) → cond b 1 0 ≤ 1
at_most_one true = omega arith
at_most_one false = omega arith

-- one entry more opens one place at most
pub opened_more : (fetched : List Fetched) (entry : Fetched) → length (open_places (fetched ++ entry ∷ [])) ≤ length (open_places fetched) + 1
opened_more fetched entry =
    let list = fetched ++ entry ∷ [] in
    let size = length_push fetched entry in
    let more = ap (λ n. length (filter (is_open list) (range_with_len 0 n))) size ∙ (ap length (kept_more (is_open list) (length fetched)) ∙ one_more (filter (is_open list) (range_with_len 0 (length fetched))) (is_open list (length fetched)) (length fetched)) in
    let same = ap length (filter_range_same (is_open list) (is_open fetched) 0 (length fetched) (λ i low below. ap (λ (e : Fetched). is_none e.answer) (get_or_append_left fetched (entry ∷ []) no_entry i (let e : i < length fetched = omega arith in e)))) in
    let one = at_most_one (is_open list (length fetched)) in
    omega (arith, more, same, one)

pub few_open : (fetched : List Fetched) (entry : Fetched) → length (open_places fetched) < 1024 → length (open_places (fetched ++ entry ∷ [])) ≤ 1024
few_open fetched entry few = let more = opened_more fetched entry in omega (arith, few, more)

-- an open one opens one
pub open_more : (fetched : List Fetched) (entry : Fetched) → entry.answer ≡ None → length (open_places (fetched ++ entry ∷ [])) ≡ length (open_places fetched) + 1
open_more fetched entry unanswered =
    let list = fetched ++ entry ∷ [] in
    let size = length_push fetched entry in
    let more = ap (λ n. length (filter (is_open list) (range_with_len 0 n))) size ∙ (ap length (kept_more (is_open list) (length fetched)) ∙ one_more (filter (is_open list) (range_with_len 0 (length fetched))) (is_open list (length fetched)) (length fetched)) in
    let same = ap length (filter_range_same (is_open list) (is_open fetched) 0 (length fetched) (λ i low below. ap (λ (e : Fetched). is_none e.answer) (get_or_append_left fetched (entry ∷ []) no_entry i (let e : i < length fetched = omega arith in e)))) in
    let own : is_open list (length fetched) ≡ true =
    ap (λ (e : Fetched). is_none e.answer) (get_or-append_seam fetched entry [] no_entry) ∙ ap is_none unanswered in
    more ∙ (ap (λ b. length (filter (is_open list) (range_with_len 0 (length fetched))) + cond b 1 0) own ∙ ap (λ n. n + 1) same)

-- in an idle world no task is finished
pub none_finished : (hands : List (Option Task)) (keep : Task → Kept) (finished : List Task) → (list_all is_none hands && is_empty (map keep finished)) ≡ true → finished ≡ []
none_finished hands keep finished idle =
    let empty = and_parts (list_all is_none hands) (is_empty (map keep finished)) idle in
    nil_from_length finished (sym (length-map finished keep) ∙ eqb-true (length (map keep finished)) 0 empty.1)

-- the tasks of the next wave are the same before a commit and behind it
pub next_tasks : (fetched : List Fetched) (before after : Progress) (staging chunk : ℕ) (places wave : List ℕ) → after ≡ run_all (carry_out staging) before places → before.fetched ≡ fetched → tasks_of (jobs_of after.fetched) staging chunk wave ≡ tasks_of (jobs_of fetched) staging chunk wave
next_tasks fetched before after staging chunk places wave done same =
    ap (λ (jobs : List Job). tasks_of jobs staging chunk wave)
    (ap (λ (now : Progress). jobs_of now.fetched) done ∙ (jobs_stay staging places before ∙ ap jobs_of same))

pub waves_left : (waves : List (List ℕ)) (committed : ℕ) → drop 1 (drop committed waves) ≡ drop (committed + 1) waves
waves_left waves committed = drop-drop 1 committed waves

-- a wave that is forgotten has no place outside
pub forgotten_inside : (waves : List (List ℕ)) (i n m : ℕ) (wave : List ℕ) → wave ≡ [] → m ≡ n → All (All (λ k. k < n)) waves → All (All (λ k. k < m)) (set waves i wave)
forgotten_inside waves i n m wave none same inside =
    subst (λ (size : ℕ). All (All (λ k. k < size)) (set waves i wave)) (sym same)
    (All-set (All (λ k. k < n)) waves i wave (subst (All (λ k. k < n)) (sym none) (All-nil (λ k. k < n))) inside)

-- the world that a commit leaves, by the fields of the code
pub commit_view : (settings : Settings) (image : Memory) (sent : List (List Job)) (fetched : List Fetched) (waves : List (List ℕ)) (committed : ℕ) (to_do : List Task) (hands : List (Option Task)) (finished : List Kept) (new_image : Memory) (new_fetched : List Fetched) (tasks : List Task) (wave : List ℕ) → progress new_image new_fetched ≡ run_all (carry_out settings.staging) (progress image fetched) wave → wave ≡ get_or waves committed [] → tasks ≡ tasks_of (jobs_of fetched) settings.staging settings.chunk (get_or waves (committed + 1) []) → world settings new_image sent new_fetched (drop (committed + 1) waves) tasks hands [] ≡ after (world settings image sent fetched (drop committed waves) to_do hands finished) Commit
commit_view settings image sent fetched waves committed to_do hands finished new_image new_fetched tasks wave done own next =
    let old = world settings image sent fetched (drop committed waves) to_do hands finished in
    let first : wave ≡ wave_at old 0 = own ∙ sym (get_or-drop committed waves 0 [] ∙ ap (λ k. get_or waves k []) (let e : committed + 0 ≡ committed = omega arith in e)) in
    let run = run_all (carry_out settings.staging) (progress image fetched) (wave_at old 0) in
    let made : progress new_image new_fetched ≡ run = done ∙ ap (run_all (carry_out settings.staging) (progress image fetched)) first in
    let left : drop (committed + 1) waves ≡ drop 1 (drop committed waves) = sym (drop-drop 1 committed waves) in
    let behind : get_or waves (committed + 1) [] ≡ get_or (drop 1 (drop committed waves)) 0 [] =
    sym (ap (λ (l : List (List ℕ)). get_or l 0 []) (sym left) ∙ (get_or-drop (committed + 1) waves 0 [] ∙ ap (λ k. get_or waves k []) (let e : committed + 1 + 0 ≡ committed + 1 = omega arith in e))) in
    let set : tasks ≡ tasks_of (jobs_of run.fetched) settings.staging settings.chunk (get_or (drop 1 (drop committed waves)) 0 []) =
    next
    ∙ (ap (tasks_of (jobs_of fetched) settings.staging settings.chunk) behind
    ∙ ap (λ (jobs : List Job). tasks_of jobs settings.staging settings.chunk (get_or (drop 1 (drop committed waves)) 0 [])) (sym (jobs_stay settings.staging (wave_at old 0) (progress image fetched)))) in
    ap (λ (p : Progress). world settings p.image sent p.fetched (drop (committed + 1) waves) tasks hands []) made
    ∙ (ap (λ (l : List (List ℕ)). world settings run.image sent run.fetched l tasks hands []) left
    ∙ ap (λ (l : List Task). world settings run.image sent run.fetched (drop 1 (drop committed waves)) l hands []) set)

some_left : {X : Type 0} (xs : List X) (n : ℕ) → n < length xs → is_empty (drop n xs) ≡ false
some_left xs n below = let size = length-drop n xs in ne_eqb (length (drop n xs)) 0 (λ e. omega (arith, size, below, e))

none_left : {X : Type 0} (xs : List X) (n : ℕ) → length xs ≤ n → is_empty (drop n xs) ≡ true
none_left xs n past = eq-eqb (length (drop n xs)) 0 (ap length (drop_all n xs past))

pub commit_allowed : (waves : List (List ℕ)) (committed : ℕ) (tasks : List Task) (taken : ℕ) (hands : List (Option Task)) → committed < length waves → length tasks ≤ taken → list_all is_none hands ≡ true → (not (is_empty (drop committed waves)) && is_empty (drop taken tasks) && list_all is_none hands) ≡ true
commit_allowed waves committed tasks taken hands some none free =
    and_from _ _ (and_from _ _ (ap not (some_left waves committed some)) (none_left tasks taken none)) free

-- the world that a fetch leaves
pub fetch_view : (settings : Settings) (image : Memory) (sent : List (List Job)) (fetched : List Fetched) (waves : List (List ℕ)) (to_do : List Task) (hands : List (Option Task)) (finished new_finished : List Kept) (client : ℕ) (job : Job) (plan : List (List ℕ)) (tasks : List Task) → next_job (world settings image sent fetched waves to_do hands finished) client ≡ Some job → new_finished ≡ finished → plan ≡ plan_of (fetched ++ record { client = client; job = job; answer = None } ∷ []) settings.staging settings.chunk → tasks ≡ tasks_of (jobs_of (fetched ++ record { client = client; job = job; answer = None } ∷ [])) settings.staging settings.chunk (get_or plan 0 []) → world settings image sent (fetched ++ record { client = client; job = job; answer = None } ∷ []) plan tasks hands new_finished ≡ after (world settings image sent fetched waves to_do hands finished) (Fetch client)
fetch_view settings image sent fetched waves to_do hands finished new_finished client job plan tasks next same planned set =
    let old = world settings image sent fetched waves to_do hands finished in
    let list : Option Job → List Fetched = λ n. fetched ++ new_entry client n ∷ [] in
    ap (λ (kept : List Kept). world settings image sent (list (Some job)) plan tasks hands kept) same
    ∙ (ap (λ (l : List Task). world settings image sent (list (Some job)) plan l hands finished) set
    ∙ (ap (λ (p : List (List ℕ)). world settings image sent (list (Some job)) p (tasks_of (jobs_of (list (Some job))) settings.staging settings.chunk (get_or p 0 [])) hands finished) planned
    ∙ ap (λ (n : Option Job). world settings image sent (list n) (plan_of (list n) settings.staging settings.chunk) (tasks_of (jobs_of (list n)) settings.staging settings.chunk (get_or (plan_of (list n) settings.staging settings.chunk) 0 [])) hands finished) (sym next)))
