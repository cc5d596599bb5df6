-- Submits and fetches in a row.
use Rattle.std.proofs.Common.{◌≡◌, ◌⊎◌, ℕ, ◌+◌, ◌-◌, ◌<◌, ◌≤◌, Bool, true, false, not, drop, Option, None, Some, inl, inr, ⊎_elim, List, [], ◌∷◌, ◌++◌, length, get_or, set, take, refl, sym, ◌∙◌, ap, subst, arith}
use Rattle.std.proofs.lemmas.Bool.{and_from, and_parts, cases_lt, false≢true, ltb-true, or_right}
use Rattle.std.proofs.lemmas.List.{get_or-drop, get_or-set_same, get_or-take, length-drop, length-take, length-take-le, length_push, set-set, set-get_or, take-take, take_more, take_rest}
use Rattle.std.proofs.lemmas.Option.{slice_get-get_or, slice_get_past}
use Rattle.std.proofs.Math.Seq.{take-add, take-append_seam}
use Rattle.std.specs.Prelude.{◌&&◌, ◌||◌, IfSome, is_some, nat_lt, slice_get}
use Rattle.dml_types.specs.Job.{no_op_job}
use Rattle.dml_types.specs.Memory.{Memory}
use Rattle.dml_core.specs.Plan.{jobs_of, open_places, plan_of, tasks_of}
use Rattle.dml_core.specs.Types.{Job, Settings, Fetched, Task, Step, Submit, Fetch, Take, Finish, Commit}
use Rattle.dml_core.specs.declared.errors.StepFault.TheVariants.{NotAllowed}
use Rattle.dml_core.specs.Replay.{StopsAt}
use Rattle.dml_core.specs.World.{Kept, World, after, is_allowed, is_empty, no_hand, Reaches}
use Rattle.dml_core.specs.Gather.{Lists, lists, lists_of, is_fetch, is_idle, may_join, next_of, grown, shorter, ungrown, AreGathered, FetchesAt, IsRefused, NoneFetches, gathered, is_of_row}
use Rattle.dml_core.proofs.OpenLemmas.{IsLonger, pushed_longer}
use Rattle.dml_core.proofs.ReplayLemmas.{reaches_append, reaches_first, replay_refused}
use Rattle.dml_core.proofs.StepFacts.{world}

and_turned : (free none next few : Bool) → (free && none) ≡ true → (next && few) ≡ true → (next && free && none && few) ≡ true
and_turned free none next few idle may =
    let left = and_parts free none idle in
    let right = and_parts next few may in
    and_from _ _ (and_from _ _ (and_from _ _ right.0 left.0) left.1) right.1

fetch_allowed : (w : World) (now : Lists) (client : ℕ) → is_idle w ≡ true → may_join now (Fetch client) ≡ true → (is_some (next_of now.sent now.fetched client) && no_hand w && is_empty w.finished && nat_lt (length (open_places now.fetched)) 1024) ≡ true
fetch_allowed w now client idle may =
    and_turned (no_hand w) (is_empty w.finished) (is_some (next_of now.sent now.fetched client)) (nat_lt (length (open_places now.fetched)) 1024) idle may

-- a step that makes the lists longer is allowed, and leaves what they then are
joins_allowed : (w : World) (now : Lists) (fetches : Bool) (s : Step) → is_idle w ≡ true → may_join now s ≡ true → is_allowed (gathered w now fetches) s ≡ true
joins_allowed w now true (Submit client job) idle may = may
joins_allowed w now false (Submit client job) idle may = may
joins_allowed w now true (Fetch client) idle may = fetch_allowed w now client idle may
joins_allowed w now false (Fetch client) idle may = fetch_allowed w now client idle may
joins_allowed w now fetches (Take worker) idle may = cc
joins_allowed w now fetches (Finish worker) idle may = cc
joins_allowed w now fetches Commit idle may = cc

refused_turned : (free none next few : Bool) → (free && none) ≡ true → (next && few) ≡ false → (next && free && none && few) ≡ false
refused_turned true true true few idle denied = denied
refused_turned true true false few idle denied = refl
refused_turned true false next few idle denied = cc
refused_turned false none next few idle denied = cc

fetch_refused : (w : World) (now : Lists) (client : ℕ) → is_idle w ≡ true → may_join now (Fetch client) ≡ false → (is_some (next_of now.sent now.fetched client) && no_hand w && is_empty w.finished && nat_lt (length (open_places now.fetched)) 1024) ≡ false
fetch_refused w now client idle denied =
    refused_turned (no_hand w) (is_empty w.finished) (is_some (next_of now.sent now.fetched client)) (nat_lt (length (open_places now.fetched)) 1024) idle denied

-- a submit or a fetch that does not make them longer is not allowed
joins_refused : (w : World) (now : Lists) (fetches : Bool) (s : Step) → is_idle w ≡ true → is_of_row s ≡ true → may_join now s ≡ false → is_allowed (gathered w now fetches) s ≡ false
joins_refused w now true (Submit client job) idle of denied = denied
joins_refused w now false (Submit client job) idle of denied = denied
joins_refused w now true (Fetch client) idle of denied = fetch_refused w now client idle denied
joins_refused w now false (Fetch client) idle of denied = fetch_refused w now client idle denied
joins_refused w now fetches (Take worker) idle of denied = cc
joins_refused w now fetches (Finish worker) idle of denied = cc
joins_refused w now fetches Commit idle of denied = cc

not_true : (b : Bool) → not b ≡ true → b ≡ false
not_true false denied = refl
not_true true denied = cc

row_stops : (w : World) (now : Lists) (fetches refused : Bool) (s : Step) → is_idle w ≡ true → refused ≡ true → refused ≡ (is_of_row s && not (may_join now s)) → is_allowed (gathered w now fetches) s ≡ false
row_stops w now fetches refused s idle is kept =
    let both = and_parts (is_of_row s) (not (may_join now s)) (sym kept ∙ is) in
    joins_refused w now fetches s idle both.0 (not_true (may_join now s) both.1)

-- of the step behind a row, if there is one
pub row_refused : (w : World) (now : Lists) (fetches refused : Bool) (step : Option Step) → is_idle w ≡ true → refused ≡ true → IfSome step (λ (s : Step). refused ≡ (is_of_row s && not (may_join now s))) → IfSome step (λ (s : Step). is_allowed (gathered w now fetches) s ≡ false)
row_refused w now fetches refused None idle is kept = tt
row_refused w now fetches refused (Some s) idle is kept = row_stops w now fetches refused s idle is kept

joins_after : (w : World) (now : Lists) (fetches : Bool) (s : Step) → may_join now s ≡ true → gathered w (grown now s) (fetches || is_fetch s) ≡ after (gathered w now fetches) s
joins_after w now true (Submit client job) may = refl
joins_after w now false (Submit client job) may = refl
joins_after w now true (Fetch client) may = refl
joins_after w now false (Fetch client) may = refl
joins_after w now fetches (Take worker) may = cc
joins_after w now fetches (Finish worker) may = cc
joins_after w now fetches Commit may = cc

gathered_more : (steps : List Step) (first now next : Lists) (s : Step) → AreGathered first steps now → may_join now s ≡ true → next ≡ grown now s → AreGathered first (steps ++ s ∷ []) next
gathered_more [] first now next s before may is =
    (ap (λ (l : Lists). may_join l s) before ∙ may, ap (λ (l : Lists). grown l s) before ∙ sym is)
gathered_more (t ∷ steps) first now next s before may is = (before.0, gathered_more steps (grown first t) now next s before.1 may is)

pub gather_more : (first now next : Lists) (steps : List Step) (i : ℕ) (d : Step) → i < length steps → AreGathered first (take i steps) now → may_join now (get_or steps i d) ≡ true → next ≡ grown now (get_or steps i d) → AreGathered first (take (i + 1) steps) next
gather_more first now next steps i d below before may is =
    subst (λ (list : List Step). AreGathered first list next) (sym (take_more steps i d below))
    (gathered_more (take i steps) first now next (get_or steps i d) before may is)

-- the entries that were there stand in front
same_longer : (fetched : List Fetched) → IsLonger fetched fetched
same_longer fetched = (omega arith, λ i below. refl)

longer_twice : (old mid new : List Fetched) → IsLonger old mid → IsLonger mid new → IsLonger old new
longer_twice old mid new first second =
    (omega (arith, first.0, second.0), λ i below. second.1 i (omega (arith, below, first.0)) ∙ first.1 i below)

grown_longer : (now : Lists) (s : Step) → IsLonger now.fetched (grown now s).fetched
grown_longer now (Submit client job) = same_longer now.fetched
grown_longer now (Fetch client) = pushed_longer now.fetched _
grown_longer now (Take worker) = same_longer now.fetched
grown_longer now (Finish worker) = same_longer now.fetched
grown_longer now Commit = same_longer now.fetched

pub gathered_longer : (steps : List Step) (first last : Lists) → AreGathered first steps last → IsLonger first.fetched last.fetched
gathered_longer [] first last all = subst (λ (l : Lists). IsLonger first.fetched l.fetched) all (same_longer first.fetched)
gathered_longer (s ∷ steps) first last all =
    longer_twice first.fetched (grown first s).fetched last.fetched (grown_longer first s) (gathered_longer steps (grown first s) last all.1)

-- taken back
shorter_push : {X : Type 0} (xs : List X) (x : X) → shorter (xs ++ x ∷ []) ≡ xs
shorter_push xs x =
    let size = length_push xs x in
    ap (λ n. take n (xs ++ x ∷ [])) (let e : length (xs ++ x ∷ []) - 1 ≡ length xs = omega (arith, size) in e)
    ∙ take-append_seam xs (x ∷ [])

unsent : (sent : List (List Job)) (client : ℕ) (job : Job) → client < length sent → set (set sent client (get_or sent client [] ++ job ∷ [])) client (shorter (get_or (set sent client (get_or sent client [] ++ job ∷ [])) client [])) ≡ sent
unsent sent client job below =
    let old = get_or sent client [] in
    let more = set sent client (old ++ job ∷ []) in
    ap (λ (l : List Job). set more client (shorter l)) (get_or-set_same sent client (old ++ job ∷ []) [] below)
    ∙ (ap (set more client) (shorter_push old job)
    ∙ (set-set sent client (old ++ job ∷ []) old ∙ set-get_or sent client []))

ungrown_grown : (now : Lists) (s : Step) → may_join now s ≡ true → ungrown (grown now s) s ≡ now
ungrown_grown now (Submit client job) may = ap (λ (l : List (List Job)). lists l now.fetched) (unsent now.sent client job (ltb-true client (length now.sent) may))
ungrown_grown now (Fetch client) may = ap (λ (l : List Fetched). lists now.sent l) (shorter_push now.fetched _)
ungrown_grown now (Take worker) may = refl
ungrown_grown now (Finish worker) may = refl
ungrown_grown now Commit may = refl

gathered_less : (steps : List Step) (first now : Lists) (s : Step) → AreGathered first (steps ++ s ∷ []) now → AreGathered first steps (ungrown now s)
gathered_less [] first now s all = sym (ap (λ (l : Lists). ungrown l s) (sym all.1) ∙ ungrown_grown first s all.0)
gathered_less (t ∷ steps) first now s all = (all.0, gathered_less steps (grown first t) now s all.1)

pub gather_less : (first now next : Lists) (steps : List Step) (i : ℕ) (d : Step) → i < length steps → AreGathered first (take (i + 1) steps) now → next ≡ ungrown now (get_or steps i d) → AreGathered first (take i steps) next
gather_less first now next steps i d below all is =
    subst (AreGathered first (take i steps)) (sym is)
    (gathered_less (take i steps) first now (get_or steps i d)
    (subst (λ (list : List Step). AreGathered first list now) (take_more steps i d below) all))

submit_ungrown : (now : Lists) (s : Step) → is_fetch s ≡ false → (ungrown now s).fetched ≡ now.fetched
submit_ungrown now (Submit client job) is = refl
submit_ungrown now (Fetch client) is = cc
submit_ungrown now (Take worker) is = refl
submit_ungrown now (Finish worker) is = refl
submit_ungrown now Commit is = refl

-- a step behind the last fetch is taken back, and what was fetched stays
pub fetched_as_before : (now next : Lists) (steps : List Step) (from i : ℕ) (d : Step) → NoneFetches steps from → from ≤ i → i < length steps → next ≡ ungrown now (get_or steps i d) → next.fetched ≡ now.fetched
fetched_as_before now next steps from i d none behind below is =
    ap (λ (l : Lists). l.fetched) is
    ∙ submit_ungrown now (get_or steps i d)
    (subst (λ (s : Option Step). IfSome s (λ (x : Step). is_fetch x ≡ false)) (slice_get-get_or steps i d below) (none.each i behind below))

-- a row begins with a fetch
abbrev FewOpen : List Fetched → Type 0
FewOpen fetched = length (open_places fetched) ≤ 1024

fetch_or_behind : (steps : List Step) (i : ℕ) (d : Step) → i < length steps → FetchesAt steps 0 → (is_fetch (get_or steps i d) ≡ true) ⊎ (0 < i)
fetch_or_behind steps i d below fetches =
    ⊎_elim (λ (behind : 0 < i). inr behind)
    (λ (first : i ≤ 0).
    let here : 0 ≡ i = omega (arith, first) in
    let begins : is_fetch (get_or steps 0 d) ≡ true =
    subst (λ (s : Option Step). IfSome s (λ (x : Step). is_fetch x ≡ true)) (slice_get-get_or steps 0 d (omega (arith, below))) fetches in
    inl (subst (λ (k : ℕ). is_fetch (get_or steps k d) ≡ true) here begins))
    (cases_lt 0 i)

pub few_more : (steps : List Step) (i : ℕ) (d : Step) (old new : List Fetched) → i < length steps → FetchesAt steps 0 → (0 < i → FewOpen old) → (is_fetch (get_or steps i d) ≡ true → FewOpen new) → (is_fetch (get_or steps i d) ≡ true) ⊎ (new ≡ old) → FewOpen new
few_more steps i d old new below fetches before here (inl is) = here is
few_more steps i d old new below fetches before here (inr same) =
    ⊎_elim (λ (is : is_fetch (get_or steps i d) ≡ true). here is)
    (λ (behind : 0 < i). subst FewOpen (sym same) (before behind))
    (fetch_or_behind steps i d below fetches)

-- the last fetch that was found
pub fetches_here : (steps : List Step) (i : ℕ) (d : Step) → i < length steps → is_fetch (get_or steps i d) ≡ true → FetchesAt steps (i + 1 - 1)
fetches_here steps i d below is =
    let here : FetchesAt steps i = subst (λ (s : Option Step). IfSome s (λ (x : Step). is_fetch x ≡ true)) (sym (slice_get-get_or steps i d below)) is in
    subst (FetchesAt steps) (let e : i ≡ i + 1 - 1 = omega arith in e) here

-- and that none stands behind it
pub none_before : (steps : List Step) (end : ℕ) (d : Step) → 0 < end → end ≤ length steps → is_fetch (get_or steps (end - 1) d) ≡ false → NoneFetches steps end → NoneFetches steps (end - 1)
none_before steps end d some within is behind =
    let last : IfSome (slice_get steps (end - 1)) (λ (x : Step). is_fetch x ≡ false) =
    subst (λ (s : Option Step). IfSome s (λ (x : Step). is_fetch x ≡ false)) (sym (slice_get-get_or steps (end - 1) d (omega arith))) is in
    record {
      each = λ i from below.
          ⊎_elim (λ (low : i < end).
          let here : end - 1 ≡ i = omega (arith, from, low, some) in
          subst (λ (k : ℕ). IfSome (slice_get steps k) (λ (x : Step). is_fetch x ≡ false)) here last)
          (λ (high : end ≤ i). behind.each i high below)
          (cases_lt i end);
    }

-- a step among the first steps is the same one among all
same_step : (steps : List Step) (n i : ℕ) (d : Step) → i < n → n ≤ length steps → slice_get (take n steps) i ≡ slice_get steps i
same_step steps n i d low within =
    let size = length-take n steps in
    slice_get-get_or (take n steps) i d (omega (arith, size, low, within))
    ∙ (ap Some (get_or-take n steps i d low) ∙ sym (slice_get-get_or steps i d (omega (arith, low, within))))

-- some of the first steps begin as all do
pub begins_first : (steps : List Step) (n : ℕ) → 0 < n → n ≤ length steps → FetchesAt steps 0 → FetchesAt (take n steps) 0
begins_first steps n some within fetches =
    subst (λ (o : Option Step). IfSome o (λ (x : Step). is_fetch x ≡ true)) (sym (same_step steps n 0 (Submit 0 no_op_job) some within)) fetches

-- steps that make the lists longer behind a fetch
joined_reaches : (w : World) (first last : Lists) (steps : List Step) → is_idle w ≡ true → AreGathered first steps last → Reaches (gathered w first true) steps (gathered w last true)
joined_reaches w first last [] idle all = ap (λ (l : Lists). (gathered w l true, None)) all
joined_reaches w first last (s ∷ steps) idle all =
    reaches_first (gathered w first true) s steps (gathered w last true) (joins_allowed w first true s idle all.0)
    (subst (λ (v : World). Reaches v steps (gathered w last true)) (joins_after w first true s all.0)
    (joined_reaches w (grown first s) last steps idle all.1))

-- a row that begins with a fetch
begun_reaches : (w : World) (last : Lists) (s : Step) (steps : List Step) → is_idle w ≡ true → is_fetch s ≡ true → AreGathered (lists_of w) (s ∷ steps) last → Reaches w (s ∷ steps) (gathered w last true)
begun_reaches w last s steps idle is all =
    let next : gathered w (grown (lists_of w) s) true ≡ after w s =
    ap (gathered w (grown (lists_of w) s)) (sym is) ∙ joins_after w (lists_of w) false s all.0 in
    reaches_first w s steps (gathered w last true) (joins_allowed w (lists_of w) false s idle all.0)
    (subst (λ (v : World). Reaches v steps (gathered w last true)) next
    (joined_reaches w (grown (lists_of w) s) last steps idle all.1))

fetches_first : (s : Step) (steps : List Step) → FetchesAt (s ∷ steps) 0 → is_fetch s ≡ true
fetches_first s steps fetches =
    subst (λ (o : Option Step). IfSome o (λ (x : Step). is_fetch x ≡ true)) (slice_get-get_or (s ∷ steps) 0 s (omega arith)) fetches

-- a row reaches the world with the lists that it makes longer, planned anew
pub row_reaches : (w : World) (last : Lists) (steps : List Step) → is_idle w ≡ true → 0 < length steps → FetchesAt steps 0 → AreGathered (lists_of w) steps last → Reaches w steps (gathered w last true)
row_reaches w last [] idle some fetches all = absurd (let e : ⊥ = omega (arith, some) in e)
row_reaches w last (s ∷ steps) idle some fetches all =
    begun_reaches w last s steps idle (fetches_first s steps fetches) all

-- the row up to its last fetch
pub ended_reaches : (w : World) (last : Lists) (steps : List Step) (count end : ℕ) → is_idle w ≡ true → count ≤ length steps → 0 < end → end ≤ count → FetchesAt steps 0 → AreGathered (lists_of w) (take end (take count steps)) last → Reaches w (take end steps) (gathered w last true)
ended_reaches w last steps count end idle within some low fetches all =
    let size = length-take-le end steps (omega (arith, within, low)) in
    row_reaches w last (take end steps) idle (omega (arith, size, some))
    (begins_first steps end some (omega (arith, within, low)) fetches)
    (subst (λ (list : List Step). AreGathered (lists_of w) list last) (take-take end count steps low) all)

-- a step behind some of the first steps is one behind some of all
pub refused_in : (w : World) (steps : List Step) (n taken : ℕ) (d : Step) → n ≤ length steps → IsRefused w (take n steps) taken → IsRefused w steps taken
refused_in w steps n taken d within stopped =
    let size = length-take-le n steps within in
    let low : taken < n = omega (arith, size, stopped.0) in
    (omega (arith, low, within), subst (λ (s : Option Step). IfSome s (λ (x : Step). is_allowed w x ≡ false)) (same_step steps n taken d low within) stopped.1)

-- the steps of a turn, behind those that were taken before
pub turn_reaches : (w v next : World) (steps : List Step) (place taken : ℕ) → Reaches w (take place steps) v → Reaches v (take taken (take (length steps - place) (drop place steps))) next → Reaches w (take (place + taken) steps) next
turn_reaches w v next steps place taken before turn =
    subst (λ (list : List Step). Reaches w list next) (sym (take-add place taken steps))
    (reaches_append (take place steps) (take taken (drop place steps)) w v next before
    (subst (λ (list : List Step). Reaches v (take taken list) next) (take_rest steps place) turn))

-- the step behind a turn is not allowed
pub turn_refused : (w v stopped : World) (steps : List Step) (place taken : ℕ) (d : Step) → place ≤ length steps → Reaches w (take place steps) v → Reaches v (take taken (take (length steps - place) (drop place steps))) stopped → IsRefused stopped (take (length steps - place) (drop place steps)) taken → StopsAt w steps stopped (NotAllowed (place + taken))
turn_refused w v stopped steps place taken d within before turn refused =
    let rest = drop place steps in
    let cut : take (length steps - place) rest ≡ rest = take_rest steps place in
    let size = length-drop place steps in
    let here : taken < length rest = subst (λ (l : List Step). taken < length l) cut refused.0 in
    let below : place + taken < length steps = omega (arith, size, here, within) in
    let at : slice_get (take (length steps - place) rest) taken ≡ Some (get_or steps (place + taken) d) =
    ap (λ (l : List Step). slice_get l taken) cut
    ∙ (slice_get-get_or rest taken d here ∙ ap Some (get_or-drop place steps taken d)) in
    replay_refused w stopped stopped steps (place + taken) d below (turn_reaches w v stopped steps place taken before turn) refl
    (subst (λ (s : Option Step). IfSome s (λ (x : Step). is_allowed stopped x ≡ false)) at refused.1)

-- a row that stops at its end has no step there
pub none_at_end : (P : Step → Type 0) (steps : List Step) (i : ℕ) → length steps ≤ i → IfSome (slice_get steps i) P
none_at_end P steps i past = subst (λ (s : Option Step). IfSome s P) (sym (slice_get_past steps i past)) tt

pub stops_below : (count size : ℕ) (wants refused : Bool) → count ≤ size → (count ≡ size → (wants || refused) ≡ false) → refused ≡ true → count < size
stops_below count size wants refused within stops is =
    ⊎_elim (λ (below : count < size). below)
    (λ (past : size ≤ count). absurd (false≢true (sym (stops (omega (arith, within, past))) ∙ or_right wants refused is)))
    (cases_lt count size)

-- the world that a row of steps leaves, by the fields of the code
pub gather_made : (settings : Settings) (image : Memory) (sent new_sent : List (List Job)) (fetched new_fetched : List Fetched) (waves : List (List ℕ)) (to_do : List Task) (hands : List (Option Task)) (finished new_finished : List Kept) (plan : List (List ℕ)) (tasks : List Task) (fetches : Bool) → fetches ≡ true → new_finished ≡ finished → plan ≡ plan_of new_fetched settings.staging settings.chunk → tasks ≡ tasks_of (jobs_of new_fetched) settings.staging settings.chunk (get_or plan 0 []) → world settings image new_sent new_fetched plan tasks hands new_finished ≡ gathered (world settings image sent fetched waves to_do hands finished) (lists new_sent new_fetched) fetches
gather_made settings image sent new_sent fetched new_fetched waves to_do hands finished new_finished plan tasks fetches anew same planned set =
    let old = world settings image sent fetched waves to_do hands finished in
    ap (λ (kept : List Kept). world settings image new_sent new_fetched plan tasks hands kept) same
    ∙ (ap (λ (l : List Task). world settings image new_sent new_fetched plan l hands finished) set
    ∙ (ap (λ (p : List (List ℕ)). world settings image new_sent new_fetched p (tasks_of (jobs_of new_fetched) settings.staging settings.chunk (get_or p 0 [])) hands finished) planned
    ∙ ap (gathered old (lists new_sent new_fetched)) (sym anew)))
