-- Lists of steps, one after another.
use Rattle.std.proofs.Common.{◌≡◌, ℕ, ◌+◌, ◌<◌, ◌≤◌, suc, true, false, cond, List, [], ◌∷◌, ◌++◌, length, get_or, take, drop, refl, sym, ◌∙◌, ap, subst, arith, Option, None, Some}
use Rattle.std.proofs.lemmas.List.{drop_more, length-take-le, take-append-drop, take_more, take_all}
use Rattle.std.proofs.lemmas.Option.{slice_get-get_or}
use Rattle.std.specs.Prelude.{IfSome, option_map}
use Rattle.dml_core.specs.declared.errors.StepFault.TheVariants.{NotAllowed, NoMemory}
use Rattle.dml_core.specs.Types.{Step}
use Rattle.dml_core.specs.World.{World, is_allowed, after, run, Reaches}
use Rattle.dml_core.specs.Laws.{RunsGoOn}
use Rattle.dml_core.specs.Replay.{StopsAt, may_grow}
use Rattle.dml_core.proofs.KeepsLemmas.{reaches_next}

abbrev Run : Type 0
Run = World × Option ℕ

abbrev one_on : Run → Run
one_on pair = (pair.0, option_map (λ i. i + 1) pair.1)

abbrev ended_at : World → Option ℕ → Run
ended_at w place = (w, place)

pub reaches_first : (w : World) (s : Step) (steps : List Step) (end : World) → is_allowed w s ≡ true → Reaches (after w s) steps end → Reaches w (s ∷ steps) end
reaches_first w s steps end allowed rest =
    ap (λ b. cond {A = Run} b (one_on (run (after w s) steps)) (w, Some 0)) allowed ∙ ap one_on rest

same_world : (w v : World) → ended_at w None ≡ ended_at v None → w ≡ v
same_world w v is = ap (λ (pair : Run). pair.0) is

pub reaches_append : (xs ys : List Step) (w v end : World) → Reaches w xs v → Reaches v ys end → Reaches w (xs ++ ys) end
reaches_append [] ys w v end first second = subst (λ (x : World). Reaches x ys end) (sym (same_world w v first)) second
reaches_append (s ∷ xs) ys w v end first second =
    let next = reaches_next w s xs v first in
    reaches_first w s (xs ++ ys) end next.0 (reaches_append xs ys (after w s) v end next.1 second)

-- a run whose place is counted on
abbrev further : ℕ → Run → Run
further n pair = (pair.0, option_map (λ i. n + i) pair.1)

none_further : (w : World) (place : Option ℕ) → ended_at w place ≡ further 0 (ended_at w place)
none_further w None = refl
none_further w (Some i) = ap (λ (k : ℕ). ended_at w (Some k)) (let e : i ≡ 0 + i = omega arith in e)

one_further : (n : ℕ) (w : World) (place : Option ℕ) → one_on (further n (ended_at w place)) ≡ further (suc n) (ended_at w place)
one_further n w None = refl
one_further n w (Some i) = ap (λ (k : ℕ). ended_at w (Some k)) (let e : n + i + 1 ≡ suc n + i = omega arith in e)

pub runs_go_on : RunsGoOn
runs_go_on w v [] ys first =
    ap (λ (x : World). run x ys) (same_world w v first) ∙ none_further (run v ys).0 (run v ys).1
runs_go_on w v (s ∷ xs) ys first =
    let next = reaches_next w s xs v first in
    ap (λ b. cond {A = Run} b (one_on (run (after w s) (xs ++ ys))) (w, Some 0)) next.0
    ∙ (ap one_on (runs_go_on (after w s) v xs ys next.1) ∙ one_further (length xs) (run v ys).0 (run v ys).1)

stops_behind : (xs ys : List Step) (w v stopped : World) → Reaches w xs v → run v ys ≡ ended_at stopped (Some 0) → run w (xs ++ ys) ≡ ended_at stopped (Some (length xs))
stops_behind xs ys w v stopped first stop =
    runs_go_on w v xs ys first
    ∙ (ap (further (length xs)) stop
    ∙ ap (λ (i : ℕ). ended_at stopped (Some i)) (let e : length xs + 0 ≡ length xs = omega arith in e))

pub replay_more : (w world next : World) (steps : List Step) (i : ℕ) (d : Step) → i < length steps → Reaches w (take i steps) world → is_allowed world (get_or steps i d) ≡ true → next ≡ after world (get_or steps i d) → Reaches w (take (i + 1) steps) next
replay_more w world next steps i d below before allowed is =
    let s = get_or steps i d in
    let whole : take (i + 1) steps ≡ take i steps ++ s ∷ [] = take_more steps i d below in
    subst (λ (list : List Step). Reaches w list next) (sym whole)
    (reaches_append (take i steps) (s ∷ []) w world next before
    (reaches_first world s [] next allowed (ap (λ (x : World). ended_at x None) (sym is))))

pub replay_stop : (w world same : World) (steps : List Step) (i : ℕ) (d : Step) → i < length steps → Reaches w (take i steps) world → same ≡ world → is_allowed world (get_or steps i d) ≡ false → run w steps ≡ ended_at same (Some i)
replay_stop w world same steps i d below before is refused =
    let s = get_or steps i d in
    let rest : drop i steps ≡ s ∷ drop (i + 1) steps = drop_more steps i d below in
    let cut : steps ≡ take i steps ++ s ∷ drop (i + 1) steps = sym (take-append-drop i steps) ∙ ap (λ (list : List Step). take i steps ++ list) rest in
    ap (run w) cut
    ∙ (stops_behind (take i steps) (s ∷ drop (i + 1) steps) w world world before
    (ap (λ b. cond {A = Run} b (one_on (run (after world s) (drop (i + 1) steps))) (world, Some 0)) refused)
    ∙ (ap (λ (k : ℕ). ended_at world (Some k)) (length-take-le i steps (let e : i ≤ length steps = omega arith in e))
    ∙ ap (λ (x : World). ended_at x (Some i)) (sym is)))

pub replay_done : (w world : World) (steps : List Step) (i : ℕ) → length steps ≤ i → Reaches w (take i steps) world → Reaches w steps world
replay_done w world steps i past before = subst (λ (list : List Step). Reaches w list world) (take_all i steps past) before

pub replay_refused : (w world same : World) (steps : List Step) (i : ℕ) (d : Step) → i < length steps → Reaches w (take i steps) world → same ≡ world → is_allowed world (get_or steps i d) ≡ false → StopsAt w steps same (NotAllowed i)
replay_refused w world same steps i d below before is refused =
    let stops : StopsAt w steps world (NotAllowed i) =
    (below, before, subst (λ (s : Option Step). IfSome s (λ x. is_allowed world x ≡ false)) (sym (slice_get-get_or steps i d below)) refused, replay_stop w world world steps i d below before refl refused) in
    subst (λ (x : World). StopsAt w steps x (NotAllowed i)) (sym is) stops

pub replay_memory : (w world same : World) (steps : List Step) (i : ℕ) (d : Step) → i < length steps → Reaches w (take i steps) world → same ≡ world → is_allowed world (get_or steps i d) ≡ true → may_grow (get_or steps i d) ≡ true → StopsAt w steps same (NoMemory i)
replay_memory w world same steps i d below before is allowed grows =
    let stops : StopsAt w steps world (NoMemory i) =
    (below, before, subst (λ (s : Option Step). IfSome s (λ x. (is_allowed world x ≡ true) × (may_grow x ≡ true))) (sym (slice_get-get_or steps i d below)) (allowed, grows)) in
    subst (λ (x : World). StopsAt w steps x (NoMemory i)) (sym is) stops

-- what decides a replay's turns and its end
pub ruleset replay_steps = (replay_more, replay_stop, replay_done)
