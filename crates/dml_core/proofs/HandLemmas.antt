-- How many tasks the workers have in hand, and the task that one of them finishes.
use Rattle.std.proofs.Common.{◌≡◌, ℕ, ◌+◌, ◌<◌, ◌≤◌, zero, suc, Bool, true, false, cond, List, [], ◌∷◌, ◌++◌, Option, None, Some, length, get_or, set, map, drop, take, replicate, refl, sym, ◌∙◌, ap, arith}
use Rattle.std.proofs.lemmas.Bool.{and_parts}
use Rattle.std.proofs.lemmas.List.{drop-set-lt, map-append, take_more_set}
use Rattle.std.specs.Prelude.{◌&&◌, is_none, is_some}
use Rattle.std.specs.List.{list_all}
use Rattle.dml_types.specs.Memory.{Memory}
use Rattle.dml_core.specs.Types.{Job, Settings, Fetched, Task, Finish}
use Rattle.dml_core.specs.World.{Kept, after, kept_now, kept_task}
use Rattle.dml_core.specs.Gather.{in_hands}
use Rattle.dml_core.proofs.StepFacts.{world}

-- another thing in a hand
held_set : (hands : List (Option Task)) (i : ℕ) (new : Option Task) → i < length hands → in_hands (set hands i new) + cond (is_some (get_or hands i None)) 1 0 ≡ in_hands hands + cond (is_some new) 1 0
held_set [] i new below = absurd (let e : ⊥ = omega (arith, below) in e)
held_set (hand ∷ hands) zero new below = omega arith
held_set (hand ∷ hands) (suc i) new below = (let rest = held_set hands i new (omega (arith, below)) in omega (arith, rest))

pub held_more : (hands : List (Option Task)) (i : ℕ) (task : Task) → i < length hands → get_or hands i None ≡ None → in_hands (set hands i (Some task)) ≡ in_hands hands + 1
held_more hands i task below none =
    let all = held_set hands i (Some task) below in
    let was : ◌≡◌ {A = ℕ} (cond (is_some (get_or hands i None)) 1 0) 0 = ap (λ (hand : Option Task). cond (is_some hand) 1 0) none in
    omega (arith, all, was)

pub held_less : (hands : List (Option Task)) (i : ℕ) (task : Task) → i < length hands → get_or hands i None ≡ Some task → in_hands (set hands i None) + 1 ≡ in_hands hands
held_less hands i task below some =
    let all = held_set hands i None below in
    let was : ◌≡◌ {A = ℕ} (cond (is_some (get_or hands i None)) 1 0) 1 = ap (λ (hand : Option Task). cond (is_some hand) 1 0) some in
    omega (arith, all, was)

pub none_there : (hand : Option Task) → is_some hand ≡ false → hand ≡ None
none_there None gone = refl
none_there (Some task) gone = cc

-- empty hands
pub none_held : (hands : List (Option Task)) → list_all is_none hands ≡ true → in_hands hands ≡ 0
none_held [] free = refl
none_held (None ∷ hands) free = (let rest = none_held hands (and_parts true (list_all is_none hands) free).1 in omega (arith, rest))
none_held (Some task ∷ hands) free = cc

pub idle_hands : (hands : List (Option Task)) (empty : Bool) → (list_all is_none hands && empty) ≡ true → 0 + in_hands hands ≤ 0
idle_hands hands empty idle = (let none = none_held hands (and_parts (list_all is_none hands) empty idle).0 in omega (arith, none))

pub no_hands_held : (n : ℕ) (hands : List (Option Task)) → hands ≡ replicate n None → in_hands hands ≡ 0
no_hands_held n hands is = none_held hands (ap (list_all is_none) is ∙ all_none n)
  where
    all_none : (n : ℕ) → list_all is_none (replicate n (let none : Option Task = None in none)) ≡ true
    all_none zero = refl
    all_none (suc n) = all_none n

-- the world that a finished task leaves, by the fields of the code
pub finish_view : (settings : Settings) (image : Memory) (sent : List (List Job)) (fetched : List Fetched) (waves : List (List ℕ)) (tasks : List Task) (taken finished : ℕ) (hands : List (Option Task)) (worker : ℕ) (task : Task) → finished < taken → taken ≤ length tasks → get_or hands worker None ≡ Some task → world settings image sent fetched waves (drop taken (set tasks finished task)) (set hands worker None) (map (kept_task fetched image) (take (finished + 1) (set tasks finished task))) ≡ after (world settings image sent fetched waves (drop taken tasks) hands (map (kept_task fetched image) (take finished tasks))) (Finish worker)
finish_view settings image sent fetched waves tasks taken finished hands worker task low within held =
    let keep = kept_task fetched image in
    let old = world settings image sent fetched waves (drop taken tasks) hands (map keep (take finished tasks)) in
    let more : map keep (take (finished + 1) (set tasks finished task)) ≡ map keep (take finished tasks) ++ keep task ∷ [] =
    ap (map keep) (take_more_set tasks finished task (omega (arith, low, within))) ∙ map-append keep (take finished tasks) (task ∷ []) in
    let here : map keep (take finished tasks) ++ keep task ∷ [] ≡ map keep (take finished tasks) ++ kept_now old (get_or hands worker None) =
    ap (λ (hand : Option Task). map keep (take finished tasks) ++ kept_now old hand) (sym held) in
    ap (λ (l : List Task). world settings image sent fetched waves l (set hands worker None) (map keep (take (finished + 1) (set tasks finished task)))) (drop-set-lt taken tasks finished task low)
    ∙ ap (λ (l : List Kept). world settings image sent fetched waves (drop taken tasks) (set hands worker None) l) (more ∙ here)
