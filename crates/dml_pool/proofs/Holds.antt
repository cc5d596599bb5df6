-- Lists that hold an outcome for each task that a pass took.
use Rattle.std.proofs.Common.{◌≡◌, ◌<◌, ℕ, List, [], ◌∷◌, ◌++◌, length, Option, None, Some, IsSomeAnd, refl, sym, ap, ◌∙◌, subst, append_assoc}
use Rattle.std.specs.List.{All, slice_get}
use Rattle.std.specs.Global.{Vec as List'}
use Rattle.std.proofs.lemmas.List.{append-nil}
use Rattle.std.proofs.lemmas.List.Elements.{All-nil, All-weaker}
use Rattle.std.proofs.lemmas.Grind.{flat_map-append}
use Rattle.std.proofs.lemmas.Option.{slice_get_within}
use Rattle.dml_types.specs.Memory.{Memory}
use Rattle.dml_pool.specs.declared.rule.Hand.{Hand}
use Rattle.dml_pool.specs.declared.tasks.Task.{Task}
use Rattle.dml_pool.specs.declared.tasks.Outcome.{Outcome}
use Rattle.dml_pool.specs.Tasks.{IsTaskValue}
use Rattle.dml_pool.specs.Rule.{all_parts, Accounts, HasTakenAll, IsDone, tasks_done}
use Rattle.dml_pool.specs.Crews.{HasWorked}
use Rattle.dml_pool.specs.Slots.{HoldAll, all_held, held}
use Rattle.dml_pool.specs.Numbers.{times, once_below}
use Rattle.dml_pool.proofs.Works.{accounts_joined, accounts_since, held_worked}

pub done_within : (memory : Memory) (tasks : List Task) (outcome : Outcome) → IsDone memory tasks outcome → outcome.task < length tasks
done_within memory tasks outcome done = inside (slice_get tasks outcome.task) refl done
  where
    inside : (found : Option Task) → slice_get tasks outcome.task ≡ found → IsSomeAnd found (λ task. IsTaskValue memory task outcome.piece)
        → outcome.task < length tasks
    inside None is some = absurd some
    inside (Some task) is some = slice_get_within tasks outcome.task task is

-- there is a place for each outcome of lists that hold all
pub all_within : (memory : Memory) (tasks : List Task) (lists : List (List' (Option Outcome))) (count : ℕ) → HoldAll memory tasks lists → count ≡ length tasks
    → All (λ (o : Outcome). o.task < count) (all_held lists)
all_within memory tasks lists count hold same =
    subst (λ n. All (λ (o : Outcome). o.task < n) (all_held lists)) (sym same)
    (All-weaker (IsDone memory tasks) (λ (o : Outcome). o.task < length tasks) (λ o done. done_within memory tasks o done) (all_held lists) hold.done)

held_more : (lists : List (List' (Option Outcome))) (list : List' (Option Outcome)) → all_held (lists ++ list ∷ []) ≡ all_held lists ++ held list.items
held_more lists list =
    flat_map-append (λ (l : List' (Option Outcome)). held l.items) lists (list ∷ []) ∙ ap (λ l. all_held lists ++ l) (append-nil (held list.items))

-- no list
pub none_so_far : (memory : Memory) (v : Hand) (lists : List (List' (Option Outcome))) → v.taken ≡ [] → lists ≡ [] → Accounts memory v (all_held lists)
none_so_far memory v lists none empty = record {
  taken = none ∙ sym (ap (λ l. tasks_done (all_held l)) empty);
  done = subst (λ l. All (IsDone memory v.tasks) (all_held l)) (sym empty) (All-nil (IsDone memory v.tasks));
}

-- two passes joined, of which the second has its outcomes in a list of its own
pub all_so_far : (memory : Memory) (v w x : Hand) (lists : List (List' (Option Outcome))) (list : List' (Option Outcome)) → x.tasks ≡ v.tasks
    → x.taken ≡ v.taken ++ w.taken → w.tasks ≡ v.tasks → Accounts memory v (all_held lists) → Accounts memory w (held list.items)
    → Accounts memory x (all_held lists ++ held list.items)
all_so_far memory v w x lists list known both same so_far right =
    accounts_joined memory v w x (all_held lists) (held list.items) (all_held lists ++ held list.items) known both same refl so_far right

pub more_so_far : (memory : Memory) (v w x : Hand) (lists : List (List' (Option Outcome))) (list : List' (Option Outcome)) → x.tasks ≡ v.tasks
    → x.taken ≡ v.taken ++ w.taken → w.tasks ≡ v.tasks → Accounts memory v (all_held lists) → Accounts memory w (held list.items)
    → Accounts memory x (all_held (lists ++ list ∷ []))
more_so_far memory v w x lists list known both same so_far right =
    subst (λ l. Accounts memory x l) (sym (held_more lists list)) (all_so_far memory v w x lists list known both same so_far right)

-- a pass that took all
pub hold_all : (memory : Memory) (tasks : List Task) (v w : Hand) (lists : List (List' (Option Outcome))) (old : List (Option Outcome)) (list : List' (Option Outcome))
    → v.tasks ≡ tasks → v.parts ≡ all_parts → Accounts memory v (all_held lists ++ held old) → HasWorked memory v w old list.items → HasTakenAll w
    → HoldAll memory tasks (lists ++ list ∷ [])
hold_all memory tasks v w lists old list known whole so_far work all =
    let is : all_held (lists ++ list ∷ []) ≡ all_held lists ++ held old ++ work.outcomes =
    held_more lists list ∙ (ap (λ l. all_held lists ++ l) (held_worked memory v w old list.items work) ∙ sym (append_assoc (all_held lists) (held old) work.outcomes)) in
    let accounts : Accounts memory w (all_held (lists ++ list ∷ [])) =
    subst (λ l. Accounts memory w l) (sym is) (accounts_since memory v w old list.items (all_held lists ++ held old) work so_far) in
    let same : w.tasks ≡ tasks = ap (λ (h : Hand). h.tasks) work.taken ∙ known in
    let parts : w.parts ≡ all_parts = ap (λ (h : Hand). h.parts) work.taken ∙ whole in record {
      once = λ x. ap (times x) (sym accounts.taken) ∙ (all parts x ∙ ap (λ (l : List Task). once_below x (length l)) same);
      done = subst (λ l. All (IsDone memory l) (all_held (lists ++ list ∷ []))) same accounts.done;
    }
