-- Each of the six kinds of step keeps the rule of a wave's deque.
use Rattle.std.proofs.Common.{◌≡◌, ◌≢◌, ℕ, ◌+◌, ◌-◌, ◌<◌, ◌≤◌, List, [], ◌∷◌, ◌++◌, set, length, Some, refl, sym, ap, ◌∙◌, subst, arith, length-append}
use Rattle.std.specs.List.{All, slice_get}
use Rattle.std.proofs.lemmas.Bool.Decides.{nat_tests}
use Rattle.std.proofs.lemmas.List.{map-append}
use Rattle.std.proofs.lemmas.List.Elements.{All-nil, All-cons, All-head, All-tail, All-push, All-weaker}
use Rattle.std.proofs.lemmas.Option.{slice_get-get_or, slice_get_within, get_or_from_slice_get}
use Rattle.std.proofs.Math.ListN.{get_or-append}
use Rattle.std.proofs.Math.Seq.{get_or-append_seam}
use mathlib.Core.Option.{some, some-ne-none}
use lib.ListN.{get_elem?}
use Rattle.crossbeam_deque.specs.Tasks.{Pushes, Takes, Forks, Merges, FindsFew}
use Rattle.dml_pool.specs.declared.tasks.Task.{Task}
use Rattle.dml_pool.specs.declared.rule.Hand.{Hand}
use Rattle.dml_pool.specs.declared.rule.Numbered.{Numbered}
use Rattle.dml_pool.specs.Numbers.{times, once_below}
use Rattle.dml_pool.specs.Rule.{hand, all_parts, numbers_of, task_of, HasTaken, HasTakenAll, IsOf, Knows, Kept}
use Rattle.dml_pool.proofs.Counts.{few_below, once_more, times_append}
use Rattle.dml_pool.proofs.Totals.{total_set, total_snoc, part_of_total, every_set, every_snoc, only_one, whole_total}

module _ {X : Type 0} where
  pub all_front : (P : X → Type 0) (xs ys : List X) → All P (xs ++ ys) → All P xs
  all_front P [] ys all = All-nil P
  all_front P (x ∷ xs) ys all = All-cons P x xs (All-head P x (xs ++ ys) all) (all_front P xs ys (All-tail P x (xs ++ ys) all))

  pub all_back : (P : X → Type 0) (xs ys : List X) → All P (xs ++ ys) → All P ys
  all_back P [] ys all = all
  all_back P (x ∷ xs) ys all = all_back P xs ys (All-tail P x (xs ++ ys) all)

  pub get_longer : (xs ys : List X) (k : ℕ) (x : X) → slice_get xs k ≡ Some x → slice_get (xs ++ ys) k ≡ Some x
  get_longer xs ys k x at =
      let within = slice_get_within xs k x at in
      slice_get-get_or (xs ++ ys) k x (omega (arith, within, length-append xs ys))
      ∙ ap (λ y. Some y) (get_or-append xs ys x k within ∙ get_or_from_slice_get xs k x x at)

  pub get_last : (xs : List X) (x : X) → slice_get (xs ++ x ∷ []) (length xs) ≡ Some x
  get_last xs x =
      slice_get-get_or (xs ++ x ∷ []) (length xs) x (omega (arith, length-append xs (x ∷ [])))
      ∙ ap (λ y. Some y) (get_or-append_seam xs x [] x)

pub begins : Kept [] (hand [] all_parts [] ∷ [])
begins =
    let one : (port : ℕ) (v : Hand) → get_elem? (hand [] all_parts [] ∷ []) port ≡ some v → Knows [] v =
    every_snoc (Knows []) [] (hand [] all_parts []) (λ j u at. absurd (some-ne-none u (sym at))) ((λ _. refl), λ _. refl) in
    ([], omega arith, one, All-nil (IsOf []), λ x. grind (arith, nat_tests))

pub pushes : (port : ℕ) (v : Hand) (item : Numbered) → v.parts ≡ all_parts → item.number ≡ length v.tasks
    → Pushes Kept port v (item ∷ []) (λ w. w ≡ hand (v.tasks ++ task_of item ∷ []) v.parts v.taken)
pushes port v item every number items views h at =
    let w = hand (v.tasks ++ task_of item ∷ []) v.parts v.taken in
    let mine : v.tasks ≡ h.0 = (h.2 port v at).0 (omega (arith, every)) in
    let more : List Task = h.0 ++ task_of item ∷ [] in
    let parts = total_set (λ u. u.parts) views port v w at in
    let same : w.tasks ≡ more = ap (λ tasks. tasks ++ task_of item ∷ []) mine in
    let last : slice_get more item.number ≡ Some (task_of item) =
    ap (slice_get more) (number ∙ ap length mine) ∙ get_last h.0 (task_of item) in (
      w,
      (
        more,
        omega (arith, parts, h.1),
        every_set (Knows more) views port w ((λ _. same), λ none. absurd (omega (arith, every, none)))
            (λ j u other there.
            let idle = only_one views port v at (h.1 ∙ sym every) j u other there in
            ((λ some_part. absurd (omega (arith, idle, some_part))), (h.2 j u there).1)),
        All-push (IsOf more) items item (All-weaker (IsOf h.0) (IsOf more) (λ (y : Numbered) is. get_longer h.0 (task_of item ∷ []) y.number (task_of y) is) items h.3) last,
        λ x.
            let taken = total_set (λ u. times x u.taken) views port v w at in
            let place : item.number ≡ length h.0 = number ∙ ap length mine in
            let one : times x (numbers_of (item ∷ [])) ≡ times x (length h.0 ∷ []) = ap (λ n. times x (n ∷ [])) place in
            let split : times x (numbers_of (items ++ item ∷ [])) ≡ times x (numbers_of items) + times x (numbers_of (item ∷ [])) =
            ap (times x) (map-append (λ (y : Numbered). y.number) items (item ∷ [])) ∙ times_append x (numbers_of items) (numbers_of (item ∷ [])) in
            let count : once_below x (length more) ≡ once_below x (length h.0) + times x (length h.0 ∷ []) =
            ap (once_below x) (length-append h.0 (task_of item ∷ [])) ∙ once_more x (length h.0) in
            let before = h.4 x in
            omega (arith, taken, one, split, count, before),
      ),
      refl,
    )

pub takes : (port : ℕ) (v : Hand) → 0 < v.parts
    → Takes Kept port v 1 (HasTaken v)
takes port v part xs items views _ _ h at =
    let w = hand v.tasks v.parts (v.taken ++ numbers_of xs) in
    let mine : v.tasks ≡ h.0 = (h.2 port v at).0 part in
    let few : length w.taken ≤ length h.0 =
    few_below (length h.0) w.taken
    (λ x.
    let own = times_append x v.taken (numbers_of xs) in
    let split : times x (numbers_of (xs ++ items)) ≡ times x (numbers_of xs) + times x (numbers_of items) =
    ap (times x) (map-append (λ (y : Numbered). y.number) xs items) ∙ times_append x (numbers_of xs) (numbers_of items) in
    let before = h.4 x in
    omega (arith, part_of_total (λ u. times x u.taken) views port v at, own, split, before)) in
    let parts = total_set (λ u. u.parts) views port v w at in (
      w,
      (
        h.0,
        omega (arith, parts, h.1),
        every_set (Knows h.0) views port w ((λ _. mine), λ none. absurd (omega (arith, part, none))) (λ j u other there. h.2 j u there),
        all_back (IsOf h.0) xs items h.3,
        λ x.
            let taken = total_set (λ u. times x u.taken) views port v w at in
            let own = times_append x v.taken (numbers_of xs) in
            let split : times x (numbers_of (xs ++ items)) ≡ times x (numbers_of xs) + times x (numbers_of items) =
            ap (times x) (map-append (λ (y : Numbered). y.number) xs items) ∙ times_append x (numbers_of xs) (numbers_of items) in
            let before = h.4 x in
            omega (arith, taken, own, split, before),
      ),
      (refl, subst (λ tasks. All (IsOf tasks) xs) (sym mine) (all_front (IsOf h.0) xs items h.3), omega (arith, few, ap length mine)),
    )

nothing : {X : Type 0} (xs : List X) → length xs ≤ 0 → xs ≡ []
nothing [] few = refl
nothing (x ∷ xs) few = absurd (omega (arith, few))

pub finds_few : (port : ℕ) (v : Hand) → FindsFew Kept 0 port v (HasTakenAll v)
finds_few port v items views few h at every x =
    let mine : v.tasks ≡ h.0 = (h.2 port v at).0 (omega (arith, every)) in
    let idle : (j : ℕ) (u : Hand) → j ≢ port → get_elem? views j ≡ some u → times x u.taken ≡ 0 =
    λ j u other there. ap (times x) ((h.2 j u there).1 (only_one views port v at (h.1 ∙ sym every) j u other there)) in
    let whole = whole_total (λ u. times x u.taken) views port v at refl idle in
    let none : times x (numbers_of items) ≡ 0 = ap (λ l. times x (numbers_of l)) (nothing items few) in
    let before = h.4 x in
    let long : once_below x (length v.tasks) ≡ once_below x (length h.0) = ap (λ l. once_below x (length l)) mine in
    omega (arith, whole, none, before, long)

pub forks : (port : ℕ) (v : Hand) → 1 < v.parts → Forks Kept port v (hand v.tasks (v.parts - 1) v.taken) (hand v.tasks 1 [])
forks port v parts items views h at =
    let left = hand v.tasks (v.parts - 1) v.taken in
    let right = hand v.tasks 1 [] in
    let mine : v.tasks ≡ h.0 = (h.2 port v at).0 (omega (arith, parts)) in
    let kept = every_set (Knows h.0) views port left ((λ _. mine), λ none. absurd (omega (arith, parts, none))) (λ j u other there. h.2 j u there) in
    let sum = total_set (λ u. u.parts) views port v left at in
    let sum' = total_snoc (λ u. u.parts) (set views port left) right in (
      h.0,
      omega (arith, sum, sum', h.1, parts),
      every_snoc (Knows h.0) (set views port left) right kept ((λ _. mine), λ _. refl),
      h.3,
      λ x.
          let taken = total_set (λ u. times x u.taken) views port v left at in
          let taken' = total_snoc (λ u. times x u.taken) (set views port left) right in
          let before = h.4 x in
          omega (arith, taken, taken', before),
    )

pub forks_whole : (port : ℕ) (v : Hand) → Forks Kept port v (hand [] 0 []) v
forks_whole port v items views h at =
    let left = hand [] 0 [] in
    let kept = every_set (Knows h.0) views port left ((λ part. absurd (omega (arith, part))), λ _. refl) (λ j u other there. h.2 j u there) in
    let sum = total_set (λ u. u.parts) views port v left at in
    let sum' = total_snoc (λ u. u.parts) (set views port left) v in (
      h.0,
      omega (arith, sum, sum', h.1),
      every_snoc (Knows h.0) (set views port left) v kept (h.2 port v at),
      h.3,
      λ x.
          let taken = total_set (λ u. times x u.taken) views port v left at in
          let taken' = total_snoc (λ u. times x u.taken) (set views port left) v in
          let before = h.4 x in
          omega (arith, taken, taken', before),
    )

pub merges : (port : ℕ) (v : Hand) (other : ℕ) (u : Hand) → 0 < v.parts
    → Merges Kept port v other u (hand v.tasks (v.parts + u.parts) (v.taken ++ u.taken)) (hand [] 0 [])
merges port v other u part items views h at apart there =
    let both = hand v.tasks (v.parts + u.parts) (v.taken ++ u.taken) in
    let spent = hand [] 0 [] in
    let mine : v.tasks ≡ h.0 = (h.2 port v at).0 part in
    let kept = every_set (Knows h.0) views port both ((λ _. mine), λ none. absurd (omega (arith, part, none))) (λ j w other' at'. h.2 j w at') in
    let sum = total_set (λ w. w.parts) views port v both at in
    let sum' = total_set (λ w. w.parts) (set views port both) other u spent there in (
      h.0,
      omega (arith, sum, sum', h.1),
      every_set (Knows h.0) (set views port both) other spent ((λ some_part. absurd (omega (arith, some_part))), λ _. refl) (λ j w other' at'. kept j w at'),
      h.3,
      λ x.
          let taken = total_set (λ w. times x w.taken) views port v both at in
          let taken' = total_set (λ w. times x w.taken) (set views port both) other u spent there in
          let own = times_append x v.taken u.taken in
          let before = h.4 x in
          omega (arith, taken, taken', own, before),
    )
