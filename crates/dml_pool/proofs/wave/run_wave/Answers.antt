use Rattle.std.proofs.Common.{◌≡◌, ◌<◌, List, Option, length, vec_capacity, sym, subst, arith}
use Rattle.std.specs.Global.{Vec as Outcomes}
use Rattle.std.specs.List.{All}
use Rattle.dml_pool.specs.declared.tasks.Outcome.{Outcome}
use Rattle.dml_pool.specs.declared.tasks.Task.{Task}
use Rattle.dml_pool.specs.Slots.{HoldAll, all_held}
use Rattle.dml_pool.proofs.Holds.{all_within}
use Rattle.dml_pool.proofs.wave.run_wave.Goals as goal

pub ordered-requires-clause-within : goal.ordered-requires-clause-within
ordered-requires-clause-within g c =
    let image = c.args.image.now in
    let tasks = c.args.tasks.items in
    let count = vec_capacity c.in_ok-slots.slots in
    let same : count ≡ length tasks = omega (arith, c.in_ok-slots.ensures.exact, c.in_ok-slots.ensures.capacity, c.len-2.ensures) in
    let hold : HoldAll image tasks c.in_ok-lists.lists.items =
    subst (λ (t : List Task). HoldAll image t c.in_ok-lists.lists.items) c.in_ok-queue.ensures.tasks c.in_ok-lists.ensures in
    subst (λ (l : List (Outcomes (Option Outcome))). All (λ (o : Outcome). o.task < count) (all_held l)) (sym c.as_mut_slice.ensures.value)
    (all_within image tasks c.in_ok-lists.lists.items count hold same)

pub returns-clause-order : goal.returns-clause-order
returns-clause-order g c =
    let image = c.args.image.now in
    let tasks = c.args.tasks.items in
    let same : vec_capacity c.in_ok-slots.slots ≡ length tasks =
    omega (arith, c.in_ok-slots.ensures.exact, c.in_ok-slots.ensures.capacity, c.len-2.ensures) in
    let hold : HoldAll image tasks c.in_ok-lists.lists.items =
    subst (λ (t : List Task). HoldAll image t c.in_ok-lists.lists.items) c.in_ok-queue.ensures.tasks c.in_ok-lists.ensures in
    (c.ordered.ensures image tasks (subst (HoldAll image tasks) (sym c.as_mut_slice.ensures.value) hold) same).0
