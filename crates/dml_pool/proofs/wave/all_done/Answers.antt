use Rattle.std.proofs.Common.{◌≡◌, ◌++◌, List, sym, ap, ◌∙◌, subst}
use Rattle.crossbeam_deque.specs.Handles.{view, worker_view}
use Rattle.dml_types.specs.Memory.{Memory}
use Rattle.dml_pool.specs.declared.rule.Hand.{Hand}
use Rattle.dml_pool.specs.declared.tasks.Task.{Task}
use Rattle.dml_pool.specs.Rule.{Accounts}
use Rattle.dml_pool.specs.Slots.{all_held, held}
use Rattle.dml_pool.proofs.Holds.{all_so_far}
use Rattle.dml_pool.proofs.wave.all_done.Goals as goal

pub last_look-requires-clause-so_far : goal.last_look-requires-clause-so_far
last_look-requires-clause-so_far g c =
    let known : Hand → List Task = λ h. h.tasks in
    let lists = c.gathered-owner.result.1.items in
    let done = c.crew-place.result.1 in
    let v = worker_view c.gathered-owner.result.0 in
    let w = view c.crew-place.result.0 in
    let x = worker_view c.absorbed-owner.result in
    let tasks : v.tasks ≡ g.W.Common.tasks =
    c.gathered-owner.ensures.tasks ∙ (ap known c.another-place.ensures.rule.0 ∙ (ap known c.in_ok-posts.ensures.left ∙ ap known c.requires.tasks)) in
    subst (λ (m : Memory). Accounts m x (all_held lists ++ held done.items)) (sym c.requires.memory)
    (all_so_far g.W.Common.memory v w x lists done c.absorbed-owner.ensures.tasks c.absorbed-owner.ensures.taken (c.crew-place.ensures.1 ∙ sym tasks)
    c.gathered-owner.ensures.lists c.crew-place.ensures.3)
