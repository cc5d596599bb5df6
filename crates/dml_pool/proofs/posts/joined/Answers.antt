use Rattle.std.proofs.Common.{sym, ◌∙◌, subst}
use Rattle.crossbeam_deque.specs.Handles.{view, worker_view}
use Rattle.dml_pool.specs.Rule.{Accounts}
use Rattle.dml_pool.specs.Slots.{all_held}
use Rattle.dml_pool.proofs.Holds.{more_so_far}
use Rattle.dml_pool.proofs.posts.joined.Goals as goal

pub returns-clause-lists : goal.returns-clause-lists
returns-clause-lists g c =
    let post = c.args.post in
    subst (λ l. Accounts g.W.Common.memory (worker_view c.absorbed.result) (all_held l)) (sym c.push_reserved.ensures.items)
    (more_so_far g.W.Common.memory (worker_view c.args.owner) (view post.place) (worker_view c.absorbed.result) c.args.lists.items post.done
    c.absorbed.ensures.tasks c.absorbed.ensures.taken (post.known ∙ sym c.requires.tasks) c.requires.so_far post.accounts)
