use Rattle.std.proofs.Common.{◌++◌, sym, ap, ◌∙◌, subst}
use Rattle.crossbeam_deque.specs.Handles.{view, worker_view}
use Rattle.dml_pool.specs.declared.rule.Hand.{Hand}
use Rattle.dml_pool.specs.Rule.{Accounts}
use Rattle.dml_pool.specs.Slots.{HoldAll, all_held, held}
use Rattle.dml_pool.proofs.Holds.{hold_all}
use Rattle.dml_pool.proofs.wave.last_look.Goals as goal

pub returns : goal.returns
returns g c =
    let image = c.args.image.now in
    let owner = worker_view c.args.owner in
    let lists = c.args.lists.items in
    let whole = c.another-place.ensures.rule.1 in
    let so_far = subst (λ (h : Hand). Accounts image h (all_held lists ++ held c.args.done.items)) (sym whole) c.requires.so_far in
    subst (HoldAll image owner.tasks) (sym c.push_reserved.ensures.items)
    (hold_all image owner.tasks (view c.another-place.result) (view c.work-done.new.place) lists c.args.done.items c.work-done.result
    (ap (λ (h : Hand). h.tasks) whole) (ap (λ (h : Hand). h.parts) whole ∙ c.requires.parts) so_far c.work-done.ensures.done c.work-done.ensures.all)
