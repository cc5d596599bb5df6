use Rattle.std.proofs.Common.{◌≡◌, Option, Vec, Global, length, sym, ap, ◌∙◌, subst}
use Rattle.crossbeam_deque.specs.Handles.{view}
use Rattle.dml_types.specs.Memory.{Memory}
use Rattle.dml_pool.specs.declared.tasks.Outcome.{Outcome}
use Rattle.dml_pool.specs.Rule.{Accounts}
use Rattle.dml_pool.specs.Slots.{held}
use Rattle.dml_pool.proofs.Works.{accounts_worked, count_worked}
use Rattle.dml_pool.proofs.crew.work_at.Goals as goal

pub invariant_of-mine-clause-count : goal.invariant_of-mine-clause-count
invariant_of-mine-clause-count g c =
    let post = c.deref_mut-mine.result.now in
    let old = c.replace-done.result in
    let count : length old.items ≡ length (view post.place).taken =
    ap (λ (list : Vec (Option Outcome) Global). length list.items) c.replace-done.ensures.value ∙ post.count in
    count_worked c.args.image.now (view post.place) (view c.work.new.place) old.items c.work.result.items c.work.ensures.done count

pub invariant_of-mine-clause-accounts : goal.invariant_of-mine-clause-accounts
invariant_of-mine-clause-accounts g c =
    let post = c.deref_mut-mine.result.now in
    let old = c.replace-done.result in
    let v = view post.place in
    let w = view c.work.new.place in
    let before : Accounts g.W.Common.memory v (held old.items) =
    subst (λ (list : Vec (Option Outcome) Global). Accounts g.W.Common.memory v (held list.items)) (sym c.replace-done.ensures.value) post.accounts in
    let is = c.requires.0 in
    subst (λ (m : Memory). Accounts m w (held c.work.result.items)) is
    (accounts_worked c.args.image.now v w old.items c.work.result.items c.work.ensures.done
    (subst (λ (m : Memory). Accounts m v (held old.items)) (sym is) before))
