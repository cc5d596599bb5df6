use Rattle.std.proofs.Common.{◌≡◌, length, sym, ap, ◌∙◌, subst}
use Rattle.crossbeam_deque.specs.Handles.{view}
use Rattle.dml_types.specs.Memory.{Memory}
use Rattle.dml_pool.specs.declared.rule.Hand.{Hand}
use Rattle.dml_pool.specs.Rule.{Accounts}
use Rattle.dml_pool.specs.Slots.{held}
use Rattle.dml_pool.proofs.Works.{accounts_worked, count_worked, none_held}
use Rattle.dml_pool.proofs.crew.lead.Goals as goal

pub returns : goal.returns
returns g c =
    let desk = c.args.desk in
    let v = view desk.place in
    let w = view c.work-done.new.place in
    let image = c.args.image.now in
    let table = c.requires.1 in
    let known = c.requires.2 in
    let empty = c.requires.3 in
    let same = c.work-done.ensures.same in
    let worked = c.work-done.ensures.done in
    let none : v.taken ≡ _ = ap (λ (h : Hand). h.taken) known in
    let accounts : Accounts image w (held c.work-done.result.items) =
    accounts_worked image v w desk.done.items c.work-done.result.items worked (none_held image v desk.done.items none empty) in
    let count : length desk.done.items ≡ length v.taken = ap length empty ∙ sym (ap length none) in (
      (same.0 ∙ table.0, same.1 ∙ table.1, same.3, same.4),
      ap (λ (h : Hand). h.tasks) worked.taken ∙ ap (λ (h : Hand). h.tasks) known,
      ap (λ (h : Hand). h.parts) worked.taken ∙ ap (λ (h : Hand). h.parts) known,
      subst (λ (m : Memory). Accounts m w (held c.work-done.result.items)) c.requires.0.0 accounts,
      count_worked image v w desk.done.items c.work-done.result.items worked count,
      c.work-done.ensures.room ∙ c.requires.4,
    )
