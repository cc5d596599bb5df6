use Rattle.std.proofs.Common.{[], ◌∷◌, subst}
use Rattle.std.specs.List.{All}
use Rattle.crossbeam_deque.specs.Handles.{view}
use Rattle.dml_pool.specs.declared.rule.Hand.{Hand}
use Rattle.dml_pool.specs.Tasks.{IsRunnable}
use Rattle.dml_pool.specs.Rule.{IsOf}
use Rattle.dml_pool.proofs.Works.{task_at, takes_next}
use Rattle.dml_pool.proofs.worker.next_outcome.Goals as goal

pub outcome_of-requires : goal.outcome_of-requires
outcome_of-requires g c =
    let item = c.in-Success.item in
    let tasks = (view c.args.place.now).tasks in
    task_at IsRunnable tasks item [] c.requires.runnable
    (subst (λ (v : Hand). All (IsOf v.tasks) (item ∷ [])) c.loop.invariant.known c.in-Success.ensures.rule.1)

pub returns-in-Success-clause-taken : goal.returns-in-Success-clause-taken
returns-in-Success-clause-taken g c =
    takes_next c.args.image.now (view c.args.place.now) (view c.loop.place) (view c.steal_as.new.pass) c.in-Success.item c.outcome_of.result
    c.loop.invariant.known c.in-Success.ensures.rule c.outcome_of.ensures.task c.outcome_of.ensures.value
