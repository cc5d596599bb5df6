use Rattle.std.proofs.Common.{◌≡◌, List, [], ◌∷◌, ◌++◌, map, slice_index_or, append_assoc, length-append, ap, ap₂, sym, ◌∙◌, arith}
use Rattle.std.proofs.lemmas.List.{map-append, length-map}
use Rattle.std.proofs.Math.Seq.{get_or-append_seam}
use Rattle.dml_types.specs.declared.jobs.Job.{Job}
use Rattle.dml_pool.specs.declared.tasks.Task.{Task}
use Rattle.dml_pool.specs.Tasks.{task_with}
use Rattle.dml_pool.proofs.queue.Queue.of_list.Goals as goal

pub loop-task-preserved : goal.loop-task-preserved
loop-task-preserved c =
    let yielded = c.loop-task.yielded in
    let task = c.in-Some.task in
    let rest = c.next.new.self.rest.items in
    let before = c.loop-task.invariant in
    let job_of = λ (t : Task). t.job in
    let split : c.args.tasks.items ≡ yielded ++ task ∷ rest = before.split ∙ ap (λ l. yielded ++ l) c.in-Some.ensures.steps.0 in
    let parted : c.args.jobs.now ≡ map job_of yielded ++ task.job ∷ map job_of rest =
    c.requires.jobs ∙ (ap (map job_of) split ∙ map-append job_of yielded (task ∷ rest)) in
    let at : c.index-jobs-place.result ≡ task.job =
    c.index-jobs-place.is
    ∙ (ap (λ l. slice_index_or l c.loop-task.place c.index-jobs-place.result) parted
    ∙ (ap (λ k. slice_index_or (map job_of yielded ++ task.job ∷ map job_of rest) k c.index-jobs-place.result)
    (before.place ∙ sym (length-map yielded job_of))
    ∙ get_or-append_seam (map job_of yielded) task.job (map job_of rest) c.index-jobs-place.result)) in record {
      can = tt;
      ends = tt;
      split = split ∙ sym (append_assoc yielded (task ∷ []) rest);
      pushed =
          c.push.ensures.tasks
          ∙ ap₂ (λ (l : List Task) (job : Job). l ++ task_with job task.from task.to task.room ∷ []) before.pushed at;
      place = omega (arith, before.place, length-append yielded (task ∷ []));
      room = c.push.ensures.room ∙ before.room;
    }
