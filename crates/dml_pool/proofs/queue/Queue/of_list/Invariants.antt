use Rattle.std.proofs.Common.{◌≡◌, ◌++◌, length}
use Rattle.dml_pool.proofs.queue.Queue.of_list.Given as goal

abbrev pub invariant-loop-task : goal.invariant-loop-task
invariant-loop-task l =
    record {
      can : (goal.iterator-loop-task).can_next l.task-iterator;
      ends : (goal.iterator-loop-task).is_finite l.task-iterator;
      split : l.fn.tasks.items ≡ l.yielded ++ l.task-iterator.rest.items;
      pushed : l.queue.tasks ≡ l.yielded;
      place : l.place ≡ length l.yielded;
      room : l.queue.room ≡ length l.fn.tasks.items;
    }
