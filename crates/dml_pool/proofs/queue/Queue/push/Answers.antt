use Rattle.std.proofs.Common.{length, ap, arith}
use Rattle.dml_pool.specs.Queues.{Waiting}
use Rattle.dml_pool.proofs.queue.Queue.push.Goals as goal

pub overflow_add-self : goal.overflow_add-self
overflow_add-self c =
    omega
    (arith, c.self.invariant, ap (λ (w : Waiting). length w.tasks) c.self.view_is, ap (λ (w : Waiting). w.room) c.self.view_is)
