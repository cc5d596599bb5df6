use Rattle.std.proofs.Common.{◌≡◌}
use Rattle.dml_wave.proofs.Cuts.{IsCutUpTo}
use Rattle.dml_wave.proofs.cutting.cut_job.Given as goal

abbrev pub invariant-loop : goal.invariant-loop
invariant-loop l =
    record {
      cut : IsCutUpTo l.op l.job l.chunk l.counter l.from l.fn.room.room l.room l.fn.queue.tasks l.queue.tasks;
      capacity : l.queue.room ≡ l.fn.queue.room;
    }
