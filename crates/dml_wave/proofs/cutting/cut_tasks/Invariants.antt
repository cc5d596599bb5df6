use Rattle.std.proofs.Common.{◌≡◌, ◌≤◌, [], All, length, take, drop}
use Rattle.dml_levels.specs.Waves.{needs_of, tasks_of}
use Rattle.dml_pool.specs.Tasks.{IsRunnable}
use Rattle.dml_wave.specs.Tasks.{AreWaveTasks}
use Rattle.dml_wave.proofs.cutting.cut_tasks.Given as goal

abbrev pub invariant-loop-place : goal.invariant-loop-place
invariant-loop-place l =
    record {
      tasks : AreWaveTasks l.jobs l.chunk (take l.place-index l.wave) l.queue.tasks;
      runnable : All IsRunnable l.queue.tasks;
      count : length l.queue.tasks ≡ tasks_of l.jobs l.chunk (take l.place-index l.wave);
      empty : l.room.bytes ≡ [];
      fits : needs_of l.jobs (drop l.place-index l.wave) ≤ l.room.room;
      capacity : l.queue.room ≡ tasks_of l.jobs l.chunk l.wave;
    }
