use Rattle.crossbeam_deque.specs.Handles.{stealer_deque, worker_view}
use Rattle.dml_pool.proofs.wave.run_wave_into_lists.Given as goal

-- what the workers have in common
abbrev pub ghosts-all_done : goal.ghosts-all_done
ghosts-all_done g a = record { memory = a.image.now; deque = stealer_deque a.thief.now; tasks = (worker_view a.owner).tasks }
