use Rattle.std.proofs.Common.{◌≡◌, ◌+◌, ◌≤◌, length, vec_capacity}
use Rattle.crossbeam_deque.specs.Handles.{worker_view, worker_deque}
use Rattle.dml_pool.proofs.posts.posts_for.Given as goal

abbrev pub invariant-loop : goal.invariant-loop
invariant-loop g l =
    record {
      deque : worker_deque l.owner ≡ worker_deque l.fn.owner;
      tasks : (worker_view l.owner).tasks ≡ (worker_view l.fn.owner).tasks;
      taken : (worker_view l.owner).taken ≡ (worker_view l.fn.owner).taken;
      parts : (worker_view l.owner).parts + length l.posts.items ≡ (worker_view l.fn.owner).parts;
      count : length l.posts.items ≡ l.counter;
      room : l.workers ≤ vec_capacity l.posts;
    }
