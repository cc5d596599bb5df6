use Rattle.std.proofs.Common.{◌≡◌, ◌+◌, ◌<◌, length, vec_capacity}
use Rattle.crossbeam_deque.specs.Handles.{worker_view, worker_deque}
use Rattle.dml_pool.specs.Rule.{Accounts}
use Rattle.dml_pool.specs.Slots.{all_held}
use Rattle.dml_pool.proofs.posts.gathered.Given as goal

abbrev pub invariant-loop-post : goal.invariant-loop-post
invariant-loop-post g l =
    record {
      deque : worker_deque l.owner ≡ worker_deque l.fn.owner;
      tasks : (worker_view l.owner).tasks ≡ (worker_view l.fn.owner).tasks;
      part : 0 < (worker_view l.owner).parts;
      parts : (worker_view l.owner).parts + length l.posts.items ≡ (worker_view l.fn.owner).parts + length l.fn.posts.items;
      lists : Accounts g.W.Common.memory (worker_view l.owner) (all_held l.lists.items);
      count : length l.lists.items + length l.posts.items ≡ length l.fn.lists.items + length l.fn.posts.items;
      room : vec_capacity l.lists ≡ vec_capacity l.fn.lists;
    }

abbrev pub decreases-loop-post : goal.decreases-loop-post
decreases-loop-post g l = length l.posts.items
