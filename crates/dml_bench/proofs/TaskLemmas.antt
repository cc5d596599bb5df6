-- Lists of tasks.
use Rattle.std.proofs.Common.{List, [], ◌∷◌, ◌++◌}
use Rattle.std.specs.List.{All}
use Rattle.std.proofs.lemmas.List.Elements.{All-push}
use Rattle.dml_pool.specs.declared.tasks.Task.{Task}
use Rattle.dml_pool.specs.Tasks.{IsRunnable}

pub one_more : (tasks : List Task) (task : Task) → All IsRunnable tasks → IsRunnable task → All IsRunnable (tasks ++ task ∷ [])
one_more tasks task all one = All-push IsRunnable tasks task all one
