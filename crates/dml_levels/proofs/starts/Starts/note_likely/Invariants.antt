use Rattle.std.proofs.Common.{◌≡◌, ◌≤◌, ℕ, List, length}
use Rattle.dml_levels.specs.declared.starts.Start.{Start}
use Rattle.dml_levels.proofs.StartLemmas.{addresses}
use Rattle.dml_levels.proofs.starts.Starts.note_likely.Given as goal

pub record IsNoting (starts : List ℕ) (list : List Start) (k : ℕ) : Type 0 where
  pub kept : addresses list ≡ starts
  pub within : k ≤ length list

abbrev pub invariant-loop-k : goal.invariant-loop-k
invariant-loop-k l = IsNoting l.fn.self l.self-inside.list.items l.k

abbrev pub decreases-loop-k : goal.decreases-loop-k
decreases-loop-k l = l.k
