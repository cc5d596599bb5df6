use Rattle.std.proofs.Common.{◌≡◌, ℕ, ◌≤◌, drop}
use Rattle.dml_core.specs.Gather.{fetch_follows}
use Rattle.dml_core.proofs.gathering.fetch_from.Given as goal

abbrev pub invariant-loop-i : goal.invariant-loop-i
invariant-loop-i l =
    (k : ℕ) → l.from ≤ k → k ≤ l.i → fetch_follows l.clients (drop k l.steps) ≡ fetch_follows l.clients (drop l.i l.steps)
