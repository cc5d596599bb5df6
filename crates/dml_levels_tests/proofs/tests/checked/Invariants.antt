use Rattle.std.proofs.Common.{◌≤◌, All}
use Rattle.dml_types.specs.Refusal.{need}
use Rattle.dml_levels_tests.proofs.tests.checked.Given as goal

abbrev pub invariant-loop-job : goal.invariant-loop-job
invariant-loop-job l = All (λ job. need job ≤ l.staging) l.list.items
