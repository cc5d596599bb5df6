use Rattle.std.proofs.Common.{◌≡◌, take}
use Rattle.dml_levels.specs.Cells.{all_starts}
use Rattle.dml_levels.proofs.starts.Starts.of.Given as goal

abbrev pub invariant-loop-job : goal.invariant-loop-job
invariant-loop-job l = l.starts ≡ all_starts (take l.job-index l.jobs)
