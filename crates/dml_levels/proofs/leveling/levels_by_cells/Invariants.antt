use Rattle.dml_levels.proofs.RiseLemmas.{AreRisen}
use Rattle.dml_levels.proofs.leveling.levels_by_cells.Given as goal

abbrev pub invariant-loop-job : goal.invariant-loop-job
invariant-loop-job l = AreRisen l.starts l.jobs l.job-index l.levels.items l.heights
