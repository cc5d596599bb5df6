use Rattle.std.proofs.Common.{◌≡◌, drop, fold, map}
use Rattle.dml_engine.specs.Lists.{opened}
use Rattle.dml_engine.specs.Loads.{load_of, with_job}
use Rattle.dml_engine.proofs.loads.Load.of_list.Given as goal

abbrev pub invariant-loop-job : goal.invariant-loop-job
invariant-loop-job l =
    fold (with_job l.settings.chunk) l.load (map (opened l.fences l.settings.staging) (drop l.job-index l.jobs))
    ≡ load_of l.settings.chunk (map (opened l.fences l.settings.staging) l.jobs)
