use Rattle.dml_desc.proofs.CheckedLemmas.{checked_within_limits}
use Rattle.dml_desc.proofs.laws.law_of_checked_jobs.Goals as goal

pub returns : goal.returns
returns c = checked_within_limits
