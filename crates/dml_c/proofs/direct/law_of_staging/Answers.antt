use Rattle.dml_c.proofs.StagingLemmas.{never_staging}
use Rattle.dml_c.proofs.direct.law_of_staging.Goals as goal

pub returns : goal.returns
returns c = record { enough = never_staging }
