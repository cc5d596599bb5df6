use Rattle.dml_core.proofs.RoundLemmas.{round_has_run, rounds_have_runs}
use Rattle.dml_core.proofs.laws.law_of_rounds.Goals as goal

pub returns-clause-rounds : goal.returns-clause-rounds
returns-clause-rounds c = rounds_have_runs

pub returns-clause-round : goal.returns-clause-round
returns-clause-round c = round_has_run
