use Rattle.dml_types.proofs.MemoryLemmas.{read_written, read_beside, put_comm, put_append, put_nil}
use Rattle.dml_types.proofs.laws.law_of_puts.Goals as goal

pub returns-clause-written : goal.returns-clause-written
returns-clause-written c = read_written

pub returns-clause-beside : goal.returns-clause-beside
returns-clause-beside c = read_beside

pub returns-clause-commute : goal.returns-clause-commute
returns-clause-commute c = put_comm

pub returns-clause-side_by_side : goal.returns-clause-side_by_side
returns-clause-side_by_side c = put_append

pub returns-clause-empty : goal.returns-clause-empty
returns-clause-empty c = put_nil
