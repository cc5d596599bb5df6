use Rattle.dml_types.proofs.MoveLemmas.{move_reads_source, move_beside}
use Rattle.dml_types.proofs.laws.law_of_moves.Goals as goal

pub returns-clause-source_as_it_stood : goal.returns-clause-source_as_it_stood
returns-clause-source_as_it_stood c = move_reads_source

pub returns-clause-beside : goal.returns-clause-beside
returns-clause-beside c = move_beside
