use Rattle.dml_segments.proofs.PieceLemmas.{has_in, has_out, piece_bytes}
use Rattle.dml_segments.proofs.laws.law_of_segments.Goals as goal

pub returns-clause-present : goal.returns-clause-present
returns-clause-present c = λ pieces k address order below inside. has_in pieces order k address below inside

pub returns-clause-bytes : goal.returns-clause-bytes
returns-clause-bytes c = piece_bytes

pub returns-clause-absent : goal.returns-clause-absent
returns-clause-absent c = λ pieces address order none. has_out pieces order address none
