use Rattle.std.proofs.Common.{rules}
use Rattle.dml_script.proofs.BytesLemmas.{consumed_all}
use Rattle.dml_script.proofs.input.read_all.Goals as goal

pub returns-then-count-eq0-clause-all : goal.returns-then-count-eq0-clause-all
returns-then-count-eq0-clause-all g c =
    consumed_all _ _ _ _ _ _ c.loop-turn.invariant.taken c.in-Ok.ensures.bytes (search rules) (search rules)
