use Rattle.std.proofs.Common.{rules}
use Rattle.dml_image.proofs.WriteLemmas.{kept_after_bring}
use Rattle.dml_image.proofs.images.Image.bring.Goals as goal

pub invariant_of-self : goal.invariant_of-self
invariant_of-self c =
    kept_after_bring _ _ _ _ _ c.self.invariant (search rules) (search rules) c.bring.ensures.ok c.bring.ensures.err

pub returns-clause-memory : goal.returns-clause-memory
returns-clause-memory c = invariant_of-self c
