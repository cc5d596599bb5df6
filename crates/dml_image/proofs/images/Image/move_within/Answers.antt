use Rattle.dml_image.proofs.MoveLemmas.{kept_after_move}
use Rattle.dml_image.proofs.images.Image.move_within.Goals as goal

pub invariant_of-self : goal.invariant_of-self
invariant_of-self c =
    kept_after_move _ _ _ c.args.source _ _ c.self.view_is c.self.invariant c.requires.source c.requires.target c.move_within.ensures

pub returns-clause-memory : goal.returns-clause-memory
returns-clause-memory c = invariant_of-self c
