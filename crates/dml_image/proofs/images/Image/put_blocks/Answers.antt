use Rattle.dml_segments.proofs.BlockLemmas.{kept_after_blocks}
use Rattle.dml_image.proofs.images.Image.put_blocks.Goals as goal

pub invariant_of-self : goal.invariant_of-self
invariant_of-self c = kept_after_blocks _ _ _ _ c.self.view_is c.self.invariant c.requires c.put_blocks.ensures

pub returns-clause-memory : goal.returns-clause-memory
returns-clause-memory c = invariant_of-self c
