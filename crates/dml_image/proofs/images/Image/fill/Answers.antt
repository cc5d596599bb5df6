use Rattle.dml_segments.proofs.PatternLemmas.{length_pattern_bytes}
use Rattle.dml_image.proofs.WriteLemmas.{kept_after_put}
use Rattle.dml_image.proofs.images.Image.fill.Goals as goal

pub invariant_of-self : goal.invariant_of-self
invariant_of-self c = kept_after_put _ _ _ _ _ c.self.view_is c.self.invariant (rw length_pattern_bytes c.requires) c.fill.ensures

pub returns-clause-memory : goal.returns-clause-memory
returns-clause-memory c = invariant_of-self c
