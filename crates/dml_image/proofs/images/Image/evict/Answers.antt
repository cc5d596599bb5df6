use Rattle.std.proofs.Common.{rules}
use Rattle.dml_image.proofs.WriteLemmas.{kept_after_evict}
use Rattle.dml_image.proofs.images.Image.evict.Goals as goal

pub invariant_of-self : goal.invariant_of-self
invariant_of-self c = kept_after_evict _ _ _ _ c.self.invariant (search rules) c.evict.ensures.gone c.evict.ensures.kept

pub returns-then-page-pages-clause-memory : goal.returns-then-page-pages-clause-memory
returns-then-page-pages-clause-memory c = invariant_of-self c
