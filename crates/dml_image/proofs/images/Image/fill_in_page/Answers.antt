use Rattle.std.proofs.Common.{sym, ◌∙◌, ap, arith}
use Rattle.dml_types.specs.Memory.{has_all}
use Rattle.dml_image.specs.Kept.{kept_by}
use Rattle.dml_image.proofs.MoveLemmas.{kept_after_fill}
use Rattle.dml_segments.proofs.PatternLemmas.{length_pattern_bytes}
use Rattle.dml_image.proofs.RunLemmas.{has_all_of_page}
use Rattle.dml_image.proofs.images.Image.fill_in_page.Goals as goal

pub invariant_of-self : goal.invariant_of-self
invariant_of-self c =
    kept_after_fill _ _ _ c.args.addr c.args.len _ c.fill_in_page.result c.self.view_is c.self.invariant (omega arith) (length_pattern_bytes _ _) c.fill_in_page.ensures.present c.fill_in_page.ensures.filled c.fill_in_page.ensures.kept

pub returns-clause-target : goal.returns-clause-target
returns-clause-target c done =
    ap (λ m. has_all m c.args.addr c.args.len) (sym c.self.view_is)
    ∙ has_all_of_page (kept_by c.self.inside.pages) c.args.addr c.args.len (omega arith) (sym c.fill_in_page.ensures.present ∙ done)

pub returns-clause-memory : goal.returns-clause-memory
returns-clause-memory c = invariant_of-self c
