use Rattle.std.proofs.Common.{sym, ◌∙◌, ap, arith}
use Rattle.dml_types.specs.Memory.{has_all}
use Rattle.dml_image.specs.Kept.{kept_by}
use Rattle.dml_image.proofs.MoveLemmas.{both_in_page, kept_in_page}
use Rattle.dml_image.proofs.images.Image.move_in_page.Goals as goal

pub invariant_of-self : goal.invariant_of-self
invariant_of-self c =
    kept_in_page _ _ _ c.args.source c.args.target c.args.len c.copy_in_page.result c.self.view_is c.self.invariant (omega arith) (omega arith) c.copy_in_page.ensures.present c.copy_in_page.ensures.copied c.copy_in_page.ensures.kept

pub returns-clause-source : goal.returns-clause-source
returns-clause-source c done =
    ap (λ m. has_all m c.args.source c.args.len) (sym c.self.view_is)
    ∙ (both_in_page (kept_by c.self.inside.pages) c.args.source c.args.target c.args.len (omega arith) (omega arith) (sym done ∙ c.copy_in_page.ensures.present)).0

pub returns-clause-target : goal.returns-clause-target
returns-clause-target c done =
    ap (λ m. has_all m c.args.target c.args.len) (sym c.self.view_is)
    ∙ (both_in_page (kept_by c.self.inside.pages) c.args.source c.args.target c.args.len (omega arith) (omega arith) (sym done ∙ c.copy_in_page.ensures.present)).1

pub returns-clause-memory : goal.returns-clause-memory
returns-clause-memory c = invariant_of-self c
