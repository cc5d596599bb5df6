use Rattle.std.proofs.Common.{sym, ◌∙◌, ap, arith}
use Rattle.dml_types.specs.Memory.{has_all}
use Rattle.dml_image.specs.Kept.{kept_by}
use Rattle.dml_image.proofs.MoveLemmas.{all_three, kept_twice}
use Rattle.dml_image.proofs.images.Image.copy_twice_in_page.Goals as goal

pub invariant_of-self : goal.invariant_of-self
invariant_of-self c =
    kept_twice _ _ c.args.source c.args.first c.args.second c.args.len c.copy_twice_in_page.result c.self.invariant (omega (arith, c.min.ensures, c.min-most.ensures, c.rest_of_page.ensures, c.rest_of_page-2.ensures, c.rest_of_page-3.ensures, c.if-most-bytes.false)) (omega (arith, c.min.ensures, c.min-most.ensures, c.rest_of_page.ensures, c.rest_of_page-2.ensures, c.rest_of_page-3.ensures, c.if-most-bytes.false)) (omega (arith, c.min.ensures, c.min-most.ensures, c.rest_of_page.ensures, c.rest_of_page-2.ensures, c.rest_of_page-3.ensures, c.if-most-bytes.false)) c.copy_twice_in_page.ensures.present c.copy_twice_in_page.ensures.copied c.copy_twice_in_page.ensures.kept

pub returns-clause-source : goal.returns-clause-source
returns-clause-source c done =
    ap (λ m. has_all m c.args.source c.args.len) (sym c.self.view_is)
    ∙ (all_three (kept_by c.self.inside.pages) c.args.source c.args.first c.args.second c.args.len (omega (arith, c.min.ensures, c.min-most.ensures, c.rest_of_page.ensures, c.rest_of_page-2.ensures, c.rest_of_page-3.ensures, c.if-most-bytes.false)) (omega (arith, c.min.ensures, c.min-most.ensures, c.rest_of_page.ensures, c.rest_of_page-2.ensures, c.rest_of_page-3.ensures, c.if-most-bytes.false)) (omega (arith, c.min.ensures, c.min-most.ensures, c.rest_of_page.ensures, c.rest_of_page-2.ensures, c.rest_of_page-3.ensures, c.if-most-bytes.false)) (sym done ∙ c.copy_twice_in_page.ensures.present)).0

pub returns-clause-first : goal.returns-clause-first
returns-clause-first c done =
    ap (λ m. has_all m c.args.first c.args.len) (sym c.self.view_is)
    ∙ (all_three (kept_by c.self.inside.pages) c.args.source c.args.first c.args.second c.args.len (omega (arith, c.min.ensures, c.min-most.ensures, c.rest_of_page.ensures, c.rest_of_page-2.ensures, c.rest_of_page-3.ensures, c.if-most-bytes.false)) (omega (arith, c.min.ensures, c.min-most.ensures, c.rest_of_page.ensures, c.rest_of_page-2.ensures, c.rest_of_page-3.ensures, c.if-most-bytes.false)) (omega (arith, c.min.ensures, c.min-most.ensures, c.rest_of_page.ensures, c.rest_of_page-2.ensures, c.rest_of_page-3.ensures, c.if-most-bytes.false)) (sym done ∙ c.copy_twice_in_page.ensures.present)).1

pub returns-clause-second : goal.returns-clause-second
returns-clause-second c done =
    ap (λ m. has_all m c.args.second c.args.len) (sym c.self.view_is)
    ∙ (all_three (kept_by c.self.inside.pages) c.args.source c.args.first c.args.second c.args.len (omega (arith, c.min.ensures, c.min-most.ensures, c.rest_of_page.ensures, c.rest_of_page-2.ensures, c.rest_of_page-3.ensures, c.if-most-bytes.false)) (omega (arith, c.min.ensures, c.min-most.ensures, c.rest_of_page.ensures, c.rest_of_page-2.ensures, c.rest_of_page-3.ensures, c.if-most-bytes.false)) (omega (arith, c.min.ensures, c.min-most.ensures, c.rest_of_page.ensures, c.rest_of_page-2.ensures, c.rest_of_page-3.ensures, c.if-most-bytes.false)) (sym done ∙ c.copy_twice_in_page.ensures.present)).2

pub returns-clause-memory : goal.returns-clause-memory
returns-clause-memory c = invariant_of-self c
