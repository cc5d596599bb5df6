use Rattle.std.proofs.Common.{sym, ◌∙◌, ap}
use Rattle.dml_types.specs.Memory.{has}
use Rattle.dml_image.specs.Kept.{kept_by}
use Rattle.dml_image.proofs.MoveLemmas.{first_present}
use Rattle.dml_image.proofs.images.Pages.copy_part.Goals as goal

pub copy_part-requires-clause-present : goal.copy_part-requires-clause-present
copy_part-requires-clause-present c = (
  ap (λ pages. has (kept_by pages) c.args.from) (sym c.in-Own.is) ∙ first_present (kept_by c.args.self.now) _ _ c.requires.from c.requires.some,
  ap (λ pages. has (kept_by pages) c.args.to) (sym c.in-Own.is) ∙ first_present (kept_by c.args.self.now) _ _ c.requires.to c.requires.some,
)
