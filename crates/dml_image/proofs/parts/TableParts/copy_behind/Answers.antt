use Rattle.dml_image.proofs.MoveLemmas.{first_present}
use Rattle.dml_image.proofs.parts.TableParts.copy_behind.Goals as goal

pub copy_part-requires-clause-present : goal.copy_part-requires-clause-present
copy_part-requires-clause-present c = (
  first_present c.args.self.now _ _ c.requires.from c.requires.some,
  first_present c.args.self.now _ _ c.requires.to c.requires.some,
)
