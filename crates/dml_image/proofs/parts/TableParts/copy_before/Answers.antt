use Rattle.std.proofs.Common.{arith}
use Rattle.dml_image.proofs.MoveLemmas.{byte_of_range}
use Rattle.dml_image.proofs.parts.TableParts.copy_before.Goals as goal

pub copy_part-requires-clause-present : goal.copy_part-requires-clause-present
copy_part-requires-clause-present c = (
  byte_of_range c.args.self.now _ _ _ c.requires.from (omega (arith, c.at_once-part.ensures.most)) (omega (arith, c.at_once-part.ensures.some, c.requires.within.0)),
  byte_of_range c.args.self.now _ _ _ c.requires.to (omega (arith, c.at_once-part.ensures.most)) (omega (arith, c.at_once-part.ensures.some, c.requires.within.1)),
)
