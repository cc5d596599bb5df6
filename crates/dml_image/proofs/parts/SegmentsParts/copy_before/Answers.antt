use Rattle.std.proofs.Common.{arith}
use Rattle.dml_image.proofs.MoveLemmas.{byte_of_range}
use Rattle.dml_image.proofs.parts.SegmentsParts.copy_before.Goals as goal

pub copy_before-requires-clause-present : goal.copy_before-requires-clause-present
copy_before-requires-clause-present c = (
  byte_of_range c.args.self.now _ _ _ c.requires.from (omega (arith, c.requires.some)) (omega (arith, c.requires.some, c.requires.within.0)),
  byte_of_range c.args.self.now _ _ _ c.requires.to (omega (arith, c.requires.some)) (omega (arith, c.requires.some, c.requires.within.1)),
)
