use Rattle.std.proofs.Common.{arith}
use Rattle.dml_image.specs.Kept.{loan_memory}
use Rattle.dml_image.proofs.MoveLemmas.{range_part}
use Rattle.dml_image.proofs.parts.LentParts.copy_before.Goals as goal

pub copy_part-requires-clause-from : goal.copy_part-requires-clause-from
copy_part-requires-clause-from c =
    range_part (loan_memory c.args.self.now) _ _ _ _ c.requires.from (omega (arith, c.at_once-part.ensures.most)) (omega (arith, c.at_once-part.ensures.most, c.requires.within.0))

pub copy_part-requires-clause-to : goal.copy_part-requires-clause-to
copy_part-requires-clause-to c =
    range_part (loan_memory c.args.self.now) _ _ _ _ c.requires.to (omega (arith, c.at_once-part.ensures.most)) (omega (arith, c.at_once-part.ensures.most, c.requires.within.1))
