use Rattle.std.proofs.Common.{arith}
use Rattle.dml_image.specs.Kept.{loan_memory}
use Rattle.dml_image.proofs.MoveLemmas.{range_part}
use Rattle.dml_image.proofs.parts.LentParts.copy_behind.Goals as goal

pub copy_part-requires-clause-from : goal.copy_part-requires-clause-from
copy_part-requires-clause-from c =
    range_part (loan_memory c.args.self.now) c.args.from c.args.most c.args.from _ c.requires.from (omega arith) (omega (arith, c.at_once-part.ensures.most))

pub copy_part-requires-clause-to : goal.copy_part-requires-clause-to
copy_part-requires-clause-to c =
    range_part (loan_memory c.args.self.now) c.args.to c.args.most c.args.to _ c.requires.to (omega arith) (omega (arith, c.at_once-part.ensures.most))
