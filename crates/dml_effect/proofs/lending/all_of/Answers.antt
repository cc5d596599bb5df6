use Rattle.std.proofs.Common.{true}
use Rattle.std.proofs.lemmas.List.{take-replicate}
use Rattle.dml_effect.proofs.lending.all_of.Goals as goal

pub returns : goal.returns
returns c = take-replicate c.args.pages 4096 true c.requires
