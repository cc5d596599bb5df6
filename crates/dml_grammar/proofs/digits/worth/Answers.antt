use Rattle.std.proofs.Common.{refl, arith}
use Rattle.dml_grammar.specs.declared.digits.TheConstants.{WORTH}
use Rattle.dml_grammar.proofs.DigitLemmas.{worth_in_table}
use Rattle.dml_grammar.proofs.digits.worth.Goals as goal

pub returns : goal.returns
returns c = worth_in_table WORTH c.args.byte (omega arith) refl
