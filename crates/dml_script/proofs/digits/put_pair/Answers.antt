use Rattle.dml_script.proofs.DigitLemmas.{pair_put}
use Rattle.dml_script.proofs.digits.put_pair.Goals as goal

pub returns-clause-written : goal.returns-clause-written
returns-clause-written c = pair_put c.args.buffer.now c.args.end c.args.number _ _ c.requires.room c.requires.within c.pair_digits-tens.ensures.tens c.pair_digits-tens.ensures.ones
