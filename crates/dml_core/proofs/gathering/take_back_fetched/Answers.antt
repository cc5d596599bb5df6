use Rattle.dml_core.specs.Gather.{counts_of}
use Rattle.dml_core.proofs.CountLemmas.{parts_less}
use Rattle.dml_core.proofs.gathering.take_back_fetched.Goals as goal

pub returns-in-Some-clause-parts : goal.returns-in-Some-clause-parts
returns-in-Some-clause-parts c =
    parts_less (counts_of c.args.sent.now.items) (counts_of c.uncount_one.new.sent.items) c.args.fetched.now.items c.pop.new.self.items c.in-Some.entry c.requires.parts c.uncount_one.ensures.counts c.in-Some.ensures.items
