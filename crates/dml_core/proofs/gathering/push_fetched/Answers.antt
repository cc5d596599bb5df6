use Rattle.std.proofs.Common.{arith}
use Rattle.dml_core.specs.Gather.{counts_of}
use Rattle.dml_core.proofs.CountLemmas.{part_small}
use Rattle.dml_core.proofs.gathering.push_fetched.Goals as goal

pub count_one-requires : goal.count_one-requires
count_one-requires c =
    part_small (counts_of c.args.sent.now.items) c.args.fetched.now.items c.args.client c.requires.parts (omega (arith, c.in-Ok.ensures.len, c.in-Ok.ensures.upper_bound))
