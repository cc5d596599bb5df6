use Rattle.std.proofs.Common.{◌<◌, length, rules, ap}
use Rattle.dml_core.specs.Gather.{Counted, shorter}
use Rattle.dml_core.proofs.CountLemmas.{counts_kept, jobs_turned}
use Rattle.dml_core.proofs.gathering.take_back_sent.Goals as goal

pub returns-then-client-len-clause-jobs : goal.returns-then-client-len-clause-jobs
returns-then-client-len-clause-jobs c =
    let below : c.args.client < length c.args.sent.now.items = search rules in
    jobs_turned shorter c.args.sent.now.items c.args.client c.index_mut.result.now c.take_back.new.self below c.index_mut.ensures.value (ap (λ (own : Counted). own.jobs) c.take_back.ensures)

pub returns-then-client-len-clause-counts : goal.returns-then-client-len-clause-counts
returns-then-client-len-clause-counts c =
    counts_kept c.args.sent.now.items c.args.client c.index_mut.result.now c.take_back.new.self c.index_mut.ensures.value (ap (λ (own : Counted). own.count) c.take_back.ensures)
