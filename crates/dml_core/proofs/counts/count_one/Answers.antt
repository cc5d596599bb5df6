use Rattle.std.proofs.Common.{◌+◌, ◌<◌, length, rules, ap}
use Rattle.dml_core.specs.Gather.{Counted}
use Rattle.dml_core.proofs.CountLemmas.{counts_turned, jobs_kept}
use Rattle.dml_core.proofs.counts.count_one.Goals as goal

pub returns-then-client-len-clause-jobs : goal.returns-then-client-len-clause-jobs
returns-then-client-len-clause-jobs c =
    jobs_kept c.args.sent.now.items c.args.client c.index_mut.result.now c.count_one.new.self c.index_mut.ensures.value (ap (λ (own : Counted). own.jobs) c.count_one.ensures)

pub returns-then-client-len-clause-counts : goal.returns-then-client-len-clause-counts
returns-then-client-len-clause-counts c =
    let below : c.args.client < length c.args.sent.now.items = search rules in
    counts_turned (λ n. n + 1) c.args.sent.now.items c.args.client c.index_mut.result.now c.count_one.new.self below c.index_mut.ensures.value (ap (λ (own : Counted). own.count) c.count_one.ensures)
