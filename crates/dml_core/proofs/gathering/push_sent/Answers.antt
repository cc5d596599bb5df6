use Rattle.std.proofs.Common.{◌<◌, List, [], ◌∷◌, ◌++◌, length, rules, ap}
use Rattle.dml_core.specs.Types.{Job}
use Rattle.dml_core.specs.Gather.{Counted}
use Rattle.dml_core.proofs.CountLemmas.{counts_kept, jobs_turned}
use Rattle.dml_core.proofs.gathering.push_sent.Goals as goal

pub returns-in-Ok-clause-counts : goal.returns-in-Ok-clause-counts
returns-in-Ok-clause-counts c =
    counts_kept c.args.sent.now.items c.args.client c.index_mut.result.now c.push.new.self c.index_mut.ensures.value (ap (λ (own : Counted). own.count) c.in-Ok.ensures.ok)

pub returns-in-Ok-clause-more : goal.returns-in-Ok-clause-more
returns-in-Ok-clause-more c = λ taken.
    let below : c.args.client < length c.args.sent.now.items = search rules in
    jobs_turned (λ (list : List Job). list ++ c.args.job ∷ []) c.args.sent.now.items c.args.client c.index_mut.result.now c.push.new.self below c.index_mut.ensures.value (ap (λ (own : Counted). own.jobs) c.in-Ok.ensures.ok)
