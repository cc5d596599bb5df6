use Rattle.std.proofs.Common.{◌≡◌, [], arith, replicate, rules}
use Rattle.dml_core.specs.Gather.{jobs_sent}
use Rattle.dml_core.proofs.CountLemmas.{none_fetched, none_sent_by}
use Rattle.dml_core.proofs.HandLemmas.{no_hands_held}
use Rattle.dml_core.proofs.OpenLemmas.{none_open}
use Rattle.dml_core.proofs.worlds.World.new.Goals as goal

pub invariant_of-result : goal.invariant_of-result
invariant_of-result c =
    (search rules, search rules, search rules, search rules, search rules, none_fetched c.args.clients c.in-Ok.field-0.sent.items c.new-in-Ok.result.items c.in-Ok.ensures.sent (search rules), search (rules, none_open), search rules, omega (arith, no_hands_held c.args.settings.workers c.in-Ok.field-0.hands.items c.in-Ok.ensures.hands))

pub returns-in-Ok-clause-world : goal.returns-in-Ok-clause-world
returns-in-Ok-clause-world c =
    let sent : jobs_sent c.in-Ok.field-0.sent.items ≡ replicate c.args.clients [] = none_sent_by c.args.clients c.in-Ok.field-0.sent.items c.in-Ok.ensures.sent in
    search rules
