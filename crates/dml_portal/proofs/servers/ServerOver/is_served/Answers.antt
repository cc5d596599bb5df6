use Rattle.dml_portal.proofs.LookLemmas.{each_settled, unused_same}
use Rattle.dml_portal.proofs.servers.ServerOver.is_served.Goals as goal

pub returns-clause-settled : goal.returns-clause-settled
returns-clause-settled g c = λ is.
    let looked = c.is_drained.ensures in
    each_settled c.args.self.now.lanes.items c.is_drained.new.lanes.items c.args.self.now.log.items c.is_drained.new.done
    looked.lanes c.args.self.now.popped c.args.self.now.pushed looked.seat (looked.drained is)

pub returns-clause-same : goal.returns-clause-same
returns-clause-same g c = unused_same c.args.self.now.lanes.items c.is_drained.new.lanes.items c.is_drained.ensures.lanes
