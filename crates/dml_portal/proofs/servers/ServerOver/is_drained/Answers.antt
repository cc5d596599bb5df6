use Rattle.std.proofs.Common.{get_or}
use Rattle.dml_portal.proofs.LookLemmas.{each_settled}
use Rattle.dml_portal.proofs.servers.ServerOver.is_drained.Goals as goal

pub returns-clause-settled : goal.returns-clause-settled
returns-clause-settled g c = λ is place done below.
    let looked = c.are_drained.ensures in
    each_settled c.args.self.now.lanes.items c.are_drained.new.lanes.items c.args.self.now.log.items (get_or c.are_drained.new.dones.items place done)
    looked.lanes c.args.self.now.popped c.args.self.now.pushed (looked.seats place done below) (looked.drained is place done below)
