use Rattle.std.proofs.Common.{◌++◌, get_or}
use Rattle.dml_portal.proofs.WholeLemmas.{settled_behind, unused_whole}
use Rattle.dml_portal.proofs.long.LongServerOver.is_drained.Goals as goal

pub returns-clause-settled : goal.returns-clause-settled
returns-clause-settled g c = λ is earlier whole place done below.
    let looked = c.are_drained.ensures in
    settled_behind c.args.self.now.lanes.items c.are_drained.new.lanes.items (earlier ++ c.args.self.now.log.items) (get_or c.are_drained.new.dones.items place done)
    looked.lanes looked.late whole (looked.seats place done below) (looked.drained is place done below)

pub returns-clause-whole : goal.returns-clause-whole
returns-clause-whole g c earlier whole =
    unused_whole c.args.self.now.lanes.items c.are_drained.new.lanes.items (earlier ++ c.args.self.now.log.items) c.are_drained.ensures.lanes c.are_drained.ensures.late whole
