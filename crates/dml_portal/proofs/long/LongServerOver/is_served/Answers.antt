use Rattle.std.proofs.Common.{◌++◌}
use Rattle.dml_portal.proofs.LookLemmas.{unused_same}
use Rattle.dml_portal.proofs.WholeLemmas.{settled_behind, unused_whole}
use Rattle.dml_portal.proofs.long.LongServerOver.is_served.Goals as goal

pub returns-clause-settled : goal.returns-clause-settled
returns-clause-settled g c = λ is earlier whole.
    let looked = c.is_drained.ensures in
    settled_behind c.args.self.now.lanes.items c.is_drained.new.lanes.items (earlier ++ c.args.self.now.log.items) c.is_drained.new.done
    looked.lanes looked.late whole looked.seat (looked.drained is)

pub returns-clause-whole : goal.returns-clause-whole
returns-clause-whole g c earlier whole =
    unused_whole c.args.self.now.lanes.items c.is_drained.new.lanes.items (earlier ++ c.args.self.now.log.items) c.is_drained.ensures.lanes c.is_drained.ensures.late whole

pub returns-clause-same : goal.returns-clause-same
returns-clause-same g c = unused_same c.args.self.now.lanes.items c.is_drained.new.lanes.items c.is_drained.ensures.lanes
