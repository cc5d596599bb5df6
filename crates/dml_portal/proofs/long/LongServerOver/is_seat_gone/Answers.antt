use Rattle.std.proofs.Common.{◌++◌}
use Rattle.dml_portal.proofs.WholeLemmas.{unused_whole}
use Rattle.dml_portal.proofs.long.LongServerOver.is_seat_gone.Goals as goal

pub returns-clause-whole : goal.returns-clause-whole
returns-clause-whole g c earlier whole =
    unused_whole c.args.self.now.lanes.items c.is_seat_gone.new.lanes.items (earlier ++ c.args.self.now.log.items) c.is_seat_gone.ensures.lanes c.is_seat_gone.ensures.late whole
