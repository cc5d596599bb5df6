use Rattle.std.proofs.Common.{ap}
use Rattle.std.proofs.Math.Seq.{map-set_same}
use Rattle.dml_portal.specs.Whole.{late_of, room_by}
use Rattle.dml_portal.proofs.looking.is_seat_gone.Goals as goal

pub returns-clause-late : goal.returns-clause-late
returns-clause-late c = map-set_same late_of c.args.lanes.now.items c.args.client _ c.index_mut.result.now (ap late_of c.index_mut.ensures.value)

pub returns-clause-late_room : goal.returns-clause-late_room
returns-clause-late_room c = map-set_same room_by c.args.lanes.now.items c.args.client _ c.index_mut.result.now (ap room_by c.index_mut.ensures.value)
