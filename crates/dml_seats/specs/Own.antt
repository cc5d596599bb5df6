-- What contracts see of a server and of seats that a type names.
use Rattle.std.specs.Prelude.{ℕ, List}
use Rattle.dml_types.specs.Memory.{Memory}
use Rattle.dml_engine.specs.State.{State}
use Rattle.dml_portal.specs.LongServers as long
use Rattle.dml_types.specs.declared.limits.Settings.{Settings}
use Rattle.dml_portal.specs.declared.lanes.Lane.{Lane}
use Rattle.dml_portal.specs.declared.logs.LogEntry.{LogEntry}
use Rattle.dml_portal.specs.declared.long.LongServerOver.{LongServerOver}
use Rattle.dml_portal.specs.declared.seats.Done.{Done}
use Rattle.dml_portal.specs.declared.seats.Seat.{Seat}
use Rattle.dml_seats.specs.declared.seats.OwnDone.{OwnDone}
use Rattle.dml_seats.specs.declared.seats.OwnSeat.{OwnSeat}
use Rattle.dml_seats.specs.declared.servers.OwnServerOver.{OwnServerOver}

-- the seat, and the one that was finished
abbrev pub seat_in : {B : Type 0} {berths : _} → OwnSeat B berths → Seat
seat_in own = own.seat

abbrev pub done_in : {B : Type 0} {berths : _} → OwnDone B berths → Done
done_in own = own.done

module _ {B G : Type 0} {berths : _} where
  -- the server
  abbrev pub long_of : OwnServerOver B G berths → LongServerOver G
  long_of server = server.long

  -- the seats that were handed in
  abbrev pub dones_of : OwnServerOver B G berths → List Done
  dones_of server = server.dones.items

  -- what contracts see of the server
  abbrev pub engine_of : OwnServerOver B G berths → State
  engine_of server = long.engine_of server.long

  abbrev pub image_of : OwnServerOver B G berths → Memory
  image_of server = long.image_of server.long

  abbrev pub settings_of : OwnServerOver B G berths → Settings
  settings_of server = long.settings_of server.long

  abbrev pub lanes_of : OwnServerOver B G berths → List Lane
  lanes_of server = long.lanes_of server.long

  abbrev pub clients_of : OwnServerOver B G berths → ℕ
  clients_of server = long.clients_of server.long

  abbrev pub log_of : OwnServerOver B G berths → List LogEntry
  log_of server = long.log_of server.long

  abbrev pub log_room_of : OwnServerOver B G berths → ℕ
  log_room_of server = long.log_room_of server.long

  abbrev pub most_of : OwnServerOver B G berths → ℕ
  most_of server = long.most_of server.long
