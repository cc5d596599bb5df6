-- What contracts see of a server that stays up.
use Rattle.std.specs.Prelude.{ℕ, List, length, vec_capacity}
use Rattle.dml_types.specs.Memory.{Memory}
use Rattle.dml_engine.specs.State.{State}
use Rattle.dml_portal.specs.Types.{LogEntry, Settings}
use Rattle.dml_portal.specs.declared.lanes.Lane.{Lane}
use Rattle.dml_portal.specs.declared.long.LongServerOver.{LongServerOver}

module _ {G : Type 0} where
  abbrev pub engine_of : LongServerOver G → State
  engine_of server = server.engine

  -- its engine's image and settings
  abbrev pub image_of : LongServerOver G → Memory
  image_of server = server.engine.image

  abbrev pub settings_of : LongServerOver G → Settings
  settings_of server = server.engine.settings

  -- its ends of the clients' rings, and how many clients there are
  abbrev pub lanes_of : LongServerOver G → List Lane
  lanes_of server = server.lanes.items

  abbrev pub clients_of : LongServerOver G → ℕ
  clients_of server = length server.lanes.items

  -- the entries that were not taken off its log
  abbrev pub log_of : LongServerOver G → List LogEntry
  log_of server = server.log.items

  -- for how many entries its log has room
  abbrev pub log_room_of : LongServerOver G → ℕ
  log_room_of server = vec_capacity server.log

  -- the number of records beyond which a client is held back
  abbrev pub most_of : LongServerOver G → ℕ
  most_of server = server.most
