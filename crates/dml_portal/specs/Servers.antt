-- What contracts see of a server.
use Rattle.std.specs.Prelude.{ℕ, List, length}
use Rattle.dml_types.specs.Memory.{Memory}
use Rattle.dml_engine.specs.State.{State}
use Rattle.dml_portal.specs.Types.{LogEntry, Settings}
use Rattle.dml_portal.specs.declared.lanes.Lane.{Lane}
use Rattle.dml_portal.specs.declared.servers.ServerOver.{ServerOver}

module _ {G : Type 0} where
  abbrev pub engine_of : ServerOver G → State
  engine_of server = server.engine

  -- its engine's image and settings
  abbrev pub image_of : ServerOver G → Memory
  image_of server = server.engine.image

  abbrev pub settings_of : ServerOver G → Settings
  settings_of server = server.engine.settings

  -- its ends of the clients' rings, and how many clients there are
  abbrev pub lanes_of : ServerOver G → List Lane
  lanes_of server = server.lanes.items

  abbrev pub clients_of : ServerOver G → ℕ
  clients_of server = length server.lanes.items

  -- the entries of its log
  abbrev pub log_of : ServerOver G → List LogEntry
  log_of server = server.log.items
