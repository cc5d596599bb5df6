-- What a contract sees of an engine.
use Rattle.std.specs.Prelude.{Bool}
use Rattle.dml_types.specs.declared.limits.Settings.{Settings}
use Rattle.dml_types.specs.Memory.{Memory}

pub record State : Type 0 where
  pub image : Memory
  pub settings : Settings
  -- whether its gate was given by `with_gate`, and so sees all work
  pub watched : Bool
