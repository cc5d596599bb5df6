use Rattle.std.proofs.Common.{take}
use Rattle.dml_core.specs.World.{Reaches, World}
use Rattle.dml_core.proofs.worlds.World.take_row.Given as goal

abbrev pub invariant-loop-i : goal.invariant-loop-i
invariant-loop-i l = (first : World) → Reaches first (take l.place l.steps) l.fn.self → Reaches first (take l.i l.steps) l.self
