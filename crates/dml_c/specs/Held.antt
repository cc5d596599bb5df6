-- What a handle owns: the engine in its block, and the right to free that; without an engine nothing.
use Rattle.std.specs.Prelude.{Option, None, Some}
use base.Fml.{Fml, ftrue}
use denote.RawPtr.{Ptr}
use Rattle.std.specs.Box.Ownership.{box_owns}
use Rattle.std.specs.Global.{Global}
use Rattle.std.specs.contracts.impls.GlobalAllocator.TheImpl.{ghosts}
use Rattle.dml_c.specs.contracts.engines.Engine.{the_row}
use Rattle.dml_c.specs.State.{State}

abbrev pub held_by : Global → Ptr → Option State → Fml
held_by alloc at None = ftrue
held_by alloc at (Some state) = box_owns (ghosts.dealloc_token alloc) the_row at state
