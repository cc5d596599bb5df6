-- A handle and the parts of a box own what a box of an engine owns.
use mir.Syntax.{impl, tnil, dnil}
use Rattle.dml_c.proofs.Steps.{◌≡◌, [], refl, Slot, plain, Bx}
use Rattle.std.specs.Prelude.{Option, None, Some, IsSome}
use Rattle.std.specs.contracts.alloc.Global as heap
use Rattle.std.specs.contracts.impls.GlobalAllocator.TheImpl.{ghosts}
use Rattle.std.proofs.alloc.Global.TheLaws as heap_laws
use Rattle.dml_c.specs.State.{State}
use Rattle.dml_c.specs.contracts.engines.Engine as engine
use Rattle.dml_c.specs.contracts.handles.Handle as handle
use Rattle.dml_c.specs.contracts.parts.Parts as parts
use Rattle.dml_c.proofs.engines.Engine.TheLaws as engine_laws

abbrev pub E : Bx
E = record {
  row = engine.the_row;
  laws = engine_laws.the_row_laws;
  al = record { row = heap.the_row; laws = heap_laws.the_row_laws; g = ghosts; d = impl [] tnil dnil; drops = impl [] tnil dnil };
}

abbrev pub of_parts : Slot 0
of_parts = plain (λ _. parts.the_row engine.the_row heap.the_row ghosts)

abbrev pub of_handle : Slot 0
of_handle = plain (λ _. handle.the_row)

-- the engine of a handle that has one
pub held_state : (state : Option State) → IsSome state → (held : State) × (state ≡ Some held)
held_state None some = absurd (cc)
held_state (Some held) some = (held, refl)
