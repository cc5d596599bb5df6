-- Where a list of steps is not taken to its end.
use Rattle.std.specs.Prelude.{◌≡◌, ◌<◌, Bool, true, false, IfSome, List, Some, length, slice_get, take}
use Rattle.dml_core.specs.declared.errors.StepFault.{StepFault}
use Rattle.dml_core.specs.declared.errors.StepFault.TheVariants.{NotAllowed, NoMemory}
use Rattle.dml_core.specs.Types.{Step, Take}
use Rattle.dml_core.specs.World.{World, Reaches, is_allowed, run}

-- whether a step makes lists longer
abbrev pub may_grow : Step → Bool
may_grow (Take worker) = false
may_grow s = true

-- at the first step that is not allowed, or at an allowed one for which there is no memory, with the world
-- before it
abbrev pub StopsAt : World → List Step → World → StepFault → Type 0
StopsAt w steps stopped (NotAllowed i) =
    (i < length steps) × Reaches w (take i steps) stopped
    × IfSome (slice_get steps i) (λ s. is_allowed stopped s ≡ false)
    × (run w steps ≡ (stopped, Some i))
StopsAt w steps stopped (NoMemory i) =
    (i < length steps) × Reaches w (take i steps) stopped
    × IfSome (slice_get steps i) (λ s. (is_allowed stopped s ≡ true) × (may_grow s ≡ true))
