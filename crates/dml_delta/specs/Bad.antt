-- A bad entry of a delta record.
use Rattle.std.specs.Prelude.{ℕ}
use Rattle.dml_types.specs.Effect.{Fault}
use Rattle.dml_delta.specs.declared.applies.BadEntry.{BadEntry}

-- its number and its fault, as the definitions have them
abbrev pub bad_of : BadEntry → ℕ × Fault
bad_of bad = (bad.entry, record { status = bad.status; address = bad.place })
