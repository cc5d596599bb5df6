-- A reader or writer that keeps whether a call failed, and whether what was written is flushed.
use Rattle.std.specs.Prelude.{◌≡◌, ℕ, Bool, true, ◌&&◌, ◌++◌, List, length, nat_eq, nat_lt, Option, Result, Ok, Err}
use Rattle.std.specs.Io.KnownBytes.{Appends}
use Rattle.dml_script.specs.declared.watching.Watched.{Watched}

abbrev pub inner_of : {T : Type 0} → Watched T → T
inner_of watched = watched.inner

abbrev pub has_failed : {T : Type 0} → Watched T → Bool
has_failed watched = watched.has_failed

abbrev pub is_flushed : {T : Type 0} → Watched T → Bool
is_flushed watched = watched.is_flushed

-- whether a write took no byte
abbrev pub takes_none : {E : Type 0} → Result ℕ E → Bool
takes_none (Ok n) = nat_eq n 0
takes_none (Err e) = true

-- whether a write failed: it answered an error, or took none of at least one byte
abbrev pub write_fails : {E : Type 0} → List ℕ → Result ℕ E → Bool
write_fails bytes (Ok n) = nat_eq n 0 && nat_lt 0 (length bytes)
write_fails bytes (Err e) = true

-- known bytes grow by a front of some bytes
abbrev pub AppendsFront : Option (List ℕ) → Option (List ℕ) → List ℕ → Type 0
AppendsFront old new bytes =
    (front : List ℕ) × (rest : List ℕ) × (bytes ≡ front ++ rest) × Appends old new front

-- known bytes grow by a front of a whole, of which these are left
abbrev pub IsWritten : Option (List ℕ) → Option (List ℕ) → List ℕ → List ℕ → Type 0
IsWritten old new left whole = (front : List ℕ) × Appends old new front × (front ++ left ≡ whole)

-- these bytes, or a front of them, were written to what is watched, which holds `contents`
abbrev pub Writes : {W : Type 0} → (W → Option (List ℕ)) → Watched W → Watched W → List ℕ → Type 0
Writes contents old new bytes = Appends (contents (inner_of old)) (contents (inner_of new)) bytes

abbrev pub WritesFront : {W : Type 0} → (W → Option (List ℕ)) → Watched W → Watched W → List ℕ → Type 0
WritesFront contents old new bytes = AppendsFront (contents (inner_of old)) (contents (inner_of new)) bytes

-- all of these bytes was written but for what is left
abbrev pub WritesUpTo : {W : Type 0} → (W → Option (List ℕ)) → Watched W → Watched W → List ℕ → List ℕ → Type 0
WritesUpTo contents old new left whole = IsWritten (contents (inner_of old)) (contents (inner_of new)) left whole
