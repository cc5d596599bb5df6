-- Jobs that are carried out as one chunk: only a create and an apply stage bytes, and all else goes straight.
use Rattle.std.specs.Prelude.{◌≡◌, ◌⊎◌, ℕ, ◌<◌, ◌≤◌, None, Some}
use Rattle.dml_types.specs.declared.findings.Found.{Found}
use Rattle.dml_types.specs.declared.jobs.Job.{Job}
use Rattle.dml_types.specs.declared.operations.Op.{Op}
use Rattle.dml_types.specs.declared.operations.Op.TheVariants.{ApplyDelta, Compare, ComparePattern, CreateDelta}
use Rattle.dml_types.specs.Chunk.{scan_found, scan_size}
use Rattle.dml_types.specs.Job.{op_of}
use Rattle.dml_types.specs.Memory.{Memory}
use Rattle.dml_types.specs.Refusal.{need, refusal}

abbrev pub IsDelta : Job → Type 0
IsDelta job = (op_of job ≡ Some CreateDelta) ⊎ (op_of job ≡ Some ApplyDelta)

-- a create or an apply that is not refused, and has bytes to stage: they are within the limit then
abbrev pub TakesStaging : Job → ℕ → Type 0
TakesStaging job staging =
    IsDelta job × (refusal job staging ≡ None) × (0 < need job) × (need job ≤ staging)

-- a compare of two ranges, or of one with a pattern
abbrev pub IsCompare : Job → Type 0
IsCompare job = (op_of job ≡ Some Compare) ⊎ (op_of job ≡ Some ComparePattern)

-- how the scan of a whole job ends
abbrev pub IsWholeFound : Memory → Job → Found → Type 0
IsWholeFound memory job found =
    (op : Op) → op_of job ≡ Some op → found ≡ scan_found op memory job 0 (scan_size op job)
