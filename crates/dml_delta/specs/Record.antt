-- A list of whole entries of a delta record, judged one after another.
use Rattle.std.specs.Prelude.{◌≡◌, ℕ, ◌+◌, ◌-◌, ◌/◌, ◌<◌, ◌≤◌, Bool, true, not, ◌&&◌, List, length, if◌then◌else◌, ◌==◌, nat_lt, nat_le}
use Rattle.dml_types.specs.declared.jobs.Job.{Job}
use Rattle.dml_types.specs.Memory.{first, Memory}
use Rattle.dml_types.specs.Delta.{block_number, has_block}

-- the least offset that entry i may have, where entry 0 may have any from `least` on
abbrev pub least_in : ℕ → List ℕ → ℕ → ℕ
least_in least bytes i = if i == 0 then least else block_number bytes (i - 1) + 1

-- whether an offset is allowed: it rises, and it is that of a present block of the destination
abbrev pub is_allowed : Memory → Job → ℕ → ℕ → Bool
is_allowed memory job least offset =
    nat_le least offset && (nat_lt offset (job.size / 8) && has_block memory job.target offset)

-- how many entries come before the first whose offset is not
abbrev pub allowed_in : Memory → Job → ℕ → List ℕ → ℕ
allowed_in memory job least bytes =
    first (length bytes / 10)
    (λ i. not (is_allowed memory job (least_in least bytes i) (block_number bytes i)))

-- whether a block is a present one of the destination, and whether all from one number up to another are
abbrev pub is_block : Memory → Job → ℕ → Bool
is_block memory job b = nat_lt b (job.size / 8) && has_block memory job.target b

abbrev pub AreBlocks : Memory → Job → ℕ → ℕ → Type 0
AreBlocks memory job from to = (b : ℕ) → from ≤ b → b < to → is_block memory job b ≡ true

-- whether the entries from one up to another have offsets that rise from the one before them, below an end
abbrev pub AreRising : List ℕ → ℕ → ℕ → ℕ → Type 0
AreRising bytes from to end =
    (k : ℕ) → from ≤ k → k < to → (block_number bytes (k - 1) < block_number bytes k) × (block_number bytes k < end)
