-- The places of a wave.
use Rattle.std.specs.Prelude.{◌≡◌, ℕ, Bool, true, false, List, [], ◌∷◌, ⊤, filter, map}
use Rattle.std.specs.List.{All}
use Rattle.dml_types.specs.declared.jobs.Job.{Job}
use Rattle.dml_types.specs.declared.operations.Op.{Op}
use Rattle.dml_types.specs.declared.operations.Op.TheVariants.{NoOp}
use Rattle.dml_types.specs.declared.records.Record.{Record}
use Rattle.dml_types.specs.declared.limits.Settings.{Settings}
use Rattle.dml_types.specs.Conflict.{conflict}
use Rattle.dml_types.specs.Job.{unfenced}
use Rattle.dml_types.specs.Memory.{Memory}
use Rattle.dml_desc.specs.Checked.{operation_of}
use Rattle.dml_levels.specs.Laws.{begun, carried}
use Rattle.dml_levels.specs.Waves.{job_at}
use Rattle.dml_order.specs.Order.{run_all}

abbrev pub is_busy : Op → Bool
is_busy NoOp = false
is_busy _ = true

-- those of the places whose job is no no-op
abbrev pub busy : List Job → List ℕ → List ℕ
busy jobs places = filter (λ i. is_busy (operation_of (job_at jobs i))) places

-- no two of the places have jobs that conflict
abbrev pub AreApart : List Job → List ℕ → Type 0
AreApart jobs [] = ⊤
AreApart jobs (i ∷ places) =
    All (λ k. conflict (job_at jobs i) (job_at jobs k) ≡ false) places × AreApart jobs places

-- an image and records become those after the busy jobs of a wave, one after another and without fences
abbrev pub HasRun : Settings → List Job → List ℕ → Memory → List Record → Memory → List Record → Type 0
HasRun settings jobs wave image records image' records' =
    begun image' records'
    ≡ run_all (carried (map unfenced jobs) settings.staging) (begun image records) (busy jobs wave)
