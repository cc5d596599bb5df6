-- A compare of a whole job, which changes nothing.
use Rattle.std.proofs.Common.{◌≡◌, Some, [], refl, sym, ◌∙◌, ap, ⊎_elim}
use Rattle.dml_types.specs.declared.findings.Found.{Found}
use Rattle.dml_types.specs.declared.jobs.Job.{Job}
use Rattle.dml_types.specs.declared.operations.Direction.TheVariants.{Forward}
use Rattle.dml_types.specs.declared.operations.Op.{Op}
use Rattle.dml_types.specs.declared.operations.Op.TheVariants.{ApplyDelta, Compare, ComparePattern, CreateDelta}
use Rattle.dml_types.specs.declared.records.Record.{Record}
use Rattle.dml_types.specs.Effect.{Effect}
use Rattle.dml_types.specs.Job.{op_of}
use Rattle.dml_types.specs.Memory.{Memory, puts_made}
use Rattle.dml_types.specs.Step.{operation_effect}
use Rattle.dml_desc.specs.Checked.{checked_step, IsChecked}
use Rattle.dml_effect.specs.Chunks.{GoesByOffsets}
use Rattle.dml_effect.specs.Joined.{compared_record}
use Rattle.dml_effect.specs.Straight.{IsCompare, IsWholeFound}
use Rattle.dml_effect.proofs.ScannedLemmas.{answer_at}
use Rattle.dml_effect.proofs.WholeLemmas.{effect_of_checked, puts_compared, record_of_step}

by_offsets : (job : Job) → IsCompare job → GoesByOffsets job
by_offsets job one = (
  λ (e : op_of job ≡ Some CreateDelta). ⊎_elim (λ is. absurd (cc)) (λ is. absurd (cc)) one,
  λ (e : op_of job ≡ Some ApplyDelta). ⊎_elim (λ is. absurd (cc)) (λ is. absurd (cc)) one,
)

pub compare_answer : (memory : Memory) (job given : Job) (found : Found) (answer : Record) → given ≡ job → IsChecked job → IsCompare job → IsWholeFound memory job found → answer ≡ compared_record given found → answer ≡ (checked_step memory job).1
compare_answer memory job given found answer same checked one told is =
    ⊎_elim
    (λ operation.
    answer_at memory job given Compare Forward found answer same refl (told Compare operation) is
    ∙ record_of_step memory job Compare operation (by_offsets job one) checked)
    (λ operation.
    answer_at memory job given ComparePattern Forward found answer same refl (told ComparePattern operation) is
    ∙ record_of_step memory job ComparePattern operation (by_offsets job one) checked) one

pub compare_keeps : (memory : Memory) (job : Job) → IsChecked job → IsCompare job → memory ≡ (checked_step memory job).0
compare_keeps memory job checked one =
    ⊎_elim (λ operation. kept Compare operation (puts_compared Compare memory job)) (λ operation. kept ComparePattern operation (puts_compared ComparePattern memory job)) one
  where
    kept : (op : Op) → op_of job ≡ Some op → (operation_effect op memory job).puts ≡ [] → memory ≡ (checked_step memory job).0
    kept op operation none =
        ap (puts_made memory) (sym none) ∙ ap (λ (e : Effect). puts_made memory e.puts) (effect_of_checked memory job op operation checked)
