-- The record of a job by how its scan ended, as the code makes it.
use Rattle.std.proofs.Common.{◌≡◌, ◌∙◌, ap, ap₂}
use Rattle.dml_types.specs.declared.findings.Found.{Found}
use Rattle.dml_types.specs.declared.jobs.Job.{Job}
use Rattle.dml_types.specs.declared.operations.Op.{Op}
use Rattle.dml_types.specs.declared.operations.Direction.{Direction}
use Rattle.dml_types.specs.declared.records.Record.{Record}
use Rattle.dml_types.specs.Memory.{Memory}
use Rattle.dml_types.specs.Bytewise.{operation_direction}
use Rattle.dml_types.specs.Chunk.{scan_done, scan_found, scan_size}
use Rattle.dml_effect.specs.Joined.{scanned_record}
use Rattle.dml_effect.proofs.WholeLemmas.{scanned_count}

pub answer_at : (memory : Memory) (job given : Job) (op : Op) (direction : Direction) (found : Found) (answer : Record) → given ≡ job → direction ≡ operation_direction op job → found ≡ scan_found op memory job 0 (scan_size op job)
    → answer ≡ scanned_record op given direction found → answer ≡ scanned_record op job (operation_direction op job) (scan_found op memory job 0 (scan_size op job))
answer_at memory job given op direction found answer same way is told =
    told ∙ (ap₂ (λ (j : Job) (d : Direction). scanned_record op j d found) same way ∙ ap (scanned_record op job (operation_direction op job)) is)

pub count_at : (memory : Memory) (job given : Job) (op : Op) (direction : Direction) (found : Found) (answer : Record) → given ≡ job → direction ≡ operation_direction op job → found ≡ scan_found op memory job 0 (scan_size op job)
    → answer ≡ scanned_record op given direction found → answer.completed ≡ scan_done op memory job 0 (scan_size op job)
count_at memory job given op direction found answer same way is told =
    ap (λ (r : Record). r.completed) (answer_at memory job given op direction found answer same way is told) ∙ scanned_count op memory job (operation_direction op job)
