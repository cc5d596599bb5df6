use Rattle.std.proofs.Common.{ℕ, sym, ◌∙◌, ap, arith}
use Rattle.dml_types.specs.declared.jobs.Job.{Job}
use Rattle.dml_effect.specs.Joined.{copied_record}
use Rattle.dml_types.specs.Memory.{Memory, has_all, bytes_at, put}
use Rattle.dml_effect.proofs.StraightLemmas.{twice_answer, twice_image, twice_nothing, twice_reads, twice_writes, twice_writes_second}
use Rattle.dml_effect.proofs.carrying.dualcast_scanned.Goals as goal

pub move_within-requires-clause-source : goal.move_within-requires-clause-source
move_within-requires-clause-source c = twice_reads c.args.image.now c.args.job.now c.job.result.now c.dualcast_found-found.result c.copied_record-answer.result c.job.ensures.job c.job.ensures.checked c.requires.operation c.dualcast_found-found.ensures c.copied_record-answer.ensures

pub move_within-requires-clause-target : goal.move_within-requires-clause-target
move_within-requires-clause-target c = twice_writes c.args.image.now c.args.job.now c.job.result.now c.dualcast_found-found.result c.copied_record-answer.result c.job.ensures.job c.job.ensures.checked c.requires.operation c.dualcast_found-found.ensures c.copied_record-answer.ensures

pub move_within-requires-then-done-gt0-clause-source : goal.move_within-requires-then-done-gt0-clause-source
move_within-requires-then-done-gt0-clause-source c =
    ap (λ (m : Memory). has_all m c.job.result.now.source c.copied_record-answer.result.completed) c.move_within.ensures.bytes ∙ twice_reads c.args.image.now c.args.job.now c.job.result.now c.dualcast_found-found.result c.copied_record-answer.result c.job.ensures.job c.job.ensures.checked c.requires.operation c.dualcast_found-found.ensures c.copied_record-answer.ensures

pub move_within-requires-then-done-gt0-clause-target : goal.move_within-requires-then-done-gt0-clause-target
move_within-requires-then-done-gt0-clause-target c =
    ap (λ (m : Memory). has_all m c.job.result.now.extra c.copied_record-answer.result.completed) c.move_within.ensures.bytes ∙ twice_writes_second c.args.image.now c.args.job.now c.job.result.now c.dualcast_found-found.result c.copied_record-answer.result c.job.ensures.job c.job.ensures.checked c.requires.operation c.dualcast_found-found.ensures c.copied_record-answer.ensures

pub returns-then-done-gt0-clause-image : goal.returns-then-done-gt0-clause-image
returns-then-done-gt0-clause-image c =
    c.move_within-then-done-gt0.ensures.bytes
    ∙ (ap (λ (m : Memory). put m c.job.result.now.extra (bytes_at m c.job.result.now.source c.copied_record-answer.result.completed)) c.move_within.ensures.bytes
    ∙ twice_image c.args.image.now c.args.job.now c.job.result.now c.dualcast_found-found.result c.copied_record-answer.result c.job.ensures.job c.job.ensures.checked c.requires.operation c.dualcast_found-found.ensures c.copied_record-answer.ensures c.pages-pages.ensures.memory.whole (omega arith))

pub returns-then-done-gt0-clause-answer : goal.returns-then-done-gt0-clause-answer
returns-then-done-gt0-clause-answer c =
    ap (λ (n : ℕ). copied_record n 0 c.dualcast_found-found.result) (ap (λ (j : Job). j.size) (sym c.job.ensures.job))
    ∙ (sym c.copied_record-answer.ensures
    ∙ twice_answer c.args.image.now c.args.job.now c.job.result.now c.dualcast_found-found.result c.copied_record-answer.result c.job.ensures.job c.job.ensures.checked c.requires.operation c.dualcast_found-found.ensures c.copied_record-answer.ensures)

pub returns-else-done-gt0-clause-image : goal.returns-else-done-gt0-clause-image
returns-else-done-gt0-clause-image c = twice_nothing c.args.image.now c.args.job.now c.job.result.now c.dualcast_found-found.result c.copied_record-answer.result c.job.ensures.job c.job.ensures.checked c.requires.operation c.dualcast_found-found.ensures c.copied_record-answer.ensures (omega arith)

pub returns-else-done-gt0-clause-answer : goal.returns-else-done-gt0-clause-answer
returns-else-done-gt0-clause-answer c =
    ap (λ (n : ℕ). copied_record n 0 c.dualcast_found-found.result) (ap (λ (j : Job). j.size) (sym c.job.ensures.job))
    ∙ (sym c.copied_record-answer.ensures
    ∙ twice_answer c.args.image.now c.args.job.now c.job.result.now c.dualcast_found-found.result c.copied_record-answer.result c.job.ensures.job c.job.ensures.checked c.requires.operation c.dualcast_found-found.ensures c.copied_record-answer.ensures)
