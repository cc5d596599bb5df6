use Rattle.std.proofs.Common.{sym, ◌∙◌, ap}
use Rattle.dml_types.specs.declared.records.Record.{Record}
use Rattle.dml_types.specs.Memory.{Memory}
use Rattle.dml_types.proofs.StepLemmas.{step_refused}
use Rattle.dml_effect.specs.Pages.{all_present}
use Rattle.dml_c.proofs.MoveLemmas.{answer_within, bytes_within, held_by_pages}
use Rattle.dml_c.proofs.lending.submit_move.Goals as goal

-- a refused move
pub returns-in-Err-clause-content : goal.returns-in-Err-clause-content
returns-in-Err-clause-content c =
    sym (ap (λ (done : Memory × Record). done.0.bytes) (step_refused (all_present c.args.bytes.now) c.args.job.now c.args.staging c.in-Err.status c.in-Err.ensures.refused))

pub returns-in-Err-clause-answer : goal.returns-in-Err-clause-answer
returns-in-Err-clause-answer c =
    c.refused.ensures
    ∙ sym (ap (λ (done : Memory × Record). done.1) (step_refused (all_present c.args.bytes.now) c.args.job.now c.args.staging c.in-Err.status c.in-Err.ensures.refused))

-- one within the pages
pub returns-then-lies_within-2-clause-content : goal.returns-then-lies_within-2-clause-content
returns-then-lies_within-2-clause-content c =
    bytes_within c.args.bytes.now c.move_within.new.bytes c.args.job.now c.in-Ok.checked c.args.staging c.in-Ok.ensures.same c.in-Ok.ensures.accepted
    c.move_within.ensures.length
    (c.move_within.ensures.content (all_present c.args.bytes.now) (held_by_pages c.args.bytes.now c.requires.pages.whole))

pub returns-then-lies_within-2-clause-answer : goal.returns-then-lies_within-2-clause-answer
returns-then-lies_within-2-clause-answer c =
    answer_within c.args.bytes.now c.move_within.new.bytes c.args.job.now c.in-Ok.checked c.args.staging c.in-Ok.ensures.same c.in-Ok.ensures.accepted
    c.move_within.result
    (c.move_within.ensures.answer (all_present c.args.bytes.now) (held_by_pages c.args.bytes.now c.requires.pages.whole))
