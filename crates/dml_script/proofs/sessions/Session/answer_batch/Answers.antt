use Rattle.std.proofs.Common.{ap, ◌∙◌, ◌+◌, sym, refl, length}
use Rattle.dml_types.specs.Step.{batch}
use Rattle.dml_script.specs.AnswerLaws.{batch_text}
use Rattle.dml_script.specs.Run.{answer_of, lines_from}
use Rattle.dml_script.proofs.BytesLemmas.{written_front}
use Rattle.dml_script.proofs.ListLemmas.{batch_gathered, batch_then, fewer_than_batch, front_text, next_lines, reached, same_reached, whole_batch_come, whole_batch_text, written_text}
use Rattle.dml_script.proofs.RunLemmas.{on_error}
use Rattle.dml_script.proofs.sessions.Session.answer_batch.Goals as goal

pub returns-in_err-answer_batch-clause-front : goal.returns-in_err-answer_batch-clause-front
returns-in_err-answer_batch-clause-front g c =
    let staging = c.self.inside.engine.settings.staging in
    let memory = c.self.inside.engine.image in
    let number = c.self.inside.jobs in
    let jobs = c.deref.result.now in
    let before = c.args.self.now in
    let gathered =
    batch_gathered staging number memory before _ _ jobs c.args.lines.now c.gather.new.lines c.in_ok-_end._end c.self.view_is c.requires.lines
    (c.reserve.ensures.items ∙ c.clear.ensures.items) c.in_ok-_end.ensures.lines c.deref.ensures.value (λ job. c.deref.ensures.len ∙ c.in_ok-_end.ensures.all job) in
    let later = reached staging (batch memory jobs staging).0 (number + length jobs) in
    on_error _ _
    (front_text _ _ (batch_text number (batch memory jobs staging)) (answer_of later c.gather.new.lines) _
    (whole_batch_text staging number memory jobs before later c.args.lines.now c.gather.new.lines c.self.view_is refl gathered) c.in_err-answer_batch.ensures.front)

pub returns-in_err-next_line-clause-front : goal.returns-in_err-next_line-clause-front
returns-in_err-next_line-clause-front g c =
    let staging = c.self.inside.engine.settings.staging in
    let memory = c.self.inside.engine.image in
    let number = c.self.inside.jobs in
    let jobs = c.deref.result.now in
    let before = c.args.self.now in
    let gathered =
    batch_gathered staging number memory before _ _ jobs c.args.lines.now c.gather.new.lines c.in_ok-_end._end c.self.view_is c.requires.lines
    (c.reserve.ensures.items ∙ c.clear.ensures.items) c.in_ok-_end.ensures.lines c.deref.ensures.value (λ job. c.deref.ensures.len ∙ c.in_ok-_end.ensures.all job) in
    let later = reached staging (batch memory jobs staging).0 (number + length jobs) in
    on_error _ _
    (written_front _ _ _ _
    (written_text _ _ (batch_text number (batch memory jobs staging)) (answer_of later c.gather.new.lines) _
    (whole_batch_text staging number memory jobs before later c.args.lines.now c.gather.new.lines c.self.view_is refl gathered) c.in_ok-answer_batch.ensures.ok))

pub returns-clause-lines : goal.returns-clause-lines
returns-clause-lines g c =
    let staging = c.self.inside.engine.settings.staging in
    let memory = c.self.inside.engine.image in
    let number = c.self.inside.jobs in
    let jobs = c.deref.result.now in
    let before = c.args.self.now in
    let gathered =
    batch_gathered staging number memory before _ _ jobs c.args.lines.now c.gather.new.lines c.in_ok-_end._end c.self.view_is c.requires.lines
    (c.reserve.ensures.items ∙ c.clear.ensures.items) c.in_ok-_end.ensures.lines c.deref.ensures.value (λ job. c.deref.ensures.len ∙ c.in_ok-_end.ensures.all job) in
    let rest = lines_from c.in_ok-next_line.field-0 c.next_line.new.self in
    let is = batch_then jobs c.args.lines.now c.gather.new.lines rest gathered (next_lines c.in_ok-next_line.field-0 _ _ c.in_ok-next_line.ensures.line) in
    let now = reached c.answer_batch.new.engine.settings.staging c.answer_batch.new.engine.image (number + c.len.result) in
    let later = same_reached _ staging _ (batch memory jobs staging).0 _ (number + length jobs) (ap (λ settings. settings.staging) c.answer_batch.ensures.settings)
    c.in_ok-answer_batch.ensures.image (ap (λ n. number + n) (c.len.ensures ∙ sym c.deref.ensures.len)) in
    whole_batch_come staging number memory jobs before now c.args.lines.now rest c.self.view_is later is c.requires.lines

pub returns-clause-fewer : goal.returns-clause-fewer
returns-clause-fewer g c =
    let staging = c.self.inside.engine.settings.staging in
    let memory = c.self.inside.engine.image in
    let number = c.self.inside.jobs in
    let jobs = c.deref.result.now in
    let before = c.args.self.now in
    let gathered =
    batch_gathered staging number memory before _ _ jobs c.args.lines.now c.gather.new.lines c.in_ok-_end._end c.self.view_is c.requires.lines
    (c.reserve.ensures.items ∙ c.clear.ensures.items) c.in_ok-_end.ensures.lines c.deref.ensures.value (λ job. c.deref.ensures.len ∙ c.in_ok-_end.ensures.all job) in
    let rest = lines_from c.in_ok-next_line.field-0 c.next_line.new.self in
    let is = batch_then jobs c.args.lines.now c.gather.new.lines rest gathered (next_lines c.in_ok-next_line.field-0 _ _ c.in_ok-next_line.ensures.line) in
    fewer_than_batch jobs c.args.lines.now rest is

pub returns-clause-written : goal.returns-clause-written
returns-clause-written g c =
    let staging = c.self.inside.engine.settings.staging in
    let memory = c.self.inside.engine.image in
    let number = c.self.inside.jobs in
    let jobs = c.deref.result.now in
    let before = c.args.self.now in
    let gathered =
    batch_gathered staging number memory before _ _ jobs c.args.lines.now c.gather.new.lines c.in_ok-_end._end c.self.view_is c.requires.lines
    (c.reserve.ensures.items ∙ c.clear.ensures.items) c.in_ok-_end.ensures.lines c.deref.ensures.value (λ job. c.deref.ensures.len ∙ c.in_ok-_end.ensures.all job) in
    let rest = lines_from c.in_ok-next_line.field-0 c.next_line.new.self in
    let is = batch_then jobs c.args.lines.now c.gather.new.lines rest gathered (next_lines c.in_ok-next_line.field-0 _ _ c.in_ok-next_line.ensures.line) in
    let now = reached c.answer_batch.new.engine.settings.staging c.answer_batch.new.engine.image (number + c.len.result) in
    let later = same_reached _ staging _ (batch memory jobs staging).0 _ (number + length jobs) (ap (λ settings. settings.staging) c.answer_batch.ensures.settings)
    c.in_ok-answer_batch.ensures.image (ap (λ n. number + n) (c.len.ensures ∙ sym c.deref.ensures.len)) in
    written_text _ _ (batch_text number (batch memory jobs staging)) (answer_of now rest) _
    (whole_batch_text staging number memory jobs before now c.args.lines.now rest c.self.view_is later is) c.in_ok-answer_batch.ensures.ok
