use Rattle.std.proofs.Common.{List, ap, arith, refl, subst, ◌∙◌, length}
use Rattle.std.proofs.KnownBytes.{Appends-trans}
use Rattle.std.specs.Io.KnownBytes.{Appends}
use Rattle.dml_types.specs.declared.records.BatchRecord.{BatchRecord}
use Rattle.dml_types.specs.declared.records.Record.{Record}
use Rattle.dml_types.specs.Step.{batch}
use Rattle.dml_types.proofs.BatchLemmas.{length_batch_records}
use Rattle.dml_script.specs.AnswerLaws.{batch_text, job_lines}
use Rattle.dml_script.specs.Output.{batch_line}
use Rattle.dml_script.specs.Watching.{inner_of, AppendsFront}
use Rattle.dml_script.proofs.BytesLemmas.{front_after, then_err, then_ok}
use Rattle.dml_script.proofs.ListLemmas.{front_text}
use Rattle.dml_script.proofs.RunLemmas.{on_error}
use Rattle.dml_script.proofs.lists.answer_batch.Goals as goal

pub write_records-requires-clause-counted : goal.write_records-requires-clause-counted
write_records-requires-clause-counted g c =
    let same = ap length (c.deref.ensures.value ∙ c.in_ok-answer.ensures.records) in
    omega (arith, c.requires.counted, same, length_batch_records c.args.engine.now.image c.args.jobs.now c.args.engine.now.settings.staging)

pub returns-in_err-write_records-clause-front : goal.returns-in_err-write_records-clause-front
returns-in_err-write_records-clause-front g c =
    let done = batch c.args.engine.now.image c.args.jobs.now c.args.engine.now.settings.staging in
    let before = g.W.Write.contents (inner_of c.args.writer.now) in
    let now = g.W.Write.contents (inner_of c.write_records.new.writer) in
    let same = c.deref.ensures.value ∙ c.in_ok-answer.ensures.records in
    on_error _ _
    (front_text before now (job_lines c.args.number done.2) (batch_line done.1) (batch_text c.args.number done) refl
    (subst (λ (records : List Record). AppendsFront before now (job_lines c.args.number records)) same c.in_err-write_records.ensures.front))

pub returns-clause-ok : goal.returns-clause-ok
returns-clause-ok g c =
    let done = batch c.args.engine.now.image c.args.jobs.now c.args.engine.now.settings.staging in
    let before = g.W.Write.contents (inner_of c.args.writer.now) in
    let between = g.W.Write.contents (inner_of c.write_records.new.writer) in
    let now = g.W.Write.contents (inner_of c.write_batch.new.writer) in
    let same = c.deref.ensures.value ∙ c.in_ok-answer.ensures.records in
    let records = subst (λ (records : List Record). Appends before between (job_lines c.args.number records)) same c.in_ok-write_records.ensures.ok in
    then_ok _ _ _
    (λ wrote. Appends-trans before between now (job_lines c.args.number done.2) (batch_line done.1) records
    (subst (λ (answer : BatchRecord). Appends between now (batch_line answer)) c.in_ok-answer.ensures.answer wrote))
    c.write_batch.ensures.ok

pub returns-clause-front : goal.returns-clause-front
returns-clause-front g c =
    let done = batch c.args.engine.now.image c.args.jobs.now c.args.engine.now.settings.staging in
    let before = g.W.Write.contents (inner_of c.args.writer.now) in
    let between = g.W.Write.contents (inner_of c.write_records.new.writer) in
    let now = g.W.Write.contents (inner_of c.write_batch.new.writer) in
    let same = c.deref.ensures.value ∙ c.in_ok-answer.ensures.records in
    let records = subst (λ (records : List Record). Appends before between (job_lines c.args.number records)) same c.in_ok-write_records.ensures.ok in
    then_err _ _ _
    (λ wrote. front_after before between now (job_lines c.args.number done.2) (batch_line done.1) records
    (subst (λ (answer : BatchRecord). AppendsFront between now (batch_line answer)) c.in_ok-answer.ensures.answer wrote))
    c.write_batch.ensures.front
