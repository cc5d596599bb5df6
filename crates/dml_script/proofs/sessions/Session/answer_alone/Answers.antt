use Rattle.std.proofs.Common.{ℕ, List, ◌∙◌, refl, subst}
use Rattle.dml_script.specs.Run.{added_text, after_line, session_answer, item_of}
use Rattle.dml_script.specs.Watching.{inner_of, AppendsFront}
use Rattle.dml_script.proofs.ListLemmas.{front_text}
use Rattle.dml_script.proofs.RunLemmas.{on_error}
use Rattle.dml_script.proofs.sessions.Session.answer_alone.Goals as goal

pub returns-in_err-write_all-clause-front : goal.returns-in_err-write_all-clause-front
returns-in_err-write_all-clause-front g c =
    let staging = c.args.self.now.staging in
    let session = c.args.self.now.session in
    let before = g.W.Write.contents (inner_of c.args.writer.now) in
    let now = g.W.Write.contents (inner_of c.write_all.new.writer) in
    on_error _ _
    (front_text before now (added_text (item_of staging session c.args.line.now)) (session_answer staging (after_line staging session c.args.line.now) c.args.lines.now) _ refl
    (subst (λ (text : List ℕ). AppendsFront before now text) (c.deref.ensures.value ∙ c.in_ok-text.ensures.text) c.in_err-write_all.ensures.front))
