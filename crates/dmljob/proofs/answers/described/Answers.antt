use Rattle.std.proofs.Common.{ℕ, List, ◌∙◌, subst}
use Rattle.dml_script.specs.Watching.{Writes}
use Rattle.dmljob.proofs.answers.described.Goals as goal

pub returns-in-Ok-clause-written : goal.returns-in-Ok-clause-written
returns-in-Ok-clause-written g c =
    subst (λ (text : List ℕ). Writes g.W.Write.contents c.args.writer.now c.write_answer.new.writer text)
    (c.as_bytes.ensures.value ∙ c.in_ok-text.ensures) c.in-Ok.ensures.written
