use Rattle.std.proofs.Common.{OnErr, ◌∷◌, subst, sym}
use Rattle.dml_grammar.specs.declared.lines.Line.{Line}
use Rattle.dml_script.specs.Run.{answer_of}
use Rattle.dml_script.specs.Watching.{WritesFront}
use Rattle.dml_script.proofs.sessions.Session.answer_line.Goals as goal

pub returns-in-Job-clause-front : goal.returns-in-Job-clause-front
returns-in-Job-clause-front g c =
    subst
    (λ (line : Line). OnErr c.answer_list.result
    (WritesFront g.W.Write.contents c.args.writer.now c.answer_list.new.writer (answer_of c.args.self.now (line ∷ c.args.lines.now))))
    (sym c.in-Job.is) c.answer_list.ensures.front
