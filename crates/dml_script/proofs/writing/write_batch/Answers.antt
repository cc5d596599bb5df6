use Rattle.std.proofs.Common.{ℕ, List, OnErr, ◌∙◌, subst}
use Rattle.dml_script.proofs.BytesLemmas.{behind}
use Rattle.dml_script.specs.Watching.{WritesFront}
use Rattle.dml_script.proofs.writing.write_batch.Goals as goal

pub returns-clause-front : goal.returns-clause-front
returns-clause-front g c =
    subst (λ (text : List ℕ). OnErr c.write_all.result (WritesFront g.W.Write.contents c.args.writer.now c.write_all.new.writer text))
    (behind c.put_batch-start.new.line c.put_batch-start.result 160 c.put_batch-start.array_long ∙ c.put_batch-start.ensures.written) c.write_all.ensures.front
