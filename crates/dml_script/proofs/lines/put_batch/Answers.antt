use Rattle.std.proofs.Common.{arith}
use Rattle.std.proofs.lemmas.List.{drop_all}
use Rattle.std.specs.Fmt.{decimal}
use Rattle.std.specs.Prelude.{codes}
use Rattle.dml_types.specs.Effect.{code_of}
use Rattle.dml_script.proofs.DigitLemmas.{batch_regrouped}
use Rattle.dml_script.specs.Output.{byte_text}
use Rattle.dml_script.proofs.lines.put_batch.Goals as goal

pub returns-clause-written : goal.returns-clause-written
returns-clause-written c =
    let answer = c.args.answer.now in
    rw (
      c.put_text.ensures.written,
      c.put_byte-at.ensures.written,
      c.code.ensures,
      c.put_text-at-2.ensures.written,
      c.put_number-at.ensures.written,
      c.put_text-at.ensures.written,
      drop_all 160 c.args.line.now (omega arith),
    )
    (batch_regrouped (codes "batch status ") (byte_text (code_of answer.status)) (codes " completed ") (decimal answer.completed) (codes "\n"))
