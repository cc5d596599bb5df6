use Rattle.std.specs.Fmt.{decimal}
use Rattle.std.specs.Prelude.{codes}
use Rattle.dml_types.specs.Effect.{code_of}
use Rattle.dml_script.proofs.DigitLemmas.{regrouped}
use Rattle.dml_script.specs.Lines.{effects_text}
use Rattle.dml_script.specs.Output.{byte_text}
use Rattle.dml_script.proofs.lines.put_record.Goals as goal

pub returns-clause-written : goal.returns-clause-written
returns-clause-written c =
    let answer = c.args.answer.now in
    rw (c.put_text.ensures.written, c.put_number-at.ensures.written, c.put_text-at.ensures.written, c.put_byte-at.ensures.written, c.code.ensures, c.put_effects-end.ensures.written)
    (regrouped (codes "job ") (decimal c.args.number) (codes " status ") (byte_text (code_of answer.status)) (effects_text answer))
