use Rattle.std.proofs.Common.{append_assoc, arith}
use Rattle.std.proofs.lemmas.List.{drop_all}
use Rattle.dml_script.proofs.lines.put_effects.Goals as goal

pub returns-clause-written : goal.returns-clause-written
returns-clause-written c =
    rw (
      c.put_text.ensures.written,
      c.put_number-at-4.ensures.written,
      c.put_text-at-4.ensures.written,
      c.put_number-at-3.ensures.written,
      c.put_text-at-3.ensures.written,
      c.put_number-at-2.ensures.written,
      c.put_text-at-2.ensures.written,
      c.put_number-at.ensures.written,
      c.put_text-at.ensures.written,
      drop_all 160 c.args.line.now (omega arith),
    )
    (simp append_assoc)
