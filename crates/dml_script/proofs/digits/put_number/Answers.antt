use Rattle.std.proofs.Common.{◌++◌, ◌∙◌, ◌/◌, ◌%◌, ap, append_assoc, arith, drop, sym}
use Rattle.std.specs.Fmt.{decimal}
use Rattle.dml_script.proofs.DigitLemmas.{length_digits, next_length, next_pair}
use Rattle.dml_script.specs.Lines.{pair_text}
use Rattle.dml_script.proofs.digits.put_number.Goals as goal

pub put_pair-at-requires-clause-room : goal.put_pair-at-requires-clause-room
put_pair-at-requires-clause-room c =
    let left = c.loop-left.left in
    omega (
      arith,
      c.loop-left.invariant.places,
      c.requires.room,
      (length_digits c.args.number c.ranges.number.fits).1,
      next_length left c.loop-left-test.true c.loop-left.auto.left-fits.fits,
    )

pub loop-left-preserved : goal.loop-left-preserved
loop-left-preserved c =
    let left = c.loop-left.left in
    let fits = c.loop-left.auto.left-fits.fits in
    record {
      within = omega (arith, c.put_pair-at.ensures.place, c.loop-left.invariant.within);
      places = omega (arith, c.put_pair-at.ensures.place, c.loop-left.invariant.places, next_length left c.loop-left-test.true fits);
      written =
          ap (λ text. decimal (left / 100) ++ text) c.put_pair-at.ensures.written
          ∙ sym (append_assoc (decimal (left / 100)) (pair_text (left % 100)) (drop c.loop-left.at c.loop-left.buffer))
          ∙ ap (λ text. text ++ drop c.loop-left.at c.loop-left.buffer) (sym (next_pair left c.loop-left-test.true fits)) ∙ c.loop-left.invariant.written;
    }

pub put_last-requires-clause-room : goal.put_last-requires-clause-room
put_last-requires-clause-room c = omega (arith, c.loop-left.invariant.places, c.requires.room, (length_digits c.args.number c.ranges.number.fits).1)

pub returns-clause-most : goal.returns-clause-most
returns-clause-most c = omega (arith, c.put_last.ensures.place, c.loop-left.invariant.places, (length_digits c.args.number c.ranges.number.fits).1)
