use Rattle.std.proofs.Common.{◌++◌, ◌∙◌, ap, arith, drop, length, sym}
use Rattle.dml_script.proofs.DigitLemmas.{digit_put, last_digit, last_pair}
use Rattle.dml_script.proofs.digits.put_last.Goals as goal

pub put_pair-requires-clause-room : goal.put_pair-requires-clause-room
put_pair-requires-clause-room c = omega (arith, ap length (last_pair c.args.number c.if-number-ge10.true c.requires.pair), c.requires.room)

pub returns-then-number-ge10-clause-place : goal.returns-then-number-ge10-clause-place
returns-then-number-ge10-clause-place c = omega (arith, ap length (last_pair c.args.number c.if-number-ge10.true c.requires.pair), c.put_pair.ensures.place)

pub returns-then-number-ge10-clause-written : goal.returns-then-number-ge10-clause-written
returns-then-number-ge10-clause-written c =
    c.put_pair.ensures.written ∙ ap (λ text. text ++ drop c.args.end c.args.buffer.now) (sym (last_pair c.args.number c.if-number-ge10.true c.requires.pair))

pub overflow_sub-buffer : goal.overflow_sub-buffer
overflow_sub-buffer c = omega (arith, ap length (last_digit c.args.number c.if-number-ge10.false), c.requires.room)

pub bounds-buffer-end : goal.bounds-buffer-end
bounds-buffer-end c = omega (arith, ap length (last_digit c.args.number c.if-number-ge10.false), c.requires.room, c.requires.within)

pub overflow_sub-result : goal.overflow_sub-result
overflow_sub-result c = omega (arith, ap length (last_digit c.args.number c.if-number-ge10.false), c.requires.room)

pub returns-clause-place : goal.returns-clause-place
returns-clause-place c = omega (arith, ap length (last_digit c.args.number c.if-number-ge10.false), c.requires.room)

pub returns-clause-written : goal.returns-clause-written
returns-clause-written c =
    digit_put c.args.buffer.now c.args.end c.args.number c.if-number-ge10.false
    (omega (arith, ap length (last_digit c.args.number c.if-number-ge10.false), c.requires.room)) c.requires.within
