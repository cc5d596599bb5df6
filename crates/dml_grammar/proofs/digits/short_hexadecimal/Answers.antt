use Rattle.std.proofs.Common.{◌<◌, ◌≤◌, ◌*◌, ◌+◌, ◌^◌, get_or, arith}
use Rattle.dml_grammar.specs.Digits.{worth}
use Rattle.dml_grammar.proofs.DigitLemmas.{below_power, few_digits, number_more}
use Rattle.dml_grammar.proofs.digits.short_hexadecimal.Goals as goal

pub overflow_mul-number : goal.overflow_mul-number
overflow_mul-number c =
    let below = below_power 16 c.args.digits.now c.loop-digit.digit-index (omega arith) c.loop-digit-test.true
    (few_digits 16 16 c.args.digits.now (omega arith) c.requires (omega arith)) c.loop-digit.invariant.digits in
    let small : c.loop-digit.number * 16 + 16 ≤ 2 ^ 64 = rw c.loop-digit.invariant.number below in
    record { fits = omega (arith, small) }

pub overflow_add-number : goal.overflow_add-number
overflow_add-number c =
    let below = below_power 16 c.args.digits.now c.loop-digit.digit-index (omega arith) c.loop-digit-test.true
    (few_digits 16 16 c.args.digits.now (omega arith) c.requires (omega arith)) c.loop-digit.invariant.digits in
    let small : c.loop-digit.number * 16 + 16 ≤ 2 ^ 64 = rw c.loop-digit.invariant.number below in
    record { fits = omega (arith, small) }

pub loop-digit-preserved : goal.loop-digit-preserved
loop-digit-preserved c =
    let low : worth (get_or c.args.digits.now c.loop-digit.digit-index 0) < 16 = rw c.worth-value.ensures at c.if-value-ge16.false in
    let more = number_more 16 c.args.digits.now c.loop-digit.digit-index c.loop-digit.number (omega arith) c.loop-digit-test.true low
    c.loop-digit.invariant.digits c.loop-digit.invariant.number in
    record { digits = more.0; number = rw (c.from.ensures, c.worth-value.ensures) more.1 }
