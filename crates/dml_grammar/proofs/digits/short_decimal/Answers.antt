use Rattle.std.proofs.Common.{◌≡◌, ◌≤◌, ◌*◌, ◌+◌, ◌^◌, ◌∙◌, sym, arith, get_or, true}
use Rattle.std.proofs.lemmas.Bool.{lt-ltb}
use Rattle.std.specs.Char.{is_digit}
use Rattle.dml_grammar.proofs.DigitLemmas.{below_power, decimal_more, few_digits}
use Rattle.dml_grammar.proofs.digits.short_decimal.Goals as goal

pub overflow_mul-number : goal.overflow_mul-number
overflow_mul-number c =
    let below = below_power 10 c.args.digits.now c.loop-digit.digit-index (omega arith) c.loop-digit-test.true (few_digits 10 19 c.args.digits.now (omega arith) c.requires (omega arith))
    c.loop-digit.invariant.digits in
    let small : c.loop-digit.number * 10 + 10 ≤ 2 ^ 64 = rw c.loop-digit.invariant.number below in
    record { fits = omega (arith, small) }

pub overflow_add-number : goal.overflow_add-number
overflow_add-number c =
    let below = below_power 10 c.args.digits.now c.loop-digit.digit-index (omega arith) c.loop-digit-test.true (few_digits 10 19 c.args.digits.now (omega arith) c.requires (omega arith))
    c.loop-digit.invariant.digits in
    let small : c.loop-digit.number * 10 + 10 ≤ 2 ^ 64 = rw c.loop-digit.invariant.number below in
    record { fits = omega (arith, small) }

pub loop-digit-preserved : goal.loop-digit-preserved
loop-digit-preserved c =
    let digit : is_digit (get_or c.args.digits.now c.loop-digit.digit-index 0) 10 ≡ true =
    sym c.decimal_worth-value.ensures.digit ∙ lt-ltb c.decimal_worth-value.result 10 c.if-value-ge10.false in
    let more = decimal_more c.args.digits.now c.loop-digit.digit-index c.loop-digit.number c.decimal_worth-value.result c.loop-digit-test.true digit
    (c.decimal_worth-value.ensures.value c.if-value-ge10.false) c.loop-digit.invariant.digits c.loop-digit.invariant.number in
    record { digits = more.0; number = more.1 }
