use Rattle.std.proofs.Common.{◌≡◌, ◌≤◌, ◌*◌, ◌+◌, ◌^◌, ◌∙◌, length, sym, arith, get_or, true}
use Rattle.std.proofs.lemmas.Bool.{lt-ltb}
use Rattle.std.specs.Char.{is_digit}
use Rattle.dml_grammar.proofs.DigitLemmas.{decimal_more, few_below}
use Rattle.dml_grammar.proofs.leading.leading_digits.Goals as goal

pub overflow_mul-number : goal.overflow_mul-number
overflow_mul-number c =
    let most : c.min-most.result ≤ 19 = omega (arith, c.min-most.ensures) in
    let inside : c.min-most.result ≤ length c.args.text.now = omega (arith, c.min-most.ensures) in
    let below = few_below 10 19 c.args.text.now c.loop-n.n (omega arith) (omega arith) (omega arith) (omega arith) c.loop-n.invariant.digits in
    let small : c.loop-n.number * 10 + 10 ≤ 2 ^ 64 = rw c.loop-n.invariant.number below in
    record { fits = omega (arith, small) }

pub overflow_add-number : goal.overflow_add-number
overflow_add-number c =
    let most : c.min-most.result ≤ 19 = omega (arith, c.min-most.ensures) in
    let inside : c.min-most.result ≤ length c.args.text.now = omega (arith, c.min-most.ensures) in
    let below = few_below 10 19 c.args.text.now c.loop-n.n (omega arith) (omega arith) (omega arith) (omega arith) c.loop-n.invariant.digits in
    let small : c.loop-n.number * 10 + 10 ≤ 2 ^ 64 = rw c.loop-n.invariant.number below in
    record { fits = omega (arith, small) }

pub loop-n-preserved : goal.loop-n-preserved
loop-n-preserved c =
    let inside : c.min-most.result ≤ length c.args.text.now = omega (arith, c.min-most.ensures) in
    let digit : is_digit (get_or c.args.text.now c.loop-n.n 0) 10 ≡ true =
    sym c.decimal_worth-value.ensures.digit ∙ lt-ltb c.decimal_worth-value.result 10 c.if-value-ge10.false in
    let more = decimal_more c.args.text.now c.loop-n.n c.loop-n.number c.decimal_worth-value.result (omega arith) digit
    (c.decimal_worth-value.ensures.value c.if-value-ge10.false) c.loop-n.invariant.digits c.loop-n.invariant.number in
    record { within = omega arith; digits = more.0; number = more.1 }
