use Rattle.std.proofs.Common.{◌<◌, ◌≤◌, ◌*◌, ◌+◌, ◌^◌, length, get_or, arith}
use Rattle.dml_grammar.specs.Digits.{worth}
use Rattle.dml_grammar.proofs.DigitLemmas.{few_below, number_more}
use Rattle.dml_grammar.proofs.leading.leading_hexadecimal.Goals as goal

pub overflow_mul-number : goal.overflow_mul-number
overflow_mul-number c =
    let most : c.min-most.result ≤ 16 = omega (arith, c.min-most.ensures) in
    let inside : c.min-most.result ≤ length c.args.text.now = omega (arith, c.min-most.ensures) in
    let below = few_below 16 16 c.args.text.now c.loop-n.n (omega arith) (omega arith) (omega arith) (omega arith) c.loop-n.invariant.digits in
    let small : c.loop-n.number * 16 + 16 ≤ 2 ^ 64 = rw c.loop-n.invariant.number below in
    record { fits = omega (arith, small) }

pub overflow_add-number : goal.overflow_add-number
overflow_add-number c =
    let most : c.min-most.result ≤ 16 = omega (arith, c.min-most.ensures) in
    let inside : c.min-most.result ≤ length c.args.text.now = omega (arith, c.min-most.ensures) in
    let below = few_below 16 16 c.args.text.now c.loop-n.n (omega arith) (omega arith) (omega arith) (omega arith) c.loop-n.invariant.digits in
    let small : c.loop-n.number * 16 + 16 ≤ 2 ^ 64 = rw c.loop-n.invariant.number below in
    record { fits = omega (arith, small) }

pub loop-n-preserved : goal.loop-n-preserved
loop-n-preserved c =
    let inside : c.min-most.result ≤ length c.args.text.now = omega (arith, c.min-most.ensures) in
    let low : worth (get_or c.args.text.now c.loop-n.n 0) < 16 = rw c.worth-value.ensures at c.if-value-ge16.false in
    let more = number_more 16 c.args.text.now c.loop-n.n c.loop-n.number (omega arith) (omega arith) low c.loop-n.invariant.digits c.loop-n.invariant.number in
    record { within = omega arith; digits = more.0; number = rw (c.from.ensures, c.worth-value.ensures) more.1 }
