use Rattle.std.proofs.Common.{◌≡◌, ◌∙◌, take, drop, Some}
use Rattle.dml_grammar.specs.Digits.{number_of}
use Rattle.dml_grammar.proofs.NumberLemmas.{long_product, long_sum}
use Rattle.dml_grammar.proofs.numbers.long_number.Goals as goal

pub returns-in_err-checked_mul : goal.returns-in_err-checked_mul
returns-in_err-checked_mul c =
    let first : Some c.in_ok-front.front ≡ number_of 10 (take 19 c.args.digits.now) = rw c.split_at.ensures.front at c.in_ok-front.ensures in
    let second : Some c.in_ok-last.last ≡ number_of 10 (drop 19 c.args.digits.now) = rw c.split_at.ensures.back at c.in_ok-last.ensures in
    c.from_residual-in_err-checked_mul.ensures
    ∙ long_product c.args.digits.now c.in_ok-front.front c.in_ok-last.last c.requires first second c.in_err-checked_mul.ensures

pub returns : goal.returns
returns c =
    let first : Some c.in_ok-front.front ≡ number_of 10 (take 19 c.args.digits.now) = rw c.split_at.ensures.front at c.in_ok-front.ensures in
    let second : Some c.in_ok-last.last ≡ number_of 10 (drop 19 c.args.digits.now) = rw c.split_at.ensures.back at c.in_ok-last.ensures in
    long_sum c.args.digits.now c.in_ok-front.front c.in_ok-last.last _ c.checked_add.result c.requires first second c.in_ok-checked_mul.ensures.1
    c.checked_add.ensures
