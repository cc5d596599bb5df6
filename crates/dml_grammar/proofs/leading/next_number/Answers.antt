use Rattle.std.proofs.Common.{arith, rules}
use Rattle.dml_grammar.proofs.LeadingLemmas.{begins_behind}
use Rattle.dml_grammar.proofs.leading.next_number.Goals as goal

pub returns : goal.returns
returns c =
    rw (c.split_at-2.ensures.back, c.split_at.ensures.back)
    (begins_behind c.args.line.now c.leading_digits-number.result.1 c.leading_digits-number.result.0 (search rules) (search rules)
    (rw c.split_at.ensures.back at c.leading_digits-number.ensures.within) (omega arith) c.leading_digits-number.ensures.few
    (rw c.split_at.ensures.back at c.leading_digits-number.ensures.digits) (rw c.split_at.ensures.back at c.leading_digits-number.ensures.number)
    (rw c.split_at.ensures.back at (c.ends_at.ensures c.if-not-ends_at.false)))
