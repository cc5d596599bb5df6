use Rattle.std.proofs.Common.{arith}
use Rattle.dml_grammar.proofs.LeadingLemmas.{begins_with_prefix}
use Rattle.dml_grammar.proofs.leading.next_hexadecimal.Goals as goal

pub returns : goal.returns
returns c =
    rw (c.split_at-2.ensures.back, c.split_at.ensures.back)
    (begins_with_prefix c.args.line.now c.leading_hexadecimal-number.result.1 c.leading_hexadecimal-number.result.0 c.requires.long c.requires.space c.requires.zero c.requires.x
    (rw c.split_at.ensures.back at c.leading_hexadecimal-number.ensures.within) (omega arith) c.leading_hexadecimal-number.ensures.few
    (rw c.split_at.ensures.back at c.leading_hexadecimal-number.ensures.digits) (rw c.split_at.ensures.back at c.leading_hexadecimal-number.ensures.number)
    (rw c.split_at.ensures.back at (c.ends_at.ensures c.if-not-ends_at.false)))
