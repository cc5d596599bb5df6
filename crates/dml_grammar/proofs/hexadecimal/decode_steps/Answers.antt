use Rattle.std.proofs.Common.{◌*◌, ◌∙◌, sym, arith}
use Rattle.std.proofs.lemmas.Simd.{length-chunk, length-put_chunk}
use Rattle.std.specs.Char.{is_digit}
use Rattle.dml_grammar.proofs.LaneLemmas.{part_fails}
use Rattle.dml_grammar.proofs.PairLemmas.{values_are_small, step_more}
use Rattle.dml_grammar.proofs.hexadecimal.decode_steps.Goals as goal

pub returns-then-not-are_digits-clause-fault : goal.returns-then-not-are_digits-clause-fault
returns-then-not-are_digits-clause-fault c = λ _. part_fails (λ x. is_digit x 16) c.args.word.now (16 * c.loop-step.step) 16 (sym c.are_digits.ensures ∙ c.if-not-are_digits.true)

pub values-requires-clause-long : goal.values-requires-clause-long
values-requires-clause-long c = length-chunk (16 * c.loop-step.step) 16 c.args.word.now (omega arith)

pub paired-requires-clause-small : goal.paired-requires-clause-small
paired-requires-clause-small c = λ k. rw c.values.ensures (values_are_small _ (sym c.are_digits.ensures ∙ c.if-not-are_digits.false) k)

pub loop-step-preserved : goal.loop-step-preserved
loop-step-preserved c = record {
  long = length-put_chunk (8 * c.loop-step.step) c.loop-step.bytes c.paired.result ∙ c.loop-step.invariant.long;
  pairs = step_more c.args.word.now c.loop-step.bytes c.paired.result c.loop-step.step (omega arith) (omega arith) c.paired.ensures.long
      (sym c.are_digits.ensures ∙ c.if-not-are_digits.false) (rw c.values.ensures at c.paired.ensures.pairs) c.loop-step.invariant.pairs;
}
