use Rattle.std.proofs.Common.{◌+◌, ◌*◌, ◌∙◌, arith, inl, inr}
use Rattle.std.proofs.lemmas.List.{length-set}
use Rattle.dml_grammar.proofs.PairLemmas.{decoded_by_pairs, digit_fails, not_decoded, pair_more}
use Rattle.dml_grammar.proofs.hexadecimal.decode_into.Goals as goal

pub returns-then-not-decode_steps : goal.returns-then-not-decode_steps
returns-then-not-decode_steps c = not_decoded c.args.word.now (c.decode_steps.ensures.fault c.if-not-decode_steps.true)

pub returns-then-high-gt15 : goal.returns-then-high-gt15
returns-then-high-gt15 c =
    elim c.then-high-gt15.either [
      | inl high ↦ not_decoded c.args.word.now (digit_fails c.args.word.now (2 * c.loop-i.i) (omega arith) (rw c.worth-high.ensures at high))
      | inr low ↦ not_decoded c.args.word.now (digit_fails c.args.word.now (2 * c.loop-i.i + 1) (omega arith) (rw c.worth-low.ensures at low.1))
    ]

pub loop-i-preserved : goal.loop-i-preserved
loop-i-preserved c = record {
  long = length-set c.loop-i.bytes c.loop-i.i (c.worth-high.result * 16 + c.worth-low.result) ∙ c.loop-i.invariant.long;
  pairs = rw (c.worth-high.ensures, c.worth-low.ensures) (pair_more c.args.word.now c.loop-i.bytes c.loop-i.i (omega arith) (omega arith)
      (rw c.worth-high.ensures at c.if-high-gt15.false) (rw c.worth-low.ensures at c.if-low-gt15.false) c.loop-i.invariant.pairs);
}

pub returns : goal.returns
returns c = decoded_by_pairs c.args.word.now c.loop-i.bytes c.loop-i.i (omega arith) (omega arith) c.loop-i.invariant.pairs
