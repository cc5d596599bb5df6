use Rattle.std.proofs.Common.{◌∙◌, ap, arith}
use Rattle.dml_grammar.specs.Number.{at_most, word_number}
use Rattle.dml_grammar.proofs.NumberLemmas.{at_most_again}
use Rattle.dml_grammar.proofs.numbers.bounded_number.Goals as goal

pub returns : goal.returns
returns c =
    c.at_most.ensures ∙ ap (at_most c.args.largest) c.word_number.ensures
    ∙ at_most_again c.args.largest (word_number c.args.word.now) (omega arith)
