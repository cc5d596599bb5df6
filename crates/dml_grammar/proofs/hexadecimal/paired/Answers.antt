use Rattle.std.proofs.Common.{◌∙◌, ◌+◌, ◌*◌, ◌%◌, ◌++◌, get_or, arith}
use Rattle.dml_grammar.proofs.PairLemmas.{one_of_eight, pair_of_values}
use Rattle.dml_grammar.proofs.hexadecimal.paired.Goals as goal

pub returns-clause-pairs : goal.returns-clause-pairs
returns-clause-pairs c = λ j low.
    let v = c.args.values in
    one_of_eight (λ j. (get_or (v ++ v) (2 * j) 0 * 16 % 256 + get_or (v ++ v) (2 * j + 1) 0) % 256) j low
    ∙ pair_of_values v (2 * j) (omega (arith, c.requires.long)) c.requires.small
