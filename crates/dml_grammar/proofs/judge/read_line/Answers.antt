use Rattle.std.proofs.Common.{rules, sym}
use Rattle.dml_grammar.specs.Text.{words}
use Rattle.dml_grammar.proofs.LineLemmas.{misplaced_first}
use Rattle.dml_grammar.proofs.judge.read_line.Goals as goal

pub returns-in-Some-misplaced-clause-err : goal.returns-in-Some-misplaced-clause-err
returns-in-Some-misplaced-clause-err c =
    misplaced_first c.args.text.now c.args.first.now (words c.args.rest.now) c.args.progress.now c.in-Some.word c.in-Some-misplaced.kind
    (search rules) (search rules) (search rules) (sym c.in-Some-misplaced.ensures.kind)
