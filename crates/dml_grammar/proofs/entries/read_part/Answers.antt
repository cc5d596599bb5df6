use Rattle.std.proofs.Common.{◌≡◌, ◌∙◌, ap}
use Rattle.dml_grammar.specs.declared.table.Part.TheVariants.{One}
use Rattle.dml_grammar.specs.declared.table.Slot.TheVariants.{Number}
use Rattle.dml_grammar.proofs.NumberLineLemmas.{number_taken}
use Rattle.dml_grammar.proofs.entries.read_part.Goals as goal

pub returns-2-clause-some : goal.returns-2-clause-some
returns-2-clause-some c =
    let slot : c.in-One-Number.field-0 ≡ Number c.in-One-Number.largest = rw c.in-One-Number.is at c.in-One-Number.field-0-is in
    let part : c.args.part.now ≡ One (Number c.in-One-Number.largest) = c.in-One-Number.is ∙ ap One slot in
    number_taken c.args.part.now c.in-One-Number.largest c.args.line.now c.in-Some.rest.now c.in-Some.number c.at_most-number.result c.is_none.result
    part c.in-Some.ensures c.at_most-number.ensures c.is_none.ensures
