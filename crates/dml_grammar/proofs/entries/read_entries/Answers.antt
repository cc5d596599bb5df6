use Rattle.std.proofs.lemmas.Result.{err_from_is_err_and}
use Rattle.dml_grammar.proofs.EntryLemmas.{fails_at}
use Rattle.dml_grammar.proofs.entries.read_entries.Goals as goal

pub returns-in_err-read_word-in-Some-clause-err : goal.returns-in_err-read_word-in-Some-clause-err
returns-in_err-read_word-in-Some-clause-err c =
    let p = err_from_is_err_and c.from_residual.result c.from_residual.ensures.1 in
    rw (p.1, p.2) (fails_at c.in_err-read_word-in-Some.field-0.0 c.args.entries.now c.loop-slot.slot-index _ c.in-Some.word c.loop-slot-test.true
    c.in-Some.is c.in_err-read_word-in-Some.ensures.err c.loop-slot.invariant.faults)
