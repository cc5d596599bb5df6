use Rattle.std.proofs.Common.{◌≡◌, Some, false, refl, sym, ◌∙◌}
use Rattle.std.proofs.lemmas.Result.{err_from_is_err_and}
use Rattle.dml_grammar.specs.Grammar as grammar
use Rattle.dml_grammar.specs.Reads.{entries_seen, slot_faults, values_seen}
use Rattle.dml_grammar.specs.Table.{parts_of}
use Rattle.dml_grammar.specs.Text.{words}
use Rattle.dml_grammar.proofs.LineLemmas.{fails_front, first_of_more, sizes_of_fitted, next_in_range}
use Rattle.dml_grammar.proofs.judge.read_digit_words.Goals as goal

pub returns-in_err-read_entries-clause-err : goal.returns-in_err-read_entries-clause-err
returns-in_err-read_entries-clause-err c =
    let p = err_from_is_err_and c.from_residual.result c.from_residual.ensures.1 in
    let fitted : grammar.fitted (parts_of c.args.word) (words c.args.rest.now) ≡ Some (entries_seen c.as_slice.result.now) =
    cc (c.in-Some.ensures, c.as_slice.ensures.value, c.parts_of.ensures.parts) in
    rw (p.1, p.2, fitted) (fails_front c.in_err-read_entries.field-0.0 (slot_faults c.as_slice.result.now) _ c.in_err-read_entries.ensures.err)

pub is_out_of_range-requires : goal.is_out_of_range-requires
is_out_of_range-requires c =
    let fitted : grammar.fitted (parts_of c.args.word) (words c.args.rest.now) ≡ Some (entries_seen c.as_slice.result.now) =
    cc (c.in-Some.ensures, c.as_slice.ensures.value, c.parts_of.ensures.parts) in
    rw c.in_ok-read_entries.ensures.values (sizes_of_fitted c.args.word (words c.args.rest.now) _ fitted c.in_ok-read_entries.ensures.fine)

pub returns-clause-fine : goal.returns-clause-fine
returns-clause-fine c =
    let fitted : grammar.fitted (parts_of c.args.word) (words c.args.rest.now) ≡ Some (entries_seen c.as_slice.result.now) =
    cc (c.in-Some.ensures, c.as_slice.ensures.value, c.parts_of.ensures.parts) in
    let within : grammar.is_out_of_range c.args.word (grammar.values_of (entries_seen c.as_slice.result.now)) c.args.progress.now ≡ false =
    rw c.in_ok-read_entries.ensures.values at (sym c.is_out_of_range.ensures.value ∙ c.if-is_out_of_range.false) in
    rw fitted (first_of_more (slot_faults c.as_slice.result.now) _ c.in_ok-read_entries.ensures.fine ∙ rw within refl)

pub returns-clause-next : goal.returns-clause-next
returns-clause-next c =
    (next_in_range c.args.word (values_seen c.read_entries.new.values) c.args.progress.now c.requires.image c.requires.others c.requires.room (sym c.is_out_of_range.ensures.value ∙ c.if-is_out_of_range.false))
