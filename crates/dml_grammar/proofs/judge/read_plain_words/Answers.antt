use Rattle.std.proofs.Common.{Option, [], sym, ap, ◌∙◌, subst, unwrap_or}
use Rattle.dml_grammar.specs.Grammar as grammar
use Rattle.dml_grammar.specs.Reads.{HasSizes}
use Rattle.dml_grammar.specs.Table.{parts_of}
use Rattle.dml_grammar.specs.Text.{words}
use Rattle.dml_grammar.proofs.LineLemmas.{Entries, sizes_of_fitted}
use Rattle.dml_grammar.proofs.NumberLineLemmas.{fault_first, no_fault_found, none_behind, values_are_plain}
use Rattle.dml_grammar.proofs.judge.read_plain_words.Goals as goal

pub returns-in-Some-clause-err : goal.returns-in-Some-clause-err
returns-in-Some-clause-err c =
    fault_first c.args.word (grammar.fitted (parts_of c.args.word) (words c.args.rest.now)) c.args.progress.now c.in-Some.kind
    (rw c.parts_of.ensures.parts at c.in-Some.ensures.fault)

pub is_out_of_range-requires : goal.is_out_of_range-requires
is_out_of_range-requires c =
    let found = no_fault_found (grammar.fitted (parts_of c.args.word) (words c.args.rest.now)) (rw c.parts_of.ensures.parts at c.in_default.ensures.fault) in
    let same = values_are_plain c.args.word (words c.args.rest.now) found.0 c.read_numbers.new.numbers.items c.clear-2.new.self.items c.requires.plain found.1
    (rw c.parts_of.ensures.parts at (c.read_numbers.ensures.numbers c.in_default.is)) c.clear-2.ensures.items in
    subst (HasSizes c.args.word) (sym same) (sizes_of_fitted c.args.word (words c.args.rest.now) found.0 found.1 found.2)

pub returns-clause-fine : goal.returns-clause-fine
returns-clause-fine c =
    let found = no_fault_found (grammar.fitted (parts_of c.args.word) (words c.args.rest.now)) (rw c.parts_of.ensures.parts at c.in_default.ensures.fault) in
    let same = values_are_plain c.args.word (words c.args.rest.now) found.0 c.read_numbers.new.numbers.items c.clear-2.new.self.items c.requires.plain found.1
    (rw c.parts_of.ensures.parts at (c.read_numbers.ensures.numbers c.in_default.is)) c.clear-2.ensures.items in
    let within = ap (λ (v : grammar.Values). grammar.is_out_of_range c.args.word v c.args.progress.now) (sym same)
    ∙ sym c.is_out_of_range.ensures.value ∙ c.if-is_out_of_range.false in
    none_behind c.args.word (grammar.fitted (parts_of c.args.word) (words c.args.rest.now)) found.0 c.args.progress.now found.1 found.2 within

pub returns-clause-line : goal.returns-clause-line
returns-clause-line c =
    let found = no_fault_found (grammar.fitted (parts_of c.args.word) (words c.args.rest.now)) (rw c.parts_of.ensures.parts at c.in_default.ensures.fault) in
    let same = values_are_plain c.args.word (words c.args.rest.now) found.0 c.read_numbers.new.numbers.items c.clear-2.new.self.items c.requires.plain found.1
    (rw c.parts_of.ensures.parts at (c.read_numbers.ensures.numbers c.in_default.is)) c.clear-2.ensures.items in
    ap (λ (o : Option Entries). grammar.Fine (grammar.line_of c.args.word (grammar.values_of (unwrap_or o [])))) found.1
    ∙ ap (λ (v : grammar.Values). grammar.Fine (grammar.line_of c.args.word v)) (sym same)
