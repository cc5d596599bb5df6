use Rattle.std.proofs.Common.{◌≡◌, ◌∙◌, ℕ, ap, sym, subst, codes, List, Some}
use Rattle.std.specs.Borrow.{Bor}
use Rattle.std.specs.Option.{option_map}
use Rattle.clap.specs.Words.{first_of, found_of, rows_of, subcommand_rows_of}
use Rattle.clap.proofs.WalkLemmas.{first_value-rows}
use Rattle.dml_command.specs.Line.{IsAsked, IsLine}
use Rattle.dml_command.specs.declared.words.Line.TheVariants.{Decode}
use Rattle.dml_command.proofs.Found.{asked_decode, both_parts, text_found}
use Rattle.dml_command.proofs.words.line_of.Goals as goal

pub unwrap-requires : goal.unwrap-requires
unwrap-requires c =
    let name = c.in-Some.name.now in
    let rows = rows_of (found_of c.in-Some.found.now) in
    let is : subcommand_rows_of c.args.matches.now ≡ Some (name, rows) = both_parts _ _ _ _ c.in-Some.ensures.name c.in-Some.ensures.rows in
    let decode = asked_decode name rows (subst IsAsked is c.requires) (sym c.eq.ensures ∙ c.if-eq.false) in
    sym (text_found c.get_str.result (first_of (codes "HEX") rows) (c.get_str.ensures ∙ first_value-rows (found_of c.in-Some.found.now) (codes "HEX")))
    ∙ decode.1

pub returns-in-Some-2 : goal.returns-in-Some-2
returns-in-Some-2 c =
    let name = c.in-Some.name.now in
    let rows = rows_of (found_of c.in-Some.found.now) in
    let is : subcommand_rows_of c.args.matches.now ≡ Some (name, rows) = both_parts _ _ _ _ c.in-Some.ensures.name c.in-Some.ensures.rows in
    let decode = asked_decode name rows (subst IsAsked is c.requires) (sym c.eq.ensures ∙ c.if-eq.false) in
    let hex : first_of (codes "HEX") rows ≡ Some c.unwrap.result.now = sym (c.get_str.ensures ∙ first_value-rows (found_of c.in-Some.found.now) (codes "HEX"))
    ∙ ap (option_map (λ (s : Bor (List ℕ)). s.now)) c.unwrap.ensures in
    subst (λ found. IsLine found (Decode c.unwrap.result)) (sym is) (decode.0, hex)
