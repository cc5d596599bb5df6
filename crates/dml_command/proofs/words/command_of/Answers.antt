use Rattle.std.proofs.Common.{◌≡◌, ◌∙◌, true, ap, sym, subst, refl, [], map}
use Rattle.clap.specs.Words.{fault_of, is_simple, is_simple_and_free, subcommand_of}
use Rattle.clap.proofs.OnLiterals.{clap_on_literals}
use Rattle.dml_command.specs.Line.{IsAsked, dmljob}
use Rattle.dml_command.proofs.Asked.{asked}
use Rattle.dml_command.proofs.words.command_of.Goals as goal

simple : is_simple dmljob ≡ true
unfolding clap_on_literals
simple = refl

free : is_simple_and_free dmljob ≡ true
unfolding clap_on_literals
free = refl

pub line_of-requires : goal.line_of-requires
line_of-requires c =
    let is = c.in_ok-dmljob_command.ensures in
    let matches = c.in_ok-matches.ensures in
    let words = map (λ word. word.now) c.args.words.now in
    let none : fault_of dmljob words ≡ [] = sym (ap (λ a. fault_of a words) is) ∙ matches.kinds (ap is_simple_and_free is ∙ free) in
    let rows = (matches.matches (ap is_simple is ∙ simple)).1 ∙ ap (λ a. subcommand_of a words) is in
    subst IsAsked (sym rows) (asked words none)

pub returns-clause-refused : goal.returns-clause-refused
returns-clause-refused c =
    let is = c.in_ok-dmljob_command.ensures in
    let words = map (λ word. word.now) c.args.words.now in
    sym (ap (λ a. fault_of a words) is) ∙ c.in_ok-matches.ensures.kinds (ap is_simple_and_free is ∙ free)
