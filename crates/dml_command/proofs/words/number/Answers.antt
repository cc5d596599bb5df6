use Rattle.std.proofs.Common.{◌≡◌, ◌∙◌, ℕ, sym, subst, Option, true}
use Rattle.std.specs.Option.{is_some}
use Rattle.std.specs.Str.Parse.{ExplainsUnsignedError, HasUnsignedDigitsIfOk, ParsesUnsigned}
use Rattle.clap.specs.Words.{found_of, rows_of}
use Rattle.dml_command.specs.Line.{option_in}
use Rattle.dml_command.proofs.Numbers.{number_found}
use Rattle.dml_command.proofs.words.number.Goals as goal

pub unwrap-requires : goal.unwrap-requires
unwrap-requires c =
    let is : c.get_one.result ≡ option_in (rows_of (found_of c.args.found.now)) c.args.name.now =
    number_found (λ bs r. ParsesUnsigned 32 10 bs r × ExplainsUnsignedError 10 bs r × HasUnsignedDigitsIfOk bs r) (λ t r gives. gives.0)
    (found_of c.args.found.now) c.args.name.now c.get_one.result c.get_one.ensures.none c.get_one.ensures.value in
    subst (λ (o : Option ℕ). is_some o ≡ true) (sym is) c.requires

pub returns : goal.returns
returns c =
    let is : c.get_one.result ≡ option_in (rows_of (found_of c.args.found.now)) c.args.name.now =
    number_found (λ bs r. ParsesUnsigned 32 10 bs r × ExplainsUnsignedError 10 bs r × HasUnsignedDigitsIfOk bs r) (λ t r gives. gives.0)
    (found_of c.args.found.now) c.args.name.now c.get_one.result c.get_one.ensures.none c.get_one.ensures.value in
    sym is ∙ c.unwrap.ensures
