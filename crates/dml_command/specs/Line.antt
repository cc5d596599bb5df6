-- The command line of the program: its commands and options, and what a line of words says.
use Rattle.std.specs.Prelude.{◌≡◌, ◌⊎◌, ◌^◌, ◌&&◌, ℕ, pos, true, List, [], ◌∷◌, Option, Some, None}
use Rattle.std.specs.Prelude.{codes, is_some, length, nat_lt, option_and_then, if◌then◌else◌}
use Rattle.std.specs.Char.{digit_value}
use Rattle.std.specs.List.{list_all}
use Rattle.std.specs.Str.Parse.{digits_value, without_leading_plus}
use Rattle.clap.specs.Words.{App, Row, Rule, Text, first_of, new_app, new_rule, one_of}
use Rattle.clap.specs.Words.{with_rule, with_subcommand}
use Rattle.clap.specs.declared.builder.value_parser.ValueParser.TheVariants as parser
use Rattle.dml_types.specs.declared.limits.Settings.{Settings}
use Rattle.dml_command.specs.declared.words.Line.{Line}
use Rattle.dml_command.specs.declared.words.Line.TheVariants.{Run, Decode}

-- ---- the commands

-- an option `--NAME N`, where N is a number of 32 bits, with its value where it is left out
abbrev pub option_rule : Text → Text → Rule
option_rule name default = record (new_rule name) {
  long = Some name;
  value_names = 1;
  parser = Some (parser.Signed (pos 0) (pos 4294967295));
  defaults = default ∷ [];
}

-- run [--workers N] [--chunk N] [--arena N]
abbrev pub run_app : App
run_app = with_rule (with_rule (with_rule (new_app (codes "run"))
    (option_rule (codes "workers") (codes "4")))
    (option_rule (codes "chunk") (codes "4096")))
    (option_rule (codes "arena") (codes "1048576"))

-- decode HEX
abbrev pub decode_app : App
decode_app =
    with_rule (new_app (codes "decode")) (record (new_rule (codes "HEX")) { required = true })

-- the program, which wants one of the two commands
abbrev pub bare_app : App
bare_app = let app = new_app (codes "dmljob") in
    record app { top = record app.top { subcommand_required = true } }

abbrev pub dmljob : App
dmljob = with_subcommand (with_subcommand bare_app run_app.top) decode_app.top

-- ---- what a line says

-- the number of a text of decimal digits, which may begin with a plus, where it has 32 bits
abbrev pub parsed_number : Text → Option ℕ
parsed_number text =
    let digits = without_leading_plus text in
    if nat_lt 0 (length digits) && list_all (λ d. nat_lt (digit_value d) 10) digits
    && nat_lt (digits_value 10 digits) (2 ^ 32) then Some (digits_value 10 digits) else None

-- the number that the option of this name has among what was found
abbrev pub option_in : List Row → Text → Option ℕ
option_in rows name = option_and_then parsed_number (one_of name rows)

-- the settings are those of the three options
abbrev pub IsFound : List Row → Settings → Type 0
IsFound rows settings = (option_in rows (codes "workers") ≡ Some settings.workers)
    × (option_in rows (codes "chunk") ≡ Some settings.chunk)
    × (option_in rows (codes "arena") ≡ Some settings.staging)

-- the line is that of the command that the words name, with what the words give it
abbrev pub IsLine : Option (Text × List Row) → Line → Type 0
IsLine None line = ⊥
IsLine (Some command) (Run settings) = (command.0 ≡ codes "run") × IsFound command.1 settings
IsLine (Some command) (Decode hex) =
    (command.0 ≡ codes "decode") × (first_of (codes "HEX") command.1 ≡ Some hex.now)

-- ---- what is known of words without a fault

abbrev pub HasSettings : List Row → Type 0
HasSettings rows = (is_some (option_in rows (codes "workers")) ≡ true)
    × (is_some (option_in rows (codes "chunk")) ≡ true)
    × (is_some (option_in rows (codes "arena")) ≡ true)

-- the words name one of the two commands, and give it what it needs
abbrev pub IsAsked : Option (Text × List Row) → Type 0
IsAsked None = ⊥
IsAsked (Some command) = ((command.0 ≡ codes "run") × HasSettings command.1)
    ⊎ ((command.0 ≡ codes "decode") × (is_some (first_of (codes "HEX") command.1) ≡ true))
