-- A refused command line: its text, and what clap's errors are.
use Rattle.std.specs.Prelude.{ℕ, List, Option, Some, None, codes}
use Rattle.clap.specs.Words.{kind_of}
use Rattle.clap.specs.declared.error.Error.{Error}
use Rattle.clap.specs.declared.error.kind.ErrorKind.{ErrorKind}
use Rattle.clap.specs.declared.error.kind.ErrorKind.TheVariants as kind
use Rattle.std.specs.declared.io.ErrorKind.{ErrorKind as ReadErrorKind}
use Rattle.std.specs.declared.io.ErrorKind.TheVariants as io
use Rattle.dml_command.specs.declared.refusals.LineRefusal.{LineRefusal}
use Rattle.dml_command.specs.declared.refusals.LineRefusal.TheVariants as refusal

-- clap writes the texts on the words itself
abbrev pub line_refusal_text : LineRefusal → Option (List ℕ)
line_refusal_text (refusal.Help error) = None
line_refusal_text (refusal.Words error) = None
line_refusal_text refusal.NotText = Some (codes "dmljob: an argument is not UTF-8 text\n")
line_refusal_text refusal.Settings = Some (codes "dmljob: the settings are out of range\n")
line_refusal_text refusal.NotHex = Some (codes "dmljob: not 64 bytes of hex\n")
line_refusal_text refusal.NoMemory = Some (codes "dmljob: out of memory\n")

-- What clap's error is to the program, for each kind that it can have: a request for help or for the
-- version, want of memory, and else a mistake in the words.
abbrev pub kind_refusal : ErrorKind → Error → LineRefusal
kind_refusal kind.DisplayHelp error = refusal.Help error
kind_refusal kind.DisplayVersion error = refusal.Help error
kind_refusal kind.OutOfMemory error = refusal.NoMemory
kind_refusal kind.InvalidValue error = refusal.Words error
kind_refusal kind.UnknownArgument error = refusal.Words error
kind_refusal kind.InvalidSubcommand error = refusal.Words error
kind_refusal kind.NoEquals error = refusal.Words error
kind_refusal kind.ValueValidation error = refusal.Words error
kind_refusal kind.TooManyValues error = refusal.Words error
kind_refusal kind.TooFewValues error = refusal.Words error
kind_refusal kind.WrongNumberOfValues error = refusal.Words error
kind_refusal kind.ArgumentConflict error = refusal.Words error
kind_refusal kind.MissingRequiredArgument error = refusal.Words error
kind_refusal kind.MissingSubcommand error = refusal.Words error
kind_refusal kind.DisplayHelpOnMissingArgumentOrSubcommand error = refusal.Words error
kind_refusal kind.Io error = refusal.Words error
kind_refusal kind.Format error = refusal.Words error

abbrev pub refusal_of : Error → LineRefusal
refusal_of error = kind_refusal (kind_of error) error

-- what it is to the program that its words cannot be had: they are no text, or memory is wanting
abbrev pub unread_refusal : ReadErrorKind → LineRefusal
unread_refusal io.InvalidData = refusal.NotText
unread_refusal _ = refusal.NoMemory
