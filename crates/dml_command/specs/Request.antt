-- What a line of words asks for, judged before any input is read.
use Rattle.std.specs.Prelude.{◌≡◌, ℕ, List, [], length, Option, Result, Ok, Err}
use Rattle.std.specs.List.{AllPass}
use Rattle.clap.specs.Words.{IsAmong, Kinds, Row, Text, fault_of, kind_of, subcommand_of}
use Rattle.hex.specs.Hex.{decode_of, is_hex_digit}
use Rattle.dml_types.specs.Limits.{IsValid}
use Rattle.clap.specs.declared.error.Error.{Error}
use Rattle.dml_command.specs.Line.{IsLine, dmljob}
use Rattle.dml_command.specs.Refusal.{refusal_of}
use Rattle.dml_command.specs.declared.refusals.LineRefusal.{LineRefusal}
use Rattle.dml_command.specs.declared.refusals.LineRefusal.TheVariants as refusal
use Rattle.dml_command.specs.declared.requests.Request.{Request}
use Rattle.dml_command.specs.declared.requests.Request.TheVariants as request
use Rattle.dml_command.specs.declared.words.Line.{Line}
use Rattle.dml_command.specs.declared.words.Line.TheVariants.{Run, Decode}

-- 64 bytes as hexadecimal digits, in either case
abbrev pub IsDescriptorText : List ℕ → Type 0
IsDescriptorText text = (length text ≡ 128) × AllPass is_hex_digit text

-- the line is taken with valid settings, or with the 64 bytes that its word names
abbrev pub Judges : Line → Result Request LineRefusal → Type 0
Judges (Run settings) (Ok (request.Run taken)) = IsValid settings × (taken ≡ settings)
Judges (Run settings) (Ok (request.Decode bytes)) = ⊥
Judges (Run settings) (Err refused) = (IsValid settings → ⊥) × (refused ≡ refusal.Settings)
Judges (Decode hex) (Ok (request.Run taken)) = ⊥
Judges (Decode hex) (Ok (request.Decode bytes)) =
    IsDescriptorText hex.now × (decode_of hex.now ≡ Ok bytes)
Judges (Decode hex) (Err refused) =
    (IsDescriptorText hex.now → ⊥) × (refused ≡ refusal.NotHex)

-- the line that the words say is judged so
abbrev pub JudgesLine : Option (Text × List Row) → Result Request LineRefusal → Type 0
JudgesLine command judged = (line : Line) × IsLine command line × Judges line judged

-- what clap's answer comes to: the judgement of its line, or what its error is by the error's kind
abbrev pub ComesTo : Result Line Error → Result Request LineRefusal → Type 0
ComesTo (Ok line) judged = Judges line judged
ComesTo (Err error) judged = judged ≡ Err (refusal_of error)

-- What the words come to, by the faults that clap finds in them and the command that they name:
-- their first fault, in the case of its kind, and only where they have none the judgement of the line
-- that they say.
abbrev pub Asks : Kinds → Option (Text × List Row) → Result Request LineRefusal → Type 0
Asks faults command (Ok asked) = (faults ≡ []) × JudgesLine command (Ok asked)
Asks faults command (Err refusal.Settings) =
    (faults ≡ []) × JudgesLine command (Err refusal.Settings)
Asks faults command (Err refusal.NotHex) = (faults ≡ []) × JudgesLine command (Err refusal.NotHex)
Asks faults command (Err (refusal.Help error)) =
    (refusal_of error ≡ refusal.Help error) × IsAmong (kind_of error) faults
Asks faults command (Err (refusal.Words error)) =
    (refusal_of error ≡ refusal.Words error) × IsAmong (kind_of error) faults
Asks faults command (Err refusal.NoMemory) = Unit {0}
Asks faults command (Err _) = ⊥

-- what these words ask for, the first being the program's name
abbrev pub WordsAsk : List Text → Result Request LineRefusal → Type 0
WordsAsk words asked = Asks (fault_of dmljob words) (subcommand_of dmljob words) asked

-- what runs has settings in their range
abbrev pub HasValidSettings : Request → Type 0
HasValidSettings (request.Run settings) = IsValid settings
HasValidSettings (request.Decode bytes) = Unit {0}
