-- What is written for a request.
use Rattle.std.specs.Prelude.{ℕ, List}
use Rattle.dml_types.specs.declared.limits.Settings.{Settings}
use Rattle.dml_script.specs.Run.{answer}
use Rattle.dmljob.specs.Description.{description_of}
use Rattle.dml_command.specs.declared.requests.Request.{Request}
use Rattle.dml_command.specs.declared.requests.Request.TheVariants as request

-- the answer of the script on the standard input, or the lines on a descriptor
abbrev pub answer_to : Request → List ℕ → List ℕ
answer_to (request.Run settings) script = answer script settings.staging
answer_to (request.Decode bytes) script = description_of bytes

-- what holds of a run's settings, where it is a run that is asked for
abbrev pub IfRun : Request → (Settings → Type 0) → Type 0
IfRun (request.Run settings) P = P settings
IfRun (request.Decode bytes) P = Unit {0}

-- what holds of a descriptor's bytes, where it is these that are asked for
abbrev pub IfDecode : Request → (List ℕ → Type 0) → Type 0
IfDecode (request.Run settings) P = Unit {0}
IfDecode (request.Decode bytes) P = P bytes
