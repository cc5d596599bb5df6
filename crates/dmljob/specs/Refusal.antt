-- How the program ends without an answer: its exit status and its text.
use Rattle.std.specs.Prelude.{◌≡◌, ◌⊎◌, ℕ, List, ◌++◌, Option, Some, codes, Result, Ok, Err}
use Rattle.std.specs.Fmt.{decimal}
use Rattle.dml_command.specs.Refusal.{line_refusal_text}
use Rattle.dml_command.specs.declared.refusals.LineRefusal.TheVariants as line
use Rattle.dml_command.specs.declared.requests.Request.{Request}
use Rattle.dml_command.specs.declared.requests.Request.TheVariants as request
use Rattle.dml_grammar.specs.Faults.{text_of}
use Rattle.dml_grammar.specs.declared.faults.ScriptFault.{ScriptFault}
use Rattle.dml_script.specs.declared.running.RunFault.{RunFault}
use Rattle.dml_script.specs.declared.running.RunFault.TheVariants as run
use Rattle.dmljob.specs.declared.refusals.Refusal.{Refusal}
use Rattle.dmljob.specs.declared.refusals.Refusal.TheVariants as refusal

-- 0 where help was asked for, 2 for a script, 3 for the words, 4 for the machine
abbrev pub exit_code : Refusal → ℕ
exit_code (refusal.Line (line.Help error)) = 0
exit_code (refusal.Line (line.Words error)) = 3
exit_code (refusal.Line line.NotText) = 3
exit_code (refusal.Line line.Settings) = 3
exit_code (refusal.Line line.NotHex) = 3
exit_code (refusal.Line line.NoMemory) = 4
exit_code (refusal.Script fault) = 2
exit_code refusal.TooLong = 2
exit_code refusal.NoMemory = 4
exit_code refusal.Read = 4
exit_code refusal.Write = 4

abbrev pub ending_text : Refusal → Option (List ℕ)
ending_text (refusal.Line refused) = line_refusal_text refused
ending_text (refusal.Script fault) =
    Some (codes "dmljob: line " ++ decimal fault.line ++ codes ": " ++ text_of fault.kind
    ++ codes "\n")
ending_text refusal.TooLong = Some (codes "dmljob: the script is too long\n")
ending_text refusal.NoMemory = Some (codes "dmljob: out of memory\n")
ending_text refusal.Read = Some (codes "dmljob: cannot read the script\n")
ending_text refusal.Write = Some (codes "dmljob: cannot write the answer\n")

-- what the end of a script's run is to the program
abbrev pub refusal_of_run : RunFault → Refusal
refusal_of_run run.Read = refusal.Read
refusal_of_run run.TooLong = refusal.TooLong
refusal_of_run (run.Script fault) = refusal.Script fault
refusal_of_run run.NoMemory = refusal.NoMemory
refusal_of_run run.Write = refusal.Write

-- ---- the end of the program

-- what a run is refused by, once its settings are judged
abbrev pub IsOfRun : Refusal → Type 0
IsOfRun refused = (fault : RunFault) × (refused ≡ refusal_of_run fault)

-- what holds of the script's fault, where it is for that that there is no answer
abbrev pub IfScript : Result Unit Refusal → (ScriptFault → Type 0) → Type 0
IfScript (Err (refusal.Script fault)) P = P fault
IfScript _ P = Unit {0}

-- what a description is refused by, once its digits are judged
abbrev pub IsOfDescription : Refusal → Type 0
IsOfDescription refused = (refused ≡ refusal.NoMemory) ⊎ (refused ≡ refusal.Write)

-- what a request is refused by, once it is judged
abbrev pub IsOfRequest : Request → Refusal → Type 0
IsOfRequest (request.Run settings) refused = IsOfRun refused
IsOfRequest (request.Decode bytes) refused = IsOfDescription refused

-- what the program ends by: its refusal, but a failed write where help cannot be written
abbrev pub IsShown : Refusal → Refusal → Type 0
IsShown (refusal.Line (line.Help error)) shown =
    (shown ≡ refusal.Line (line.Help error)) ⊎ (shown ≡ refusal.Write)
IsShown refused shown = shown ≡ refused

-- the exit status after an answer, or in place of one
abbrev pub EndsWith : Result Unit Refusal → ℕ → Type 0
EndsWith (Ok done) status = status ≡ 0
EndsWith (Err refused) status = (shown : Refusal) × IsShown refused shown × (status ≡ exit_code shown)
