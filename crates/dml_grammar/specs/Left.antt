-- What a text has still to give: its lines, one after another, up to its end or its first fault.
use Rattle.std.specs.Prelude.{◌≡◌, ℕ, ◌+◌, Bool, true, false, List, [], ◌∷◌, ◌++◌, Option, None, Some, Result, Ok, Err}
use Rattle.std.specs.Str.Lines.{lines}
use Rattle.dml_grammar.specs.declared.entries.Values.{Values}
use Rattle.dml_grammar.specs.declared.faults.ScriptError.{ScriptError}
use Rattle.dml_grammar.specs.declared.faults.ScriptError.TheVariants as scripts
use Rattle.dml_grammar.specs.declared.faults.ScriptFault.{ScriptFault}
use Rattle.dml_grammar.specs.declared.lines.Line.{Line}
use Rattle.dml_grammar.specs.declared.table.Word.{Word}
use Rattle.dml_grammar.specs.Grammar.{Skipped, Faulty, Fine, end_fault, fault_at, line_of, opening_number, verdict}
use Rattle.dml_grammar.specs.Reads.{values_seen}

-- the lines before the first fault, and the fault, if there is one
pub record Left : Type 0 where
  pub lines : List Line
  pub fault : Option ScriptFault

abbrev pub nothing_but : Option ScriptFault → Left
nothing_but fault = record { lines = []; fault = fault }

abbrev pub with_line : Line → Left → Left
with_line found left = record { lines = found ∷ left.lines; fault = left.fault }

-- what the texts from a line's number on give, after the lines before and the last batch among them
unfoldable pub left_from : ℕ → ℕ → List Line → List (List ℕ) → Left
left_from number opened before [] = nothing_but (end_fault number opened before)
left_from number opened before (text ∷ texts) = elim (verdict text before) [
  | Skipped ↦ left_from (number + 1) opened before texts
  | Faulty kind ↦ nothing_but (Some (fault_at number kind))
  | Fine found ↦
      with_line found
      (left_from (number + 1) (opening_number number found opened) (before ++ found ∷ []) texts)
]

-- what a whole text gives
abbrev pub all_left : List ℕ → Left
all_left bytes = left_from 1 0 [] (lines bytes)

-- what a reader of lines answers: the next line, none behind the last one, or the fault; where it gives no
-- line nothing changes
abbrev pub Gives : Result (Option Line) ScriptError → Left → Left → Type 0
Gives (Ok (Some found)) old new = old ≡ with_line found new
Gives (Ok None) old new = (old ≡ nothing_but None) × (new ≡ old)
Gives (Err (scripts.Fault fault)) old new = (old ≡ nothing_but (Some fault)) × (new ≡ old)
Gives (Err scripts.NoMemory) old new = new ≡ old

-- the same of a reader that answers the next line by its first word and its values
abbrev pub Finds : Result (Option Word) ScriptError → Values → Left → Left → Type 0
Finds (Ok (Some first)) values old new = old ≡ with_line (line_of first (values_seen values)) new
Finds (Ok None) values old new = (old ≡ nothing_but None) × (new ≡ old)
Finds (Err (scripts.Fault fault)) values old new = (old ≡ nothing_but (Some fault)) × (new ≡ old)
Finds (Err scripts.NoMemory) values old new = new ≡ old

-- and of one that passes over the next line, and answers whether there is one
abbrev pub Passes : Result Bool ScriptError → Left → Left → Type 0
Passes (Ok true) old new = (line : Line) × (old ≡ with_line line new)
Passes (Ok false) old new = (old ≡ nothing_but None) × (new ≡ old)
Passes (Err (scripts.Fault fault)) old new = (old ≡ nothing_but (Some fault)) × (new ≡ old)
Passes (Err scripts.NoMemory) old new = new ≡ old
