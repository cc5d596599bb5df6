-- The law of `parse` in the words of a reader of scripts: its lines are those of a script in which no line is
-- faulty, and its fault is that of the first faulty line.
use Rattle.std.specs.Prelude.{◌≡◌, ◌↔◌, ◌⊎◌, ℕ, ◌+◌, ◌<◌, List, [], ◌∷◌, ◌++◌, length, take, slice_index_or, Option, Some, None, is_some, true, false, Ok, Err}
use Rattle.std.specs.List.{fold}
use Rattle.std.specs.Str.Lines.{lines}
use Rattle.dml_grammar.specs.declared.faults.Kind.{Kind}
use Rattle.dml_grammar.specs.declared.faults.Kind.TheVariants.{MissingImage, OpenBatch}
use Rattle.dml_grammar.specs.declared.faults.ScriptFault.{ScriptFault}
use Rattle.dml_grammar.specs.declared.lines.Line.{Line}
use Rattle.dml_grammar.specs.Grammar.{Verdict, Skipped, Faulty, Fine, fault_at, open_jobs, opening_number, parse, verdict}

-- the lines, with the one that a line of text adds to them, if it adds one
abbrev pub grown : List Line → Verdict → List Line
grown before Skipped = before
grown before (Faulty kind) = before
grown before (Fine found) = before ++ found ∷ []

-- the lines that texts give, each read after those before it
abbrev pub lines_read : List Line → List (List ℕ) → List Line
lines_read before texts = fold (λ so_far text. grown so_far (verdict text so_far)) before texts

abbrev pub verdict_fault : Verdict → Option Kind
verdict_fault Skipped = None
verdict_fault (Faulty kind) = Some kind
verdict_fault (Fine found) = None

-- the fault of the text at a place, read after those before it: the first in the order of the table
abbrev pub line_fault : List Line → List (List ℕ) → ℕ → Option Kind
line_fault before texts place =
    verdict_fault (verdict (slice_index_or texts place []) (lines_read before (take place texts)))

abbrev pub FaultlessBelow : List Line → List (List ℕ) → ℕ → Type 0
FaultlessBelow before texts n = (place : ℕ) → place < n → line_fault before texts place ≡ None

-- no text is faulty, and these are their lines, at least one; no batch is open behind them
pub record AreLines (before : List Line) (texts : List (List ℕ)) (found : List Line) : Type 0 where
  pub faultless : FaultlessBelow before texts (length texts)
  pub lines : found ≡ lines_read before texts
  pub some : 0 < length found
  pub closed : is_some (open_jobs found) ≡ false

-- the text at a place is faulty, and none before it; texts are numbered from a number on
pub record IsFaultAt (number : ℕ) (before : List Line) (texts : List (List ℕ)) (fault : ScriptFault)
    (place : ℕ) : Type 0 where
  pub within : place < length texts
  pub line : fault.line ≡ number + place
  pub kind : line_fault before texts place ≡ Some fault.kind
  pub first : FaultlessBelow before texts place

-- no text is faulty, and none gives a line: the `image` line is missing behind the last one
pub record HasNoLine (number : ℕ) (before : List Line) (texts : List (List ℕ)) (fault : ScriptFault)
    : Type 0 where
  pub faultless : FaultlessBelow before texts (length texts)
  pub none : lines_read before texts ≡ []
  pub behind : fault ≡ fault_at (number + length texts) MissingImage

-- the number of the line that opens the last batch
abbrev pub verdict_opening : ℕ → ℕ → Verdict → ℕ
verdict_opening number opened (Fine found) = opening_number number found opened
verdict_opening number opened other = opened

abbrev pub last_opened : ℕ → ℕ → List Line → List (List ℕ) → ℕ
last_opened number opened before [] = opened
last_opened number opened before (text ∷ texts) =
    let found = verdict text before in
    last_opened (number + 1) (verdict_opening number opened found) (grown before found) texts

-- no text is faulty, there are lines, and the last batch is not closed: its first line is named
pub record HasOpenBatch (number opened : ℕ) (before : List Line) (texts : List (List ℕ))
    (fault : ScriptFault) : Type 0 where
  pub faultless : FaultlessBelow before texts (length texts)
  pub some : 0 < length (lines_read before texts)
  pub unclosed : is_some (open_jobs (lines_read before texts)) ≡ true
  pub first : fault ≡ fault_at (last_opened number opened before texts) OpenBatch

abbrev pub IsFirstFault : ℕ → ℕ → List Line → List (List ℕ) → ScriptFault → Type 0
IsFirstFault number opened before texts fault =
    ((place : ℕ) × IsFaultAt number before texts fault place) ⊎ HasNoLine number before texts fault
    ⊎ HasOpenBatch number opened before texts fault

-- a script is read exactly where no line is faulty
abbrev pub ReadsFaultless : Type 0
ReadsFaultless =
    (bytes : List ℕ) (found : List Line) → (parse bytes ≡ Ok found) ↔ AreLines [] (lines bytes) found

-- and refused exactly by its first fault
abbrev pub NamesFirstFault : Type 0
NamesFirstFault =
    (bytes : List ℕ) (fault : ScriptFault)
    → (parse bytes ≡ Err fault) ↔ IsFirstFault 1 0 [] (lines bytes) fault
