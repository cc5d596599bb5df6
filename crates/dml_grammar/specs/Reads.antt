-- What the functions of the reader answer.
use Rattle.std.specs.Prelude.{◌≡◌, ◌<◌, ◌≤◌, ◌^◌, ℕ, Bool, List, [], length, map, Option, Some, None, unwrap_or, Result, Ok, Err}
use Rattle.std.specs.Borrow.{Bor}
use Rattle.dml_types.specs.declared.operations.Op.{Op}
use Rattle.dml_types.specs.declared.operations.Op.TheVariants.{NoOp, Move, Fill, Compare, ComparePattern, CreateDelta, ApplyDelta, Dualcast}
use Rattle.dml_grammar.specs.declared.table.Slot.{Slot}
use Rattle.dml_grammar.specs.declared.entries.Values.{Values}
use Rattle.dml_grammar.specs.declared.faults.Kind.{Kind}
use Rattle.dml_grammar.specs.declared.faults.ScriptFault.{ScriptFault}
use Rattle.dml_grammar.specs.declared.faults.ScriptError.{ScriptError}
use Rattle.dml_grammar.specs.declared.faults.ScriptError.TheVariants as scripts
use Rattle.dml_grammar.specs.declared.faults.ReadError.{ReadError}
use Rattle.dml_grammar.specs.declared.faults.ReadError.TheVariants as errors
use Rattle.dml_grammar.specs.declared.lines.Line.{Line}
use Rattle.dml_grammar.specs.declared.lines.Line.TheVariants as line
use Rattle.dml_grammar.specs.declared.table.Word.{Word}
use Rattle.dml_grammar.specs.declared.table.Word.TheVariants as word
use Rattle.dml_grammar.specs.Grammar as grammar

-- the lines of a script, its first fault, or want of memory
abbrev pub Reads : Result (List Line) ScriptError → Result (List Line) ScriptFault → Type 0
Reads (Ok lines) parsed = parsed ≡ Ok lines
Reads (Err scripts.NoMemory) parsed = Unit {0}
Reads (Err (scripts.Fault fault)) parsed = parsed ≡ Err fault

-- the first fault of a line that was looked for, or want of memory
abbrev pub Fails : ReadError → Option Kind → Type 0
Fails errors.NoMemory found = Unit {0}
Fails (errors.Fault kind) found = found ≡ Some kind

-- the words of entries, behind their references
abbrev pub word_seen : Option (Bor (List ℕ)) → Option (List ℕ)
word_seen None = None
word_seen (Some word) = Some word.now

abbrev pub entries_seen : List (Slot × Option (Bor (List ℕ))) → List (Slot × Option (List ℕ))
entries_seen entries = map (λ e. (e.0, word_seen e.1)) entries

abbrev pub values_seen : Values → grammar.Values
values_seen values = record { numbers = values.numbers.items; bytes = values.bytes.items }

-- the line of a first word and of values, if there is one
abbrev pub line_seen : Option Word → Values → Option Line
line_seen None values = None
line_seen (Some first) values = Some (grammar.line_of first (values_seen values))

abbrev pub slot_faults : List (Slot × Option (Bor (List ℕ))) → List (Bool × Kind)
slot_faults entries = map (λ e. grammar.slot_fault e.0 e.1) (entries_seen entries)

-- a line that may come next: an image of few pages at the start, a page of the image, another line behind the
-- first
abbrev pub IsNext : List Line → Line → Type 0
IsNext before (line.Image pages) = (before ≡ []) × (1 ≤ pages) × (pages ≤ 4096)
IsNext before (line.Page page bytes) = page < grammar.pages_of before
IsNext before (line.Poke address bytes) = 0 < length before
IsNext before (line.Job job) =
    (0 < length before) × (unwrap_or (grammar.open_jobs before) 0 < grammar.most_jobs)
IsNext before line.Batch = 0 < length before
IsNext before line.End = 0 < length before
IsNext before (line.Show address len) = 0 < length before

-- an entry's number fits a field of so many bits
abbrev pub FitsAt : grammar.Values → ℕ → ℕ → Type 0
FitsAt v place bits = grammar.number_at v place < 2 ^ bits

-- the numbers of a job's line fit its fields
abbrev pub FitsJob : Op → grammar.Values → Type 0
FitsJob NoOp v = FitsAt v 0 32
FitsJob Move v = FitsAt v 2 32 × FitsAt v 3 32
FitsJob Fill v = FitsAt v 2 32 × FitsAt v 3 32
FitsJob Compare v = FitsAt v 2 32 × FitsAt v 3 8 × FitsAt v 4 32
FitsJob ComparePattern v = FitsAt v 2 32 × FitsAt v 3 8 × FitsAt v 4 32
FitsJob CreateDelta v = FitsAt v 2 32 × FitsAt v 4 32 × FitsAt v 5 8 × FitsAt v 6 32
FitsJob ApplyDelta v = FitsAt v 1 32 × FitsAt v 3 32 × FitsAt v 4 32
FitsJob Dualcast v = FitsAt v 3 32 × FitsAt v 4 32

-- what the slots of a line say of its values
abbrev pub HasSizes : Word → grammar.Values → Type 0
HasSizes word.Image v = Unit {0}
HasSizes word.Page v = Unit {0}
HasSizes word.Poke v = length v.bytes ≤ 4096
HasSizes (word.Job op) v = FitsJob op v
HasSizes word.Raw v = length v.bytes ≡ 64
HasSizes word.Batch v = Unit {0}
HasSizes word.End v = Unit {0}
HasSizes word.Show v = Unit {0}

-- numbers that fit the fields of a line
abbrev pub FitsFields : Word → grammar.Values → Type 0
FitsFields word.Image v = FitsAt v 0 32
FitsFields word.Page v = FitsAt v 0 32
FitsFields word.Poke v = Unit {0}
FitsFields (word.Job op) v = FitsJob op v
FitsFields word.Raw v = length v.bytes ≡ 64
FitsFields word.Batch v = Unit {0}
FitsFields word.End v = Unit {0}
FitsFields word.Show v = FitsAt v 1 32

-- what a reader of one line answers: a line or none, or why it failed
abbrev pub fine_or_skipped : Option Line → grammar.Verdict
fine_or_skipped None = grammar.Skipped
fine_or_skipped (Some found) = grammar.Fine found

abbrev pub Condemns : ReadError → grammar.Verdict → Type 0
Condemns errors.NoMemory verdict = Unit {0}
Condemns (errors.Fault kind) verdict = verdict ≡ grammar.Faulty kind
