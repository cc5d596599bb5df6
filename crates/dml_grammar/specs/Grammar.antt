-- The grammar of scripts: from the bytes of a script to its lines, or to its first fault.
use Rattle.std.specs.Prelude.{ℕ, ◌+◌, ◌/◌, ◌^◌, Bool, true, false, not, ◌&&◌, ◌||◌, if◌then◌else◌, List, [], ◌∷◌, ◌++◌, length, map, nat_eq, nat_lt, nat_le, bytes_eq, find, Option, Some, None, is_none, is_some, unwrap_or, slice_index, slice_index_or, Result, Ok, Err}
use Rattle.std.specs.Int.RustNames.{bit_or}
use Rattle.std.specs.List.{flat_map, fold, list_all, list_any, range_with_len}
use Rattle.std.specs.Option.{option_map, option_and_then}
use Rattle.std.specs.Str.Lines.{lines}
use Rattle.dml_desc.specs.Descriptor.{decoded}
use Rattle.dml_types.specs.declared.jobs.Job.{Job}
use Rattle.dml_types.specs.declared.operations.Op.{Op}
use Rattle.dml_types.specs.declared.operations.Op.TheVariants.{NoOp, Move, Fill, Compare, ComparePattern, CreateDelta, ApplyDelta, Dualcast}
use Rattle.dml_types.specs.Job.{no_op_job, move_job, fill_job, compare_job, compare_pattern_job, create_job, apply_job, dualcast_job}
use Rattle.dml_types.specs.Memory.{page_size}
use Rattle.dml_grammar.specs.declared.faults.Kind.{Kind}
use Rattle.dml_grammar.specs.declared.faults.Kind.TheVariants.{LongLine, NotAscii, UnknownWord, MissingImage, SecondImage, InBatch, StrayEnd, TooManyJobs, WrongWords, BadNumber, BadHex, BadRange, OpenBatch}
use Rattle.dml_grammar.specs.declared.faults.ScriptFault.{ScriptFault}
use Rattle.dml_grammar.specs.declared.lines.Line.{Line}
use Rattle.dml_grammar.specs.declared.lines.Line.TheVariants as line
use Rattle.dml_grammar.specs.declared.table.Word.{Word}
use Rattle.dml_grammar.specs.declared.table.Word.TheVariants as word
use Rattle.dml_grammar.specs.declared.table.Slot.{Slot}
use Rattle.dml_grammar.specs.declared.table.Slot.TheVariants.{Number, Digits}
use Rattle.dml_grammar.specs.declared.table.Part.{Part}
use Rattle.dml_grammar.specs.declared.table.Part.TheVariants.{One, Maybe, Named}
use Rattle.dml_grammar.specs.Number.{word_number, at_most, word_bytes}
use Rattle.dml_grammar.specs.Table.{word_named, parts_of, suffix_text}
use Rattle.dml_grammar.specs.Text.{words, is_text}

-- the longest line
abbrev pub longest_line : ℕ
longest_line = 16384

-- Words and parts.

-- each part of a line has one entry: what it is, and the word that stands there, if any
abbrev pub Entry : Type 0
Entry = Slot × Option (List ℕ)

abbrev pub word_after : List (List ℕ) → Option (Option (List ℕ) × List (List ℕ))
word_after [] = None
word_after (w ∷ ws) = Some (Some w, ws)

abbrev pub named_after : List ℕ → List (List ℕ) → Option (Option (List ℕ) × List (List ℕ))
named_after name [] = Some (None, [])
named_after name (w ∷ ws) = if bytes_eq w name then word_after ws else Some (None, w ∷ ws)

-- what a part takes of the words, and the words that are left; None where its word is missing
abbrev pub taken : Part → List (List ℕ) → Option (Option (List ℕ) × List (List ℕ))
taken (One slot) ws = word_after ws
taken (Maybe slot) [] = Some (None, [])
taken (Maybe slot) (w ∷ ws) = Some (Some w, ws)
taken (Named name slot) ws = named_after (suffix_text name) ws

abbrev pub slot_of : Part → Slot
slot_of (One slot) = slot
slot_of (Maybe slot) = slot
slot_of (Named name slot) = slot

abbrev pub with_first : Entry → Option (List Entry) → Option (List Entry)
with_first entry entries = option_map (λ more. entry ∷ more) entries

-- the entries of all parts, or None where a word is missing or left over
abbrev pub fitted : List Part → List (List ℕ) → Option (List Entry)
fitted [] [] = Some []
fitted [] (w ∷ ws) = None
fitted (part ∷ parts) ws =
    option_and_then (λ t. with_first (slot_of part, t.0) (fitted parts t.1)) (taken part ws)

-- Values of words: the number of each entry, and the bytes of the hexadecimal one.

pub record Values : Type 0 where
  pub numbers : List (Option ℕ)
  pub bytes : List ℕ

abbrev pub slot_number : Slot → Option (List ℕ) → Option ℕ
slot_number slot None = None
slot_number (Number largest) (Some w) = at_most largest (word_number w)
slot_number (Digits least most) (Some w) = None

abbrev pub slot_bytes : Slot → Option (List ℕ) → List ℕ
slot_bytes slot None = []
slot_bytes (Number largest) (Some w) = []
slot_bytes (Digits least most) (Some w) = unwrap_or (word_bytes least most w) []

abbrev pub values_of : List Entry → Values
values_of entries =
    record {
      numbers = map (λ e. slot_number e.0 e.1) entries;
      bytes = flat_map (λ e. slot_bytes e.0 e.1) entries;
    }

-- the number of an entry; 0 where its word was left out
abbrev pub number_at : Values → ℕ → ℕ
number_at values place = unwrap_or (slice_index_or values.numbers place None) 0

-- The lines before, which say what the image has.

abbrev pub pages_of : List Line → ℕ
pages_of (line.Image pages ∷ after) = pages
pages_of other = 0

abbrev pub brings : ℕ → Line → Bool
brings page (line.Page number bytes) = nat_eq number page
brings page other = false

abbrev pub is_present : List Line → ℕ → Bool
is_present before page = list_any (brings page) before

abbrev pub has_bytes : List Line → ℕ → ℕ → Bool
has_bytes before address n =
    list_all (λ i. is_present before ((address + i) / page_size)) (range_with_len 0 n)

-- the number of jobs of the batch that is open, if one is
abbrev pub open_after : Option ℕ → Line → Option ℕ
open_after jobs line.Batch = Some 0
open_after jobs line.End = None
open_after jobs (line.Job job) = option_map (λ n. n + 1) jobs
open_after jobs other = jobs

abbrev pub open_jobs : List Line → Option ℕ
open_jobs before = fold open_after None before

-- the most jobs of a batch
abbrev pub most_jobs : ℕ
most_jobs = 1024

-- Lines.

-- a job with the flags of an entry
abbrev pub flagged : Job → Values → ℕ → Job
flagged job v place = record job { flags = number_at v place }

-- a job with the check of an entry, if one stands there: the expected result, and the flag beside the others
abbrev pub checked : Job → Option ℕ → Job
checked job None = job
checked job (Some expected) = record job { flags = bit_or job.flags 0x80; expected = expected }

-- a job with a check and then flags, from an entry on
abbrev pub suffixed : Job → Values → ℕ → Job
suffixed job v place = checked (flagged job v (place + 1)) (slice_index_or v.numbers place None)

abbrev pub job_of : Op → Values → Job
job_of NoOp v = flagged no_op_job v 0
job_of Move v = flagged (move_job (number_at v 0) (number_at v 1) (number_at v 2)) v 3
job_of Fill v = flagged (fill_job (number_at v 0) (number_at v 1) (number_at v 2)) v 3
job_of Compare v = suffixed (compare_job (number_at v 0) (number_at v 1) (number_at v 2)) v 3
job_of ComparePattern v =
    suffixed (compare_pattern_job (number_at v 0) (number_at v 1) (number_at v 2)) v 3
job_of CreateDelta v =
    suffixed (create_job (number_at v 0) (number_at v 1) (number_at v 2) (number_at v 3) (number_at v 4)) v 5
job_of ApplyDelta v =
    flagged (apply_job (number_at v 0) (number_at v 1) (number_at v 2) (number_at v 3)) v 4
job_of Dualcast v =
    flagged (dualcast_job (number_at v 0) (number_at v 1) (number_at v 2) (number_at v 3)) v 4

abbrev pub line_of : Word → Values → Line
line_of word.Image v = line.Image (number_at v 0)
line_of word.Page v = line.Page (number_at v 0) v.bytes
line_of word.Poke v = line.Poke (number_at v 0) v.bytes
line_of (word.Job op) v = line.Job (job_of op v)
line_of word.Raw v = line.Job (decoded v.bytes)
line_of word.Batch v = line.Batch
line_of word.End v = line.End
line_of word.Show v = line.Show (number_at v 0) (number_at v 1)

-- whether a line's numbers are out of range: pages 1 to 4,096, a page of the image, present bytes,
-- 1 to 65,536 bytes to show
abbrev pub is_out_of_range : Word → Values → List Line → Bool
is_out_of_range word.Image v before = not (nat_le 1 (number_at v 0) && nat_le (number_at v 0) 4096)
is_out_of_range word.Page v before = not (nat_lt (number_at v 0) (pages_of before))
is_out_of_range word.Poke v before = not (has_bytes before (number_at v 0) (length v.bytes))
is_out_of_range word.Show v before =
    not (nat_le 1 (number_at v 1) && nat_le (number_at v 1) 65536)
    || nat_lt (2 ^ 64) (number_at v 0 + number_at v 1)
is_out_of_range other v before = false

-- Faults: in their order, each with what to look for.

abbrev pub slot_fault : Slot → Option (List ℕ) → Bool × Kind
slot_fault slot None = (false, BadNumber)
slot_fault (Number largest) (Some w) = (is_none (at_most largest (word_number w)), BadNumber)
slot_fault (Digits least most) (Some w) = (is_none (word_bytes least most w), BadHex)

abbrev pub entry_faults : Word → Option (List Entry) → List Line → List (Bool × Kind)
entry_faults first None before = (true, WrongWords) ∷ []
entry_faults first (Some entries) before =
    map (λ e. slot_fault e.0 e.1) entries
    ++ (is_out_of_range first (values_of entries) before, BadRange) ∷ []

abbrev pub rest_faults : Word → List (List ℕ) → List Line → List (Bool × Kind)
rest_faults first after before = entry_faults first (fitted (parts_of first) after) before

abbrev pub is_image : Word → Bool
is_image word.Image = true
is_image other = false

abbrev pub is_job : Word → Bool
is_job (word.Job op) = true
is_job word.Raw = true
is_job other = false

-- the lines that may stand in a batch are those of jobs, and its end
abbrev pub is_end : Word → Bool
is_end word.End = true
is_end other = false

-- the first line is the `image` line, and the only one
abbrev pub image_faults : Word → List Line → List (Bool × Kind)
image_faults first before =
    (nat_eq (length before) 0 && not (is_image first), MissingImage)
    ∷ (nat_lt 0 (length before) && is_image first, SecondImage) ∷ []

-- the faults of a line where this batch is open, or none is
abbrev pub batch_faults : Word → Option ℕ → List (Bool × Kind)
batch_faults first jobs =
    (is_some jobs && not (is_job first || is_end first), InBatch)
    ∷ (is_none jobs && is_end first, StrayEnd)
    ∷ (is_job first && nat_le most_jobs (unwrap_or jobs 0), TooManyJobs) ∷ []

abbrev pub place_faults : Word → List Line → List (Bool × Kind)
place_faults first before = image_faults first before ++ batch_faults first (open_jobs before)

abbrev pub word_faults : Option Word → List (List ℕ) → List Line → List (Bool × Kind)
word_faults None after before = (true, UnknownWord) ∷ []
word_faults (Some first) after before =
    place_faults first before ++ rest_faults first after before

abbrev pub faults_of : List ℕ → List ℕ → List (List ℕ) → List Line → List (Bool × Kind)
faults_of text first after before =
    (nat_lt longest_line (length text), LongLine) ∷ (not (list_all is_text text), NotAscii)
    ∷ word_faults (word_named first) after before

abbrev pub first_of : List (Bool × Kind) → Option Kind
first_of faults = option_map (λ fault. fault.1) (find (λ fault. fault.0) faults)

-- What a line of text is, after the lines before it.

pub data Verdict : Type 0 where
  Skipped : Verdict
  Faulty : (kind : Kind) → Verdict
  Fine : (line : Line) → Verdict

-- the line of words that have no fault; an unknown word and words that do not fit have one
abbrev pub accepted : Option Word → List (List ℕ) → Verdict
accepted None after = Skipped
accepted (Some first) after = Fine (line_of first (values_of (unwrap_or (fitted (parts_of first) after) [])))

abbrev pub judged : Option Kind → Option Word → List (List ℕ) → Verdict
judged (Some kind) first after = Faulty kind
judged None first after = accepted first after

abbrev pub is_comment : List ℕ → Bool
is_comment first = nat_eq (slice_index first 0) 35

-- a line is skipped that has no word, or whose first word begins with `#`
abbrev pub words_verdict : List (List ℕ) → List ℕ → List Line → Verdict
words_verdict [] text before = Skipped
words_verdict (first ∷ after) text before =
    if is_comment first then Skipped
    else judged (first_of (faults_of text first after before)) (word_named first) after

abbrev pub verdict : List ℕ → List Line → Verdict
verdict text before = words_verdict (words text) text before

-- The lines of a script, or its first fault with the number of its line.

abbrev pub fault_at : ℕ → Kind → ScriptFault
fault_at number kind = record { line = number; kind = kind }

-- the number of the line at which the last batch was opened, behind a line of this number
abbrev pub opening_number : ℕ → Line → ℕ → ℕ
opening_number number line.Batch opened = number
opening_number number other opened = opened

-- what is wrong at the end of a script, behind its lines
abbrev pub end_fault : ℕ → ℕ → List Line → Option ScriptFault
end_fault number opened before =
    if nat_eq (length before) 0 then Some (fault_at number MissingImage)
    else if is_some (open_jobs before) then Some (fault_at opened OpenBatch) else None

-- the texts from a line's number on, after the lines before and the last batch among them
unfoldable pub parse_from : ℕ → ℕ → List Line → List (List ℕ) → Result (List Line) ScriptFault
parse_from number opened before [] =
    elim (end_fault number opened before) [ None ↦ Ok before | Some fault ↦ Err fault ]
parse_from number opened before (text ∷ texts) = elim (verdict text before) [
  | Skipped ↦ parse_from (number + 1) opened before texts
  | Faulty kind ↦ Err (fault_at number kind)
  | Fine found ↦ parse_from (number + 1) (opening_number number found opened) (before ++ found ∷ []) texts
]

unfoldable pub parse : List ℕ → Result (List Line) ScriptFault
parse bytes = parse_from 1 0 [] (lines bytes)
