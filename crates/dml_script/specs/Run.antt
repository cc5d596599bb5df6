-- What a script's run writes: its lines change a memory, one after another, and jobs and shows add text.
use Rattle.std.specs.Prelude.{◌≡◌, ◌≤◌, IsOk, ℕ, ◌+◌, ◌%◌, if◌then◌else◌, List, [], ◌∷◌, ◌++◌, length, map, nat_le, option_map, slice_index_or, Option, None, Some, Result, Ok, Err}
use Rattle.std.specs.List.{range_with_len}
use Rattle.dml_types.specs.Memory.{Memory, page_size, has, byte_at, put}
use Rattle.dml_types.specs.declared.jobs.Job.{Job}
use Rattle.dml_types.specs.declared.records.Record.{Record}
use Rattle.dml_types.specs.declared.statuses.Status.TheVariants.{Abandoned}
use Rattle.dml_types.specs.Effect.{ended}
use Rattle.dml_types.specs.Step.{batch, step}
use Rattle.dml_image.specs.Brought.{all_absent, brought, padded}
use Rattle.dml_grammar.specs.declared.faults.ScriptError.{ScriptError}
use Rattle.dml_grammar.specs.declared.faults.ScriptError.TheVariants as scripts
use Rattle.dml_grammar.specs.declared.faults.ScriptFault.{ScriptFault}
use Rattle.dml_script.specs.declared.items.Item.{Item}
use Rattle.dml_script.specs.declared.items.Item.TheVariants as item
use Rattle.dml_grammar.specs.declared.lines.Line.{Line}
use Rattle.dml_grammar.specs.declared.lines.Line.TheVariants as line
use Rattle.dml_grammar.specs.Grammar.{parse}
use Rattle.dml_script.specs.Output.{text_of}
use Rattle.dml_script.specs.declared.running.RunFault.{RunFault}
use Rattle.dml_script.specs.declared.running.RunFault.TheVariants as faults
use Rattle.dml_script.specs.declared.writing.AnswerError.{AnswerError}
use Rattle.dml_script.specs.declared.writing.AnswerError.TheVariants as answers

-- the memory so far, the number of jobs so far, and the jobs so far of the batch that is open, if one is: its memory
-- is that before it, until it ends
pub record Session : Type 0 where
  pub memory : Memory
  pub jobs : ℕ
  pub batch : Option (List Job)

-- a session, and the staging size that all of its jobs have
pub record Running : Type 0 where
  pub session : Session
  pub staging : ℕ

-- a session with no batch open
abbrev pub outside : Memory → ℕ → Session
outside memory jobs = record { memory = memory; jobs = jobs; batch = None }

-- before the first line there is no page
abbrev pub opening : Session
opening = outside (all_absent 0) 0

-- what a job leaves: in a batch nothing yet
abbrev pub memory_behind : ℕ → Memory → Option (List Job) → Job → Memory
memory_behind staging memory None job = (step memory job staging).0
memory_behind staging memory (Some so_far) job = memory

-- its record: in a batch the one that it has behind the jobs so far
abbrev pub record_behind : ℕ → Memory → Option (List Job) → Job → Record
record_behind staging memory None job = (step memory job staging).1
record_behind staging memory (Some so_far) job =
    slice_index_or (batch memory (so_far ++ job ∷ []) staging).2 (length so_far) (ended Abandoned 0 0 0)

-- what the end of a batch leaves
abbrev pub memory_closed : ℕ → Memory → Option (List Job) → Memory
memory_closed staging memory None = memory
memory_closed staging memory (Some jobs) = (batch memory jobs staging).0

-- what a line leaves, at a staging size
abbrev pub after_line : ℕ → Session → Line → Session
after_line staging session (line.Image pages) = record session { memory = all_absent pages }
after_line staging session (line.Page page bytes) =
    record session { memory = brought session.memory page (padded bytes) }
after_line staging session (line.Poke address bytes) =
    record session { memory = put session.memory address bytes }
after_line staging session (line.Job job) =
    record {
      memory = memory_behind staging session.memory session.batch job;
      jobs = session.jobs + 1;
      batch = option_map (λ so_far. so_far ++ job ∷ []) session.batch;
    }
after_line staging session line.Batch = record session { batch = Some [] }
after_line staging session line.End =
    outside (memory_closed staging session.memory session.batch) session.jobs
after_line staging session (line.Show address len) = session

-- a range that does not cross the end of a page
abbrev pub IsInPage : ℕ → ℕ → Type 0
IsInPage address len = address % page_size + len ≤ page_size

-- what an address shows: its byte, or None where that is absent
abbrev pub shown_at : Memory → ℕ → Option ℕ
shown_at memory address = if has memory address then Some (byte_at memory address) else None

abbrev pub shown_bytes : Memory → ℕ → ℕ → List (Option ℕ)
shown_bytes memory address len = map (λ i. shown_at memory (address + i)) (range_with_len 0 len)

-- what a line adds to the answer, if anything
abbrev pub item_of : ℕ → Session → Line → Option Item
item_of staging session (line.Image pages) = None
item_of staging session (line.Page page bytes) = None
item_of staging session (line.Poke address bytes) = None
item_of staging session (line.Job job) =
    Some (item.Job session.jobs (record_behind staging session.memory session.batch job))
item_of staging session line.Batch = None
item_of staging session line.End =
    option_map (λ jobs. item.Batch (batch session.memory jobs staging).1) session.batch
item_of staging session (line.Show address len) =
    Some (item.Show address (shown_bytes session.memory address len))

abbrev pub added_text : Option Item → List ℕ
added_text None = []
added_text (Some shown) = text_of shown

abbrev pub session_answer : ℕ → Session → List Line → List ℕ
session_answer staging session [] = []
session_answer staging session (l ∷ lines) =
    added_text (item_of staging session l) ++ session_answer staging (after_line staging session l) lines

-- the answer of lines where this is reached
abbrev pub answer_of : Running → List Line → List ℕ
answer_of reached lines = session_answer reached.staging reached.session lines

-- lines, the first of which was read ahead, if there is one
abbrev pub lines_from : Option Line → List Line → List Line
lines_from None lines = []
lines_from (Some ahead) lines = ahead ∷ lines

abbrev pub IsJobLine : Option Line → Type 0
IsJobLine (Some (line.Job job)) = Unit {0}
IsJobLine other = ⊥

-- the most bytes of a script
abbrev pub longest_script : ℕ
longest_script = 4194304

-- bytes without a fault, few enough for a script
abbrev pub IsScript : List ℕ → Type 0
IsScript bytes = (length bytes ≤ longest_script) × IsOk (parse bytes)

-- the first fault of bytes that are few enough for a script
abbrev pub HasFault : List ℕ → ScriptFault → Type 0
HasFault bytes fault = (length bytes ≤ longest_script) × (parse bytes ≡ Err fault)

-- a script with a fault has no answer
abbrev pub parsed_answer : Result (List Line) ScriptFault → ℕ → List ℕ
parsed_answer (Ok lines) staging = session_answer staging opening lines
parsed_answer (Err fault) staging = []

-- the answer of a script's bytes, at a staging size; one that is too long has none
unfoldable pub answer : List ℕ → ℕ → List ℕ
answer bytes staging = if nat_le (length bytes) longest_script then parsed_answer (parse bytes) staging else []

-- what an error of reading or answering a script is called of the whole run
abbrev pub fault_of_script : ScriptError → RunFault
fault_of_script (scripts.Fault fault) = faults.Script fault
fault_of_script scripts.NoMemory = faults.NoMemory

abbrev pub fault_of_answer : AnswerError → RunFault
fault_of_answer answers.NoMemory = faults.NoMemory
fault_of_answer answers.Write = faults.Write
