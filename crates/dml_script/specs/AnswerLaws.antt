-- What the definition of an answer means: it may be cut between two lines, and job lines show the fold of
-- their jobs.
use Rattle.std.specs.Prelude.{◌≡◌, ℕ, ◌+◌, List, [], ◌∷◌, ◌++◌, length, map, None}
use Rattle.dml_types.specs.declared.jobs.Job.{Job}
use Rattle.dml_types.specs.declared.records.BatchRecord.{BatchRecord}
use Rattle.dml_types.specs.declared.records.Record.{Record}
use Rattle.dml_types.specs.Memory.{Memory}
use Rattle.dml_types.specs.Step.{batch, memory_after, records_of}
use Rattle.dml_grammar.specs.declared.lines.Line.{Line}
use Rattle.dml_grammar.specs.declared.lines.Line.TheVariants as line
use Rattle.dml_script.specs.Output.{batch_line, job_line}
use Rattle.dml_script.specs.Run.{Session, after_line, session_answer}

-- what lines leave
abbrev pub after_lines : ℕ → Session → List Line → Session
after_lines staging session [] = session
after_lines staging session (l ∷ lines) = after_lines staging (after_line staging session l) lines

-- the lines of records, numbered from a number on
abbrev pub job_lines : ℕ → List Record → List ℕ
job_lines number [] = []
job_lines number (answer ∷ answers) = job_line number answer ++ job_lines (number + 1) answers

-- lines after others are answered as if they stood alone, on what those leave
abbrev pub AnswersInParts : Type 0
AnswersInParts = (staging : ℕ) (session : Session) (these those : List Line)
    → session_answer staging session (these ++ those)
    ≡ session_answer staging session these ++ session_answer staging (after_lines staging session these) those

-- job lines outside a batch, one after another, show the records of the list of their jobs
abbrev pub AnswersJobs : Type 0
AnswersJobs = (staging : ℕ) (session : Session) (jobs : List Job)
    → session.batch ≡ None
    → session_answer staging session (map (λ job. line.Job job) jobs)
    ≡ job_lines session.jobs (records_of session.memory jobs staging)

-- the lines of a batch's records: those of its jobs, numbered from a number on, and its own
abbrev pub batch_text : ℕ → Memory × BatchRecord × List Record → List ℕ
batch_text number done = job_lines number done.2 ++ batch_line done.1

-- the lines of a batch show the records of its jobs and then its own, and leave what it leaves
abbrev pub batch_lines : List Job → List Line
batch_lines jobs = line.Batch ∷ map (λ job. line.Job job) jobs ++ line.End ∷ []

abbrev pub AnswersBatch : Type 0
AnswersBatch = (staging : ℕ) (session : Session) (jobs : List Job)
    → session_answer staging session (batch_lines jobs)
    ≡ batch_text session.jobs (batch session.memory jobs staging)

-- job lines outside a batch leave what the list of their jobs leaves
abbrev pub LeavesJobs : Type 0
LeavesJobs = (staging : ℕ) (session : Session) (jobs : List Job)
    → session.batch ≡ None
    → after_lines staging session (map (λ job. line.Job job) jobs)
    ≡ record {
      memory = memory_after session.memory jobs staging;
      jobs = session.jobs + length jobs;
      batch = None;
    }

abbrev pub LeavesBatch : Type 0
LeavesBatch = (staging : ℕ) (session : Session) (jobs : List Job)
    → after_lines staging session (batch_lines jobs)
    ≡ record {
      memory = (batch session.memory jobs staging).0;
      jobs = session.jobs + length jobs;
      batch = None;
    }
