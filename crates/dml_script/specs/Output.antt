-- The text of a script's answer: a line for each job, batch and show.
use Rattle.std.specs.Prelude.{ℕ, ◌/◌, ◌%◌, ◌-◌, false, List, [], ◌∷◌, ◌++◌, length, codes, replicate, Option, None, Some}
use Rattle.std.specs.Fmt.{decimal, digits, digit_glyph}
use Rattle.std.specs.List.{flat_map}
use Rattle.dml_types.specs.declared.jobs.Job as jobs
use Rattle.dml_types.specs.declared.records.Record.{Record}
use Rattle.dml_types.specs.declared.records.BatchRecord.{BatchRecord}
use Rattle.dml_types.specs.Effect.{code_of}
use Rattle.dml_script.specs.declared.items.Item.{Item}
use Rattle.dml_script.specs.declared.items.Item.TheVariants as item

-- a byte as two lower-case hexadecimal digits, and an absent one as two dashes
abbrev pub byte_text : ℕ → List ℕ
byte_text byte = digit_glyph false (byte / 16) ∷ digit_glyph false (byte % 16) ∷ []

abbrev pub shown_text : Option ℕ → List ℕ
shown_text None = codes "--"
shown_text (Some byte) = byte_text byte

-- lower-case hexadecimal digits, with leading zeros up to a width
unfoldable pub hexadecimal : ℕ → ℕ → List ℕ
hexadecimal width n = let text = digits 16 false n in replicate (width - length text) 48 ++ text

-- `job I status SS result R completed C fault F delta D`
abbrev pub job_line : ℕ → Record → List ℕ
job_line number answer =
    (codes "job " ++ decimal number ++ codes " status " ++ byte_text (code_of answer.status))
    ++ (codes " result " ++ decimal answer.result ++ codes " completed " ++ decimal answer.completed
    ++ codes " fault " ++ decimal answer.fault ++ codes " delta " ++ decimal answer.delta_size ++ codes "\n")

-- `batch status SS completed C`
abbrev pub batch_line : BatchRecord → List ℕ
batch_line answer =
    (codes "batch status " ++ byte_text (code_of answer.status))
    ++ (codes " completed " ++ decimal answer.completed ++ codes "\n")

-- `show ADDR BYTES`
abbrev pub show_line : ℕ → List (Option ℕ) → List ℕ
show_line address shown =
    (codes "show " ++ decimal address ++ codes " ") ++ flat_map shown_text shown ++ codes "\n"

-- a line of the answer, with its line feed
abbrev pub text_of : Item → List ℕ
text_of (item.Job number answer) = job_line number answer
text_of (item.Batch answer) = batch_line answer
text_of (item.Show address shown) = show_line address shown

-- a job's fields, without a line feed:
-- `opcode OO flags FFFFFF source S target T size N extra X delta D expected E`
abbrev pub fields_of : jobs.Job → List ℕ
fields_of job =
    (codes "opcode " ++ byte_text job.opcode) ++ (codes " flags " ++ hexadecimal 6 job.flags)
    ++ (codes " source " ++ decimal job.source ++ codes " target " ++ decimal job.target
    ++ codes " size " ++ decimal job.size ++ codes " extra " ++ decimal job.extra
    ++ codes " delta " ++ decimal job.delta_size ++ codes " expected " ++ decimal job.expected)
