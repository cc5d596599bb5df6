use Rattle.std.proofs.Common.{◌≡◌, ◌+◌, drop, false}
use Rattle.dml_script.specs.AnswerLaws.{job_lines}
use Rattle.dml_script.specs.Watching.{inner_of, has_failed, IsWritten}
use Rattle.dml_script.proofs.writing.write_records.Given as goal

abbrev pub invariant-loop-answer : goal.invariant-loop-answer
invariant-loop-answer g l = record {
  passed : has_failed l.writer ≡ false;
  number : l.number ≡ l.first + l.answer-index;
  written : IsWritten (g.W.Write.contents (inner_of l.initial.writer)) (g.W.Write.contents (inner_of l.writer))
      (job_lines l.number (drop l.answer-index l.records)) (job_lines l.first l.records);
}
