use Rattle.std.proofs.Common.{arith}
use Rattle.dml_script.proofs.ListLemmas.{record_begun, record_written}
use Rattle.dml_script.proofs.RunLemmas.{on_error}
use Rattle.dml_script.proofs.writing.write_records.Goals as goal

pub returns-in_err-write_record-clause-front : goal.returns-in_err-write_record-clause-front
returns-in_err-write_record-clause-front g c =
    on_error _ _
    (record_begun _ _ _ c.loop-answer.number c.args.records.now c.loop-answer.answer-index _ _ c.loop-answer-test.true c.loop-answer.invariant.written
    c.in_err-write_record.ensures.front)

pub loop-answer-preserved : goal.loop-answer-preserved
loop-answer-preserved g c = record {
  passed = c.in_ok-write_record.ensures.passed (λ e. cc);
  number = omega (arith, c.loop-answer.invariant.number);
  written =
      record_written _ _ _ c.loop-answer.number c.args.records.now c.loop-answer.answer-index _ _ c.loop-answer-test.true
      c.loop-answer.invariant.written c.in_ok-write_record.ensures.ok;
}
