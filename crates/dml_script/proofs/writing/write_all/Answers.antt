use Rattle.dml_script.proofs.BytesLemmas.{written_some}
use Rattle.dml_script.proofs.writing.write_all.Goals as goal

pub loop-left-preserved : goal.loop-left-preserved
loop-left-preserved g c = record {
  passed = c.in_ok-count.ensures.passed (λ e. cc);
  written = written_some _ _ _ _ _ _ c.in_ok-count.count c.loop-left.invariant.written c.in_ok-count.ensures.wrote c.split_at.ensures.back;
}
