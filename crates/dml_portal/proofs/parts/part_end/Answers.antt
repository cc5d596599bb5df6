use Rattle.std.proofs.Common.{◌<◌, length, arith, inr}
use Rattle.dml_portal.proofs.PartLemmas.{bytes_then}
use Rattle.dml_portal.proofs.parts.part_end.Goals as goal

pub returns-then-bytes-gt-MOST_BYTES-clause-enough : goal.returns-then-bytes-gt-MOST_BYTES-clause-enough
returns-then-bytes-gt-MOST_BYTES-clause-enough c =
    let before = c.loop-to.invariant in
    let jobs = c.args.jobs.now in
    let below : c.loop-to.to < length jobs = omega (arith, c.loop-to-test.true, c.min.ensures, c.requires.begin) in
    let next = bytes_then jobs c.args.from c.loop-to.to _ c.from.result c.loop-to.bytes before.more below c.from.ensures before.is in
    inr (inr (omega (arith, next, c.saturating_add-bytes.ensures, c.if-bytes-gt-MOST_BYTES.true)))

pub loop-to-preserved : goal.loop-to-preserved
loop-to-preserved c =
    let before = c.loop-to.invariant in
    let jobs = c.args.jobs.now in
    let below : c.loop-to.to < length jobs = omega (arith, c.loop-to-test.true, c.min.ensures, c.requires.begin) in
    let next = bytes_then jobs c.args.from c.loop-to.to _ c.from.result c.loop-to.bytes before.more below c.from.ensures before.is in
    record {
      more = omega (arith, before.more);
      is = omega (arith, next, c.saturating_add-bytes.ensures, c.if-bytes-gt-MOST_BYTES.false);
      few = inr (omega (arith, c.if-bytes-gt-MOST_BYTES.false));
    }
