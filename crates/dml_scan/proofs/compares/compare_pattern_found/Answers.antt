use Rattle.std.proofs.Common.{ℕ, ◌+◌, ◌∙◌, ap, subst, arith}
use Rattle.dml_types.specs.declared.jobs.Job.{Job}
use Rattle.dml_types.specs.declared.operations.Op.TheVariants.{ComparePattern}
use Rattle.dml_types.specs.Chunk.{scan_found}
use Rattle.dml_buffers.specs.Holds.{Holds}
use Rattle.dml_scan.proofs.CompareLemmas.{passed_more, pattern_absent, pattern_all, pattern_passes, pattern_stops}
use Rattle.dml_scan.proofs.compares.compare_pattern_found.Goals as goal

pub returns-in_default : goal.returns-in_default
returns-in_default c =
    let inv = c.loop-at.invariant in
    let job = c.job-job.result.now in
    c.read_fault.ensures
    ∙ (pattern_absent c.args.image.now job c.args.from c.args.to c.loop-at.at _ inv.order c.loop-at-test.true inv.passed (ap (λ (n : ℕ). job.source + n) c.from.ensures) c.in_default.ensures
    ∙ ap (λ (j : Job). scan_found ComparePattern c.args.image.now j c.args.from c.args.to) c.job-job.ensures.job)

pub returns-then-same-part : goal.returns-then-same-part
returns-then-same-part c =
    let inv = c.loop-at.invariant in
    let memory = c.args.image.now in
    let job = c.job-job.result.now in
    let part = c.in-Some.ensures in
    pattern_stops memory job c.args.from c.args.to c.loop-at.at c.in-Some.part.now inv.order (omega (arith, part.within, c.loop-at-test.true)) inv.passed
    (subst (λ n. Holds memory (job.source + n) c.in-Some.part.now) c.from.ensures part.part) _ c.unlike_in_part-same.ensures.value c.if-same-part.true
    ∙ ap (λ (j : Job). scan_found ComparePattern memory j c.args.from c.args.to) c.job-job.ensures.job

pub loop-at-preserved : goal.loop-at-preserved
loop-at-preserved c =
    let inv = c.loop-at.invariant in
    let memory = c.args.image.now in
    let job = c.job-job.result.now in
    let part = c.in-Some.ensures in
    record {
      order = omega (arith, inv.order);
      within = omega (arith, c.unlike_in_part-same.ensures.within, part.within, c.loop-at-test.true);
      passed =
          passed_more ComparePattern memory job c.args.from c.loop-at.at c.unlike_in_part-same.result inv.passed
          (λ i below. pattern_passes memory job c.loop-at.at c.in-Some.part.now (subst (λ n. Holds memory (job.source + n) c.in-Some.part.now) c.from.ensures part.part) i (omega (arith, c.unlike_in_part-same.ensures.value)));
    }

pub returns : goal.returns
returns c =
    let inv = c.loop-at.invariant in
    pattern_all c.args.image.now c.job-job.result.now c.args.from c.args.to c.loop-at.at inv.order inv.within (omega (arith, c.loop-at-test.false)) inv.passed
    ∙ ap (λ (j : Job). scan_found ComparePattern c.args.image.now j c.args.from c.args.to) c.job-job.ensures.job
