use Rattle.std.proofs.Common.{◌≡◌, ℕ, ◌+◌, ◌-◌, ◌≤◌, length, ◌∙◌, ap, subst, arith}
use Rattle.std.proofs.lemmas.List.{length-take}
use Rattle.dml_types.specs.declared.jobs.Job.{Job}
use Rattle.dml_types.specs.declared.operations.Op.TheVariants.{Compare}
use Rattle.dml_types.specs.Chunk.{scan_found}
use Rattle.dml_buffers.specs.Holds.{Holds}
use Rattle.dml_scan.proofs.CompareLemmas.{compare_all, compare_passes, compare_stops, next_within, part_next, passed_more, second_absent}
use Rattle.dml_scan.proofs.compares.compare_found.Goals as goal

pub returns-in_default-next_part : goal.returns-in_default-next_part
returns-in_default-next_part c =
    let inv = c.loop-at.invariant in
    let job = c.job-job.result.now in
    c.read_fault-in_default-next_part.ensures
    ∙ (second_absent c.args.image.now job c.args.from c.args.to c.loop-at.at _ _ _ c.in-Some.one.now inv.order c.loop-at-test.true inv.passed
    (ap (λ (n : ℕ). job.source + n) c.from.ensures) c.in-Some.ensures (ap (λ (n : ℕ). job.target + n) c.from-in-loop-at.ensures) c.in_default-next_part.ensures
    ∙ ap (λ (j : Job). scan_found Compare c.args.image.now j c.args.from c.args.to) c.job-job.ensures.job)

pub overflow_cast-at : goal.overflow_cast-at
overflow_cast-at c =
    let left = c.in-Some.ensures in
    let short = length-take c.min-count.result c.in-Some.one.now in
    record { fits = omega (arith, short, left.within, c.first_difference-same.ensures.within, c.min-count.ensures, c.ranges.to.fits) }

pub overflow_add-at : goal.overflow_add-at
overflow_add-at c =
    let left = c.in-Some.ensures in
    let short = length-take c.min-count.result c.in-Some.one.now in
    record { fits = omega (arith, short, left.within, c.first_difference-same.ensures.within, c.min-count.ensures, c.loop-at-test.true, c.ranges.to.fits) }

pub returns-then-same-count : goal.returns-then-same-count
returns-then-same-count c =
    let inv = c.loop-at.invariant in
    let memory = c.args.image.now in
    let job = c.job-job.result.now in
    let one = c.in-Some.one.now in
    let other = c.in-Some-next_part.other.now in
    let left = c.in-Some.ensures in
    let right = c.in-Some-next_part.ensures in
    compare_stops memory job c.args.from c.args.to c.loop-at.at c.min-count.result one other inv.order (omega (arith, c.min-count.ensures, left.within, c.loop-at-test.true)) inv.passed
    (subst (λ n. Holds memory (job.source + n) one) c.from.ensures left.part)
    (subst (λ n. Holds memory (job.target + n) other) c.from-in-loop-at.ensures right.part)
    (omega (arith, c.min-count.ensures)) (omega (arith, c.min-count.ensures)) _ c.first_difference-same.ensures.value c.if-same-count.true
    ∙ ap (λ (j : Job). scan_found Compare memory j c.args.from c.args.to) c.job-job.ensures.job

pub loop-at-preserved : goal.loop-at-preserved
loop-at-preserved c =
    let inv = c.loop-at.invariant in
    let memory = c.args.image.now in
    let job = c.job-job.result.now in
    let at = c.loop-at.at in
    let one = c.in-Some.one.now in
    let other = c.in-Some-next_part.other.now in
    let count = c.min-count.result in
    let same = c.first_difference-same.result in
    let left : Holds memory (job.source + at) one = subst (λ n. Holds memory (job.source + n) one) c.from.ensures c.in-Some.ensures.part in
    let right : Holds memory (job.target + at) other = subst (λ n. Holds memory (job.target + n) other) c.from-in-loop-at.ensures c.in-Some-next_part.ensures.part in
    let left_within : length one ≤ c.args.to - at = c.in-Some.ensures.within in
    let right_within : length other ≤ c.args.to - at = c.in-Some-next_part.ensures.within in
    let in_left : count ≤ length one = omega (arith, c.min-count.ensures) in
    let in_right : count ≤ length other = omega (arith, c.min-count.ensures) in
    let all : same ≡ count = omega (arith, c.if-same-count.false, c.first_difference-same.ensures.within, length-take count one) in
    record {
      order = omega (arith, inv.order);
      within = omega (arith, all, in_left, left_within, c.loop-at-test.true);
      left = part_next memory job.source at count same one left in_left all;
      right = part_next memory job.target at count same other right in_right all;
      left_within = next_within c.args.to at count same one left_within in_left all;
      right_within = next_within c.args.to at count same other right_within in_right all;
      passed =
          passed_more Compare memory job c.args.from at same inv.passed
          (λ i below. compare_passes memory job at count one other left right in_left in_right i (omega (arith, c.first_difference-same.ensures.value)));
    }

pub returns : goal.returns
returns c =
    let inv = c.loop-at.invariant in
    compare_all c.args.image.now c.job-job.result.now c.args.from c.args.to c.loop-at.at inv.order inv.within (omega (arith, c.loop-at-test.false)) inv.passed
    ∙ ap (λ (j : Job). scan_found Compare c.args.image.now j c.args.from c.args.to) c.job-job.ensures.job
