use Rattle.std.proofs.Common.{◌≡◌, ℕ, ◌+◌, ◌-◌, ◌*◌, ◌/◌, ◌++◌, List, length, take, sym, ◌∙◌, ap, subst, arith, append_assoc}
use Rattle.std.proofs.lemmas.List.{length-append, length-take-le}
use Rattle.dml_types.specs.declared.jobs.Job.{Job}
use Rattle.dml_types.specs.Delta.{differs, block_entry, readable_blocks}
use Rattle.dml_desc.specs.Checked.{CreateLimits}
use Rattle.dml_segments.specs.Present.{IsPartOfPage}
use Rattle.dml_delta.specs.Entries.{nth_differs, nth_entry, gathered}
use Rattle.dml_delta.proofs.LimitLemmas.{create_limits}
use Rattle.dml_delta.proofs.UnitLemmas.{AreWhole, part_whole, readable_at, readable_more, source_absent, target_absent}
use Rattle.dml_delta.proofs.EntryLemmas.{gathered_split, length_entries, so_far}
use Rattle.dml_delta.proofs.LaneLemmas.{memory_entries}
use Rattle.dml_delta.proofs.creates.add_readable.Goals as goal

pub returns-in_default-clause-value : goal.returns-in_default-clause-value
returns-in_default-clause-value c =
    let memory = c.args.image.now in
    let job = c.job-job.result.now in
    let limits : CreateLimits job = subst CreateLimits (sym c.job-job.ensures.job) (create_limits c.args.job.now c.job-job.ensures.checked c.requires.operation) in
    readable_at memory job c.args.from c.args.to c.loop-done.done c.loop-done.invariant.within c.loop-done.invariant.readable
    (λ below. source_absent memory job (c.args.from + c.loop-done.done) c.from-first.result c.from-first.ensures limits.aligned_source c.in_default.ensures.part)
    ∙ ap (λ (j : Job). readable_blocks memory j c.args.from c.args.to) c.job-job.ensures.job

pub returns-in_default-present_part-clause-value : goal.returns-in_default-present_part-clause-value
returns-in_default-present_part-clause-value c =
    let memory = c.args.image.now in
    let job = c.job-job.result.now in
    let limits : CreateLimits job = subst CreateLimits (sym c.job-job.ensures.job) (create_limits c.args.job.now c.job-job.ensures.checked c.requires.operation) in
    readable_at memory job c.args.from c.args.to c.loop-done.done c.loop-done.invariant.within c.loop-done.invariant.readable
    (λ below. target_absent memory job (c.args.from + c.loop-done.done) c.from-first.result c.from-first.ensures limits.aligned_target c.in_default-present_part.ensures.part)
    ∙ ap (λ (j : Job). readable_blocks memory j c.args.from c.args.to) c.job-job.ensures.job

pub returns-clause-value : goal.returns-clause-value
returns-clause-value c =
    let memory = c.args.image.now in
    let job = c.job-job.result.now in
    readable_at memory job c.args.from c.args.to c.loop-done.done c.loop-done.invariant.within c.loop-done.invariant.readable (λ below. absurd (omega (arith, c.loop-done-test.false)))
    ∙ ap (λ (j : Job). readable_blocks memory j c.args.from c.args.to) c.job-job.ensures.job

pub add_differing-requires-clause-whole : goal.add_differing-requires-clause-whole
add_differing-requires-clause-whole c =
    let job = c.job-job.result.now in
    let limits : CreateLimits job = subst CreateLimits (sym c.job-job.ensures.job) (create_limits c.args.job.now c.job-job.ensures.checked c.requires.operation) in
    let one = c.in-Some.ensures.part in
    let other = c.in-Some-present_part.ensures.part in
    let taken = length-take-le c.min-len.result c.in-Some.one.now (omega (arith, c.min-len.ensures)) in
    omega (arith, taken, c.min-len.ensures, one.size, other.size, limits.aligned_source, limits.aligned_target)

pub add_differing-requires-clause-fits : goal.add_differing-requires-clause-fits
add_differing-requires-clause-fits c =
    let memory = c.args.image.now in
    let job = c.job-job.result.now in
    let len = c.min-len.result in
    let entries = gathered (block_entry memory job) (differs memory job) c.args.from c.loop-done.done in
    let before = length-append c.args.room.now.bytes c.args.entries.now in
    let long = so_far (c.args.room.now.bytes ++ c.args.entries.now) entries c.loop-done.room.bytes c.loop-done.entries c.loop-done.invariant.bytes in
    let short = length_entries memory job (differs memory job) c.args.from c.loop-done.done in
    let taken = length-take-le len c.in-Some.one.now (omega (arith, c.min-len.ensures)) in
    omega (arith, before, long, short, taken, c.min-len.ensures, c.in-Some.ensures.part.size, c.requires.fits, c.loop-done.invariant.room)

pub add_differing-requires-clause-numbers : goal.add_differing-requires-clause-numbers
add_differing-requires-clause-numbers c =
    let limits = create_limits c.args.job.now c.job-job.ensures.checked c.requires.operation in
    let taken = length-take-le c.min-len.result c.in-Some.one.now (omega (arith, c.min-len.ensures)) in
    omega (arith, taken, c.min-len.ensures, c.in-Some.ensures.part.size, limits.size, c.requires.within, c.loop-done-test.true)

pub overflow_cast-done : goal.overflow_cast-done
overflow_cast-done c = record { fits = omega (arith, c.min-len.ensures, c.in-Some.ensures.part.size, c.ranges.to.fits) }

pub overflow_add-done : goal.overflow_add-done
overflow_add-done c =
    record { fits = omega (arith, c.min-len.ensures, c.in-Some.ensures.part.size, c.loop-done-test.true, c.ranges.to.fits) }

pub loop-done-smaller : goal.loop-done-smaller
loop-done-smaller c =
    let job = c.job-job.result.now in
    let limits : CreateLimits job = subst CreateLimits (sym c.job-job.ensures.job) (create_limits c.args.job.now c.job-job.ensures.checked c.requires.operation) in
    omega (arith, c.min-len.ensures, c.in-Some.ensures.part.size, c.in-Some-present_part.ensures.part.size, limits.aligned_source, limits.aligned_target, c.loop-done-test.true)

pub loop-done-preserved : goal.loop-done-preserved
loop-done-preserved c =
    let memory = c.args.image.now in
    let job = c.job-job.result.now in
    let entry = block_entry memory job in
    let test = differs memory job in
    let from = c.args.from in
    let done = c.loop-done.done in
    let len = c.min-len.result in
    let left = c.args.to - from - done in
    let one = c.in-Some.one.now in
    let other = c.in-Some-present_part.other.now in
    let n = len / 8 in
    let old = c.args.room.now.bytes ++ c.args.entries.now in
    let here = c.loop-done.room.bytes ++ c.loop-done.entries in
    let limits : CreateLimits job = subst CreateLimits (sym c.job-job.ensures.job) (create_limits c.args.job.now c.job-job.ensures.checked c.requires.operation) in
    let read : IsPartOfPage memory (job.source + 8 * (from + done)) (8 * left) one = subst (λ (b : ℕ). IsPartOfPage memory (job.source + 8 * b) (8 * left) one) c.from-first.ensures c.in-Some.ensures.part in
    let also : IsPartOfPage memory (job.target + 8 * (from + done)) (8 * left) other = subst (λ (b : ℕ). IsPartOfPage memory (job.target + 8 * b) (8 * left) other) c.from-first.ensures c.in-Some-present_part.ensures.part in
    let source : AreWhole memory (job.source + 8 * (from + done)) (8 * left) one = part_whole memory (job.source + 8 * (from + done)) left one read (omega (arith, limits.aligned_source)) (omega (arith, c.loop-done-test.true)) in
    let target : AreWhole memory (job.target + 8 * (from + done)) (8 * left) other = part_whole memory (job.target + 8 * (from + done)) left other also (omega (arith, limits.aligned_target)) (omega (arith, c.loop-done-test.true)) in
    let taken = length-take-le len one (omega (arith, c.min-len.ensures)) in
    let count : length (take len one) / 8 ≡ n = ap (λ (m : ℕ). m / 8) taken in
    let more : gathered (nth_entry (from + done) (take len other)) (nth_differs (take len one) (take len other)) 0 (length (take len one) / 8) ≡ gathered entry test (from + done) n =
    ap (gathered (nth_entry (from + done) (take len other)) (nth_differs (take len one) (take len other)) 0) count
    ∙ memory_entries memory job one other (from + done) len n read.content also.content (omega (arith, c.min-len.ensures)) (omega (arith, c.min-len.ensures)) (omega arith) in
    record {
      within = omega (arith, c.min-len.ensures, source.within);
      readable =
          readable_more memory job from done n c.loop-done.invariant.readable
          (λ i below. source.here i (omega (arith, below, c.min-len.ensures)))
          (λ i below. target.here i (omega (arith, below, c.min-len.ensures)));
      opening = c.add_differing.ensures.place.opening ∙ c.loop-done.invariant.opening;
      start = c.add_differing.ensures.place.start ∙ c.loop-done.invariant.start;
      room = c.add_differing.ensures.place.room ∙ c.loop-done.invariant.room;
      bytes =
          c.add_differing.ensures.bytes
          ∙ (ap (λ (xs : List ℕ). here ++ xs) more
          ∙ (ap (λ (xs : List ℕ). xs ++ gathered entry test (from + done) n) c.loop-done.invariant.bytes
          ∙ (append_assoc old (gathered entry test from done) (gathered entry test (from + done) n)
          ∙ ap (λ (xs : List ℕ). old ++ xs) (sym (gathered_split entry test from done n)))));
    }
