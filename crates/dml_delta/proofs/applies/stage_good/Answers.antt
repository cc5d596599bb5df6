use Rattle.std.proofs.Common.{◌≡◌, ℕ, ◌+◌, ◌-◌, ◌*◌, ◌/◌, ◌++◌, List, is_some, length, take, ◌∙◌, ap, ap₂, arith, append_assoc}
use Rattle.dml_types.specs.declared.jobs.Job.{Job}
use Rattle.dml_types.specs.Memory.{bytes_at, has_all, present_bytes}
use Rattle.dml_types.specs.Delta.{entry_fault}
use Rattle.dml_types.proofs.MemoryLemmas.{has_all_from}
use Rattle.dml_delta.proofs.RecordLemmas.{Onward, good_is, good_none, good_present, onward, rest_present, stops_absent, whole_present}
use Rattle.dml_delta.proofs.applies.stage_good.Goals as goal

pub returns-then-from-to-clause-value : goal.returns-then-from-to-clause-value
returns-then-from-to-clause-value c = good_none c.args.image.now c.args.job.now c.args.from c.args.to c.if-from-to.true

pub returns-then-from-to-clause-present : goal.returns-then-from-to-clause-present
returns-then-from-to-clause-present c =
    has_all_from c.args.image.now (c.args.job.now.source + 10 * c.args.from) 0 (λ i below. absurd (omega arith))

pub entries_at-entries-requires-clause-present : goal.entries_at-entries-requires-clause-present
entries_at-entries-requires-clause-present c =
    let memory = c.args.image.now in
    let job = c.args.job.now in
    let count : c.present_bytes-readable.result ≡ present_bytes memory (job.source + 10 * c.args.from) (10 * (c.args.to - c.args.from)) =
    c.present_bytes-readable.ensures.count ∙ ap₂ (λ (j : Job) (x : ℕ). present_bytes memory (j.source + 10 * x) (10 * (c.args.to - c.args.from))) c.job.ensures.job c.from.ensures in
    let readable = c.present_bytes-readable.result / 10 in
    ap₂ (λ (j : Job) (x : ℕ). has_all memory (j.source + 10 * x) (10 * (readable - c.loop-good.good))) c.job.ensures.job c.from-in-loop-good.ensures
    ∙ rest_present memory job.source c.args.from readable c.loop-good.good (whole_present memory (job.source + 10 * c.args.from) (10 * (c.args.to - c.args.from)) c.present_bytes-readable.result count) c.loop-good.invariant.within

pub returns-then-run-entries-clause-value : goal.returns-then-run-entries-clause-value
returns-then-run-entries-clause-value c =
    let memory = c.args.image.now in
    let job = c.args.job.now in
    let from = c.args.from in
    let n = c.args.to - from in
    let done = c.loop-good.good in
    let entries = c.entries_at-entries.result.now in
    let k = c.judge-run.result.good in
    let count : c.present_bytes-readable.result ≡ present_bytes memory (job.source + 10 * from) (10 * n) =
    c.present_bytes-readable.ensures.count ∙ ap₂ (λ (j : Job) (x : ℕ). present_bytes memory (j.source + 10 * x) (10 * n)) c.job.ensures.job c.from.ensures in
    let read : entries ≡ bytes_at memory (job.source + 10 * (from + done)) (length entries) =
    c.entries_at-entries.ensures.bytes ∙ ap₂ (λ (j : Job) (x : ℕ). bytes_at memory (j.source + 10 * x) (length entries)) c.job.ensures.job c.from-in-loop-good.ensures in
    let on : Onward memory job from done k c.loop-good.least entries =
    onward memory job from done (c.present_bytes-readable.result / 10) k c.loop-good.least entries c.entries_at-entries.ensures.memory.whole
    (whole_present memory (job.source + 10 * from) (10 * n) c.present_bytes-readable.result count) c.loop-good.invariant.within c.loop-good.invariant.good c.loop-good.invariant.least read
    c.entries_at-entries.ensures.some c.entries_at-entries.ensures.within c.judge-run.ensures.good c.judge-run.ensures.within in
    good_is memory job from c.args.to (done + k)
    (omega (arith, c.loop-good.invariant.within, c.entries_at-entries.ensures.within, c.judge-run.ensures.within, c.present_bytes-readable.ensures.within))
    on.good (λ below. on.stops c.if-run-entries.true)

pub returns-then-run-entries-clause-present : goal.returns-then-run-entries-clause-present
returns-then-run-entries-clause-present c =
    let memory = c.args.image.now in
    let job = c.args.job.now in
    let from = c.args.from in
    let n = c.args.to - from in
    let done = c.loop-good.good in
    let entries = c.entries_at-entries.result.now in
    let k = c.judge-run.result.good in
    let count : c.present_bytes-readable.result ≡ present_bytes memory (job.source + 10 * from) (10 * n) =
    c.present_bytes-readable.ensures.count ∙ ap₂ (λ (j : Job) (x : ℕ). present_bytes memory (j.source + 10 * x) (10 * n)) c.job.ensures.job c.from.ensures in
    let read : entries ≡ bytes_at memory (job.source + 10 * (from + done)) (length entries) =
    c.entries_at-entries.ensures.bytes ∙ ap₂ (λ (j : Job) (x : ℕ). bytes_at memory (j.source + 10 * x) (length entries)) c.job.ensures.job c.from-in-loop-good.ensures in
    let on : Onward memory job from done k c.loop-good.least entries =
    onward memory job from done (c.present_bytes-readable.result / 10) k c.loop-good.least entries c.entries_at-entries.ensures.memory.whole
    (whole_present memory (job.source + 10 * from) (10 * n) c.present_bytes-readable.result count) c.loop-good.invariant.within c.loop-good.invariant.good c.loop-good.invariant.least read
    c.entries_at-entries.ensures.some c.entries_at-entries.ensures.within c.judge-run.ensures.good c.judge-run.ensures.within in
    good_present memory job from (done + k) on.good

pub returns-then-run-entries-clause-bytes : goal.returns-then-run-entries-clause-bytes
returns-then-run-entries-clause-bytes c =
    let memory = c.args.image.now in
    let job = c.args.job.now in
    let from = c.args.from in
    let n = c.args.to - from in
    let done = c.loop-good.good in
    let entries = c.entries_at-entries.result.now in
    let k = c.judge-run.result.good in
    let count : c.present_bytes-readable.result ≡ present_bytes memory (job.source + 10 * from) (10 * n) =
    c.present_bytes-readable.ensures.count ∙ ap₂ (λ (j : Job) (x : ℕ). present_bytes memory (j.source + 10 * x) (10 * n)) c.job.ensures.job c.from.ensures in
    let read : entries ≡ bytes_at memory (job.source + 10 * (from + done)) (length entries) =
    c.entries_at-entries.ensures.bytes ∙ ap₂ (λ (j : Job) (x : ℕ). bytes_at memory (j.source + 10 * x) (length entries)) c.job.ensures.job c.from-in-loop-good.ensures in
    let on : Onward memory job from done k c.loop-good.least entries =
    onward memory job from done (c.present_bytes-readable.result / 10) k c.loop-good.least entries c.entries_at-entries.ensures.memory.whole
    (whole_present memory (job.source + 10 * from) (10 * n) c.present_bytes-readable.result count) c.loop-good.invariant.within c.loop-good.invariant.good c.loop-good.invariant.least read
    c.entries_at-entries.ensures.some c.entries_at-entries.ensures.within c.judge-run.ensures.good c.judge-run.ensures.within in
    c.push_good.ensures.bytes
    ∙ (ap (λ (xs : List ℕ). xs ++ take (10 * k) entries) c.loop-good.invariant.bytes
    ∙ (append_assoc c.args.room.now.bytes (bytes_at memory (job.source + 10 * from) (10 * done)) (take (10 * k) entries)
    ∙ ap (λ (xs : List ℕ). c.args.room.now.bytes ++ xs) on.bytes))

pub loop-good-preserved : goal.loop-good-preserved
loop-good-preserved c =
    let memory = c.args.image.now in
    let job = c.args.job.now in
    let from = c.args.from in
    let n = c.args.to - from in
    let done = c.loop-good.good in
    let entries = c.entries_at-entries.result.now in
    let k = c.judge-run.result.good in
    let count : c.present_bytes-readable.result ≡ present_bytes memory (job.source + 10 * from) (10 * n) =
    c.present_bytes-readable.ensures.count ∙ ap₂ (λ (j : Job) (x : ℕ). present_bytes memory (j.source + 10 * x) (10 * n)) c.job.ensures.job c.from.ensures in
    let read : entries ≡ bytes_at memory (job.source + 10 * (from + done)) (length entries) =
    c.entries_at-entries.ensures.bytes ∙ ap₂ (λ (j : Job) (x : ℕ). bytes_at memory (j.source + 10 * x) (length entries)) c.job.ensures.job c.from-in-loop-good.ensures in
    let on : Onward memory job from done k c.loop-good.least entries =
    onward memory job from done (c.present_bytes-readable.result / 10) k c.loop-good.least entries c.entries_at-entries.ensures.memory.whole
    (whole_present memory (job.source + 10 * from) (10 * n) c.present_bytes-readable.result count) c.loop-good.invariant.within c.loop-good.invariant.good c.loop-good.invariant.least read
    c.entries_at-entries.ensures.some c.entries_at-entries.ensures.within c.judge-run.ensures.good c.judge-run.ensures.within in
    record {
      within = omega (arith, c.loop-good.invariant.within, c.entries_at-entries.ensures.within, c.judge-run.ensures.within);
      good = on.good;
      least = c.judge-run.ensures.least ∙ on.next;
      opening = c.push_good.ensures.place.opening ∙ c.loop-good.invariant.opening;
      start = c.push_good.ensures.place.start ∙ c.loop-good.invariant.start;
      room = c.push_good.ensures.place.room ∙ c.loop-good.invariant.room;
      bytes = c.push_good.ensures.bytes
          ∙ (ap (λ (xs : List ℕ). xs ++ take (10 * k) entries) c.loop-good.invariant.bytes
          ∙ (append_assoc c.args.room.now.bytes (bytes_at memory (job.source + 10 * from) (10 * done)) (take (10 * k) entries)
          ∙ ap (λ (xs : List ℕ). c.args.room.now.bytes ++ xs) on.bytes));
    }

pub returns-clause-value : goal.returns-clause-value
returns-clause-value c =
    let memory = c.args.image.now in
    let job = c.args.job.now in
    let from = c.args.from in
    let n = c.args.to - from in
    let count : c.present_bytes-readable.result ≡ present_bytes memory (job.source + 10 * from) (10 * n) =
    c.present_bytes-readable.ensures.count ∙ ap₂ (λ (j : Job) (x : ℕ). present_bytes memory (j.source + 10 * x) (10 * n)) c.job.ensures.job c.from.ensures in
    let all : c.loop-good.good ≡ c.present_bytes-readable.result / 10 = omega (arith, c.loop-good.invariant.within, c.loop-good-test.false) in
    good_is memory job from c.args.to c.loop-good.good (omega (arith, all, c.present_bytes-readable.ensures.within)) c.loop-good.invariant.good
    (λ below. ap (λ (k : ℕ). is_some (entry_fault from memory job (from + k))) all ∙ stops_absent memory job from n c.present_bytes-readable.result count (omega (arith, all)))

pub returns-clause-present : goal.returns-clause-present
returns-clause-present c =
    good_present c.args.image.now c.args.job.now c.args.from c.loop-good.good c.loop-good.invariant.good
