use Rattle.std.proofs.Common.{◌≡◌, ℕ, ◌+◌, ◌*◌, ap₂, ◌∙◌, arith}
use Rattle.dml_types.specs.declared.jobs.Job.{Job}
use Rattle.dml_types.specs.Memory.{present_bytes}
use Rattle.dml_delta.proofs.UnitLemmas.{all_counted, has_front}
use Rattle.dml_delta.proofs.PieceLemmas.{first_of_good}
use Rattle.dml_delta.proofs.RecordLemmas.{first_of_none, first_of_absent, first_of_present}
use Rattle.dml_delta.proofs.applies.first_offset.Goals as goal

pub returns-then-good-ge10 : goal.returns-then-good-ge10
returns-then-good-ge10 c =
    first_of_good c.args.image.now c.args.job.now c.args.from c.args.to c.pages-pages.ensures.memory.whole c.args.good.now c.requires.good c.block_number.result (omega (arith, c.if-good-ge10.true)) c.block_number.ensures

pub returns-then-from-to : goal.returns-then-from-to
returns-then-from-to c = first_of_none c.args.image.now c.args.job.now c.args.from c.args.to c.if-from-to.true

pub returns-then-present_bytes-lt10 : goal.returns-then-present_bytes-lt10
returns-then-present_bytes-lt10 c =
    let memory = c.args.image.now in
    let count : c.present_bytes.result ≡ present_bytes memory (c.args.job.now.source + 10 * c.args.from) 10 =
    c.present_bytes.ensures.count ∙ ap₂ (λ (job : Job) (x : ℕ). present_bytes memory (job.source + 10 * x) 10) c.job.ensures.job c.from.ensures in
    first_of_absent memory c.args.job.now c.args.from c.args.to (omega (arith, count, c.if-present_bytes-lt10.true))

pub entry_offset-requires-clause-present : goal.entry_offset-requires-clause-present
entry_offset-requires-clause-present c =
    let memory = c.args.image.now in
    let count : c.present_bytes.result ≡ present_bytes memory (c.args.job.now.source + 10 * c.args.from) 10 =
    c.present_bytes.ensures.count ∙ ap₂ (λ (job : Job) (x : ℕ). present_bytes memory (job.source + 10 * x) 10) c.job.ensures.job c.from.ensures in
    has_front memory (c.args.job.now.source + 10 * c.args.from) 2 10
    (all_counted memory (c.args.job.now.source + 10 * c.args.from) 10 (omega (arith, count, c.if-present_bytes-lt10.false)))
    (omega arith)

pub returns : goal.returns
returns c =
    let memory = c.args.image.now in
    let count : c.present_bytes.result ≡ present_bytes memory (c.args.job.now.source + 10 * c.args.from) 10 =
    c.present_bytes.ensures.count ∙ ap₂ (λ (job : Job) (x : ℕ). present_bytes memory (job.source + 10 * x) 10) c.job.ensures.job c.from.ensures in
    first_of_present memory c.args.job.now c.args.from c.args.to _ c.if-from-to.false
    (all_counted memory (c.args.job.now.source + 10 * c.args.from) 10 (omega (arith, count, c.if-present_bytes-lt10.false)))
    c.entry_offset.ensures
