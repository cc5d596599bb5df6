use Rattle.std.proofs.Common.{◌≡◌, ℕ, ◌+◌, ◌*◌, ◌-◌, ap₂, ◌∙◌, arith}
use Rattle.dml_types.specs.declared.jobs.Job.{Job}
use Rattle.dml_types.specs.Memory.{present_bytes}
use Rattle.dml_delta.proofs.LimitLemmas.{block_within}
use Rattle.dml_delta.proofs.UnitLemmas.{all_counted, has_front}
use Rattle.dml_delta.proofs.applies.bad_entry.Goals as goal

pub entry_offset-offset-requires-clause-present : goal.entry_offset-offset-requires-clause-present
entry_offset-offset-requires-clause-present c =
    let memory = c.args.image.now in
    let count : c.present_bytes-readable.result ≡ present_bytes memory (c.args.job.now.source + 10 * c.args.entry) 10 =
    c.present_bytes-readable.ensures.count ∙ ap₂ (λ (job : Job) (x : ℕ). present_bytes memory (job.source + 10 * x) 10) c.job.ensures.job c.from.ensures in
    has_front memory (c.args.job.now.source + 10 * c.args.entry) 2 10
    (all_counted memory (c.args.job.now.source + 10 * c.args.entry) 10 (omega (arith, count, c.if-readable-lt10.false)))
    (omega arith)

pub entry_offset-requires-clause-present : goal.entry_offset-requires-clause-present
entry_offset-requires-clause-present c =
    has_front c.args.image.now (c.args.job.now.source + 10 * (c.args.entry - 1)) 2 10 (c.requires.present c.if-entry-behind.true) (omega arith)

pub overflow_add-block : goal.overflow_add-block
overflow_add-block c =
    let job = c.args.job.now in
    omega (arith, c.from-2.ensures, c.from-3.ensures, block_within job c.job.result.now c.from-2.result 0 c.job.ensures.checked c.requires.operation c.job.ensures.job c.if-from-size.false (omega arith))

pub overflow_add-block-then-writable-lt8 : goal.overflow_add-block-then-writable-lt8
overflow_add-block-then-writable-lt8 c =
    let job = c.args.job.now in
    let writable = c.present_bytes-writable.result in
    omega (arith, c.from-2.ensures, c.from-3.ensures, c.from-then-writable-lt8.ensures, block_within job c.job.result.now c.from-2.result writable c.job.ensures.checked c.requires.operation c.job.ensures.job c.if-from-size.false c.if-writable-lt8.true)
