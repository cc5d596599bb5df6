use Rattle.std.proofs.Common.{◌≡◌, ℕ, ◌+◌, ◌++◌, List, length, sym, ◌∙◌, ap, ap₂, arith}
use Rattle.dml_types.specs.declared.operations.Op.TheVariants.{Dualcast}
use Rattle.dml_types.specs.declared.jobs.Job.{Job}
use Rattle.dml_types.specs.Memory.{bytes_at, has_all}
use Rattle.dml_types.specs.Chunk.{scan_staged}
use Rattle.dml_scan.proofs.ReachLemmas.{scan_done_within, done_told}
use Rattle.dml_scan.proofs.StageLemmas.{dualcast_source_present}
use Rattle.dml_scan.proofs.scans.scan_dualcast.Goals as goal

pub stage_source-requires-clause-within : goal.stage_source-requires-clause-within
stage_source-requires-clause-within c =
    let done = done_told Dualcast c.args.image.now c.args.job.now c.args.from c.args.to _ _ c.dualcast_found-found.ensures c.done_count-done.ensures in
    let size : c.job.result.now.size ≡ c.args.job.now.size = ap (λ (job : Job). job.size) c.job.ensures.job in
    omega (arith, done, size, scan_done_within Dualcast c.args.image.now c.args.job.now c.args.from c.args.to)

pub stage_source-requires-clause-present : goal.stage_source-requires-clause-present
stage_source-requires-clause-present c =
    let done = done_told Dualcast c.args.image.now c.args.job.now c.args.from c.args.to _ _ c.dualcast_found-found.ensures c.done_count-done.ensures in
    ap (λ (job : Job). has_all c.args.image.now (job.source + c.args.from) c.done_count-done.result) c.job.ensures.job
    ∙ dualcast_source_present c.args.image.now c.args.job.now c.args.from c.args.to _ (sym done)

pub stage_source-requires-clause-fits : goal.stage_source-requires-clause-fits
stage_source-requires-clause-fits c =
    let done = done_told Dualcast c.args.image.now c.args.job.now c.args.from c.args.to _ _ c.dualcast_found-found.ensures c.done_count-done.ensures in
    let empty : length c.args.room.bytes ≡ 0 = ap (λ (bytes : List ℕ). length bytes) c.requires.empty in
    omega (arith, done, empty, scan_done_within Dualcast c.args.image.now c.args.job.now c.args.from c.args.to)

pub returns-clause-staged : goal.returns-clause-staged
unfolding scan_staged
returns-clause-staged c =
    let done = done_told Dualcast c.args.image.now c.args.job.now c.args.from c.args.to _ _ c.dualcast_found-found.ensures c.done_count-done.ensures in
    c.stage_source.ensures.bytes
    ∙ (ap₂ (λ (old : List ℕ) (job : Job). old ++ bytes_at c.args.image.now (job.source + c.args.from) c.done_count-done.result) c.requires.empty c.job.ensures.job
    ∙ ap (λ (n : ℕ). bytes_at c.args.image.now (c.args.job.now.source + c.args.from) n) done)
