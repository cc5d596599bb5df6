use Rattle.std.proofs.Common.{◌≡◌, ℕ, ◌+◌, ◌-◌, ◌++◌, List, sym, ◌∙◌, ap, ap₂, arith, refl}
use Rattle.dml_types.specs.declared.operations.Op.TheVariants.{Move}
use Rattle.dml_types.specs.declared.jobs.Job.{Job}
use Rattle.dml_types.specs.Memory.{bytes_at, has_all}
use Rattle.dml_types.specs.Bytewise.{operation_direction, lowest_done}
use Rattle.dml_types.specs.Chunk.{scan_staged}
use Rattle.dml_scan.proofs.ReachLemmas.{scan_done_within, done_told}
use Rattle.dml_scan.proofs.StageLemmas.{move_source_present}
use Rattle.dml_scan.proofs.scans.scan_move.Goals as goal

pub done_part-first-requires-clause-within : goal.done_part-first-requires-clause-within
done_part-first-requires-clause-within c =
    let told = done_told Move c.args.image.now c.args.job.now c.args.from c.args.to _ _ c.move_found-found.ensures refl in
    omega (arith, told, scan_done_within Move c.args.image.now c.args.job.now c.args.from c.args.to)

pub stage_source-requires-clause-present : goal.stage_source-requires-clause-present
stage_source-requires-clause-present c =
    let k = c.done_part-first.result.1 in
    let n = c.args.to - c.args.from in
    let done = done_told Move c.args.image.now c.args.job.now c.args.from c.args.to k _ c.move_found-found.ensures c.done_part-first.ensures.count in
    let first : c.done_part-first.result.0 ≡ c.args.from + lowest_done (operation_direction Move c.args.job.now) n k =
    c.done_part-first.ensures.first ∙ ap (λ (job : Job). c.args.from + lowest_done (operation_direction Move job) n k) c.job.ensures.job in
    ap₂ (λ (job : Job) (place : ℕ). has_all c.args.image.now (job.source + place) k) c.job-2.ensures.job first
    ∙ move_source_present c.args.image.now c.args.job.now c.args.from c.args.to k (sym done)

pub returns-clause-staged : goal.returns-clause-staged
unfolding scan_staged
returns-clause-staged c =
    let k = c.done_part-first.result.1 in
    let n = c.args.to - c.args.from in
    let done = done_told Move c.args.image.now c.args.job.now c.args.from c.args.to k _ c.move_found-found.ensures c.done_part-first.ensures.count in
    let first : c.done_part-first.result.0 ≡ c.args.from + lowest_done (operation_direction Move c.args.job.now) n k =
    c.done_part-first.ensures.first ∙ ap (λ (job : Job). c.args.from + lowest_done (operation_direction Move job) n k) c.job.ensures.job in
    c.stage_source.ensures.bytes
    ∙ (ap₂ (λ (old : List ℕ) (job : Job). old ++ bytes_at c.args.image.now (job.source + c.done_part-first.result.0) k) c.requires.empty c.job-2.ensures.job
    ∙ (ap (λ (place : ℕ). bytes_at c.args.image.now (c.args.job.now.source + place) k) first
    ∙ ap (λ (m : ℕ). bytes_at c.args.image.now (c.args.job.now.source + (c.args.from + lowest_done (operation_direction Move c.args.job.now) n m)) m) done))
